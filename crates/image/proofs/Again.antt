-- The word that spells an instruction is read as that instruction.
use Rattle.std.proofs.Common.{◌≡◌, ℕ, zero, suc, ◌+◌, ◌<◌, ◌≤◌, ◌^◌, Bool, true, not, ◌&&◌, List, [], ◌∷◌, ◌++◌, get_or, Result, Ok, refl, sym, ap, subst, ◌∙◌, arith}
use Rattle.std.specs.Prelude.{IfSome}
use Rattle.std.specs.List.{list_any}
use Rattle.std.proofs.lemmas.Bool.{and_parts, true≢false}
use Rattle.image.specs.declared.fault.ImageFault.{ImageFault}
use Rattle.image.specs.declared.edition.Edition.{Edition}
use Rattle.image.specs.declared.edition.Edition.TheVariants.{Former, Current}
use Rattle.image.specs.declared.reading.Scope.{Scope}
use Rattle.image.specs.declared.word.Word.{Word}
use Rattle.image.specs.Reading.{below, byte_of, edition_had, field_in, form_in, instruction_in, leaves, none_or_below, one, operand_in, operands_in, return_in, size_of, status_in, takes_last, used_from, using}
use Rattle.image.specs.Spelling.{field_number, last_of, last_with, operand_bytes, operands_bytes, or_none, return_bytes, status_number, word_of}
use Rattle.image.proofs.Editions.{Has}
use Rattle.image.proofs.Numbers.{below_again, field_again, none_or_below_again, status_again, turns_again}
use Rattle.image.proofs.Words.{StandAt, word_said}
use Rattle.model.proofs.InstructionForm.{AllFit, Fits, all_fit, built_again, forms_tell_editions}
use Rattle.model.specs.declared.instr.Instr.{Instr}
use Rattle.model.specs.declared.instr.Instr.TheVariants.{Const, Ret}
use Rattle.model.specs.declared.instr.Return.{Return}
use Rattle.model.specs.declared.instr.Return.TheVariants.{WithStatus, Lower, Continue, Stop, Void}
use Rattle.model.specs.declared.limits.TheConstants.{CELLS, MAX_INSTRUCTIONS, REGISTERS, SPIN_LOCKS}
use Rattle.model.specs.InstructionForm.{Editions, Both, SecondAlone, is_second_alone, Operand, ARegister, ACell, APagedCell, ASpinLock, AConstant, ATurns, AField, AStatus, AQueue, ALabel, ARoutine, AReturn, ValueOf, Values, made_of, said}
use Rattle.model.specs.Edition.{is_dequeue}
use Rattle.model.specs.Sound.{FormFits, OperandFits, LabelFits, QueueFits, completion_named}

-- all operands of an instruction are in their ranges, and the edition has it
pub record InRange (scope : Scope) (i : Instr) : Type 0 where
  pub operands : OperandFits i
  pub label : LabelFits scope.positions i
  pub queue : QueueFits scope.queues i
  pub called : IfSome (completion_named i) (λ f. f < scope.routines)
  pub had : Has scope.edition (is_dequeue i)

-- an operand is
abbrev FitsIn : Scope → (operand : Operand) → ValueOf operand → Type 0
FitsIn scope operand value =
    Fits (λ f. f < scope.routines) (λ q. q < scope.queues) (λ label. label < scope.positions)
    operand value

abbrev AllFitIn : Scope → (operands : List Operand) → Values operands → Type 0
AllFitIn scope operands values =
    AllFit (λ f. f < scope.routines) (λ q. q < scope.queues) (λ label. label < scope.positions)
    operands values

all_fit_in : (scope : Scope) (i : Instr) → InRange scope i
    → AllFitIn scope (said i).form.operands (said i).values
all_fit_in scope i h = all_fit _ _ _ i h.operands h.label h.queue h.called

-- ---- an operand

-- what is read of a byte that stands there
read_of : {A : Type 0} (reads : ℕ → Result A ImageFault) (a : A) (n : ℕ) (bytes : List ℕ)
    (place : ℕ) (w : Word) → StandAt (n ∷ bytes) place w → reads n ≡ Ok a
    → reads (byte_of w place) ≡ Ok a
read_of reads a n bytes place w stand e =
    let same : place + 0 ≡ place = omega arith in
    subst (λ b. reads b ≡ Ok a) (stand 0 ∙ ap (byte_of w) same) e

behind_byte : (n : ℕ) (bytes : List ℕ) (place : ℕ) (w : Word) → StandAt (n ∷ bytes) place w
    → StandAt bytes (place + 1) w
behind_byte n bytes place w stand k =
    let same : place + suc k ≡ (place + 1) + k = omega arith in stand (suc k) ∙ ap (byte_of w) same

first_byte : (n : ℕ) (bytes : List ℕ) (place : ℕ) (w : Word) → StandAt (n ∷ bytes) place w
    → n ≡ byte_of w place
first_byte n bytes place w stand =
    let same : place + 0 ≡ place = omega arith in stand 0 ∙ ap (byte_of w) same

return_of : (value : Return) (rest : List ℕ) (place : ℕ) (w : Word) → FormFits value
    → StandAt (return_bytes value ++ rest) place w
    → return_in (byte_of w place) (byte_of w (place + 1)) ≡ Ok value
return_of (WithStatus s) rest place w fits stand =
    let bytes = status_number s ∷ rest in
    rw (
      ← first_byte 0 bytes place w stand,
      ← first_byte (status_number s) rest (place + 1) w (behind_byte 0 bytes place w stand),
    ) (rw (status_again s) refl)
return_of (Lower r) rest place w fits stand =
    let bytes = r ∷ rest in
    rw (
      ← first_byte 1 bytes place w stand,
      ← first_byte r rest (place + 1) w (behind_byte 1 bytes place w stand),
    ) (rw (below_again REGISTERS r fits) refl)
return_of Continue rest place w fits stand = rw (← first_byte 2 rest place w stand) refl
return_of Stop rest place w fits stand = rw (← first_byte 3 rest place w stand) refl
return_of Void rest place w fits stand = rw (← first_byte 4 rest place w stand) refl

-- an operand whose bytes stand there is read
operand_again : (scope : Scope) → scope.routines ≤ 255 → (operand : Operand) (place : ℕ)
    (w : Word) (value : ValueOf operand) (rest : List ℕ) → FitsIn scope operand value
    → StandAt (operand_bytes operand value ++ rest) place w
    → (takes_last operand ≡ true → last_with operand value 0 ≡ w.last)
    → operand_in scope operand place w ≡ Ok value
operand_again scope few ARegister place w r rest fits stand last =
    read_of (below REGISTERS) r r rest place w stand (below_again REGISTERS r fits)
operand_again scope few ACell place w c rest fits stand last =
    read_of (below CELLS) c c rest place w stand (below_again CELLS c fits)
operand_again scope few APagedCell place w c rest fits stand last =
    read_of (below CELLS) c c rest place w stand (below_again CELLS c fits)
operand_again scope few ASpinLock place w lock rest fits stand last =
    read_of (below SPIN_LOCKS) lock lock rest place w stand (below_again SPIN_LOCKS lock fits)
operand_again scope few AConstant place w n rest fits stand last = rw (last refl) refl
operand_again scope few ATurns place w turns rest fits stand last =
    rw (← last refl) (turns_again turns fits.0 fits.1)
operand_again scope few AField place w field rest fits stand last =
    read_of field_in field (field_number field) rest place w stand (field_again field)
operand_again scope few AStatus place w status rest fits stand last =
    read_of status_in status (status_number status) rest place w stand (status_again status)
operand_again scope few AQueue place w q rest fits stand last =
    read_of (below scope.queues) q q rest place w stand (below_again scope.queues q fits)
operand_again scope few ALabel place w label rest fits stand last =
    rw (← last refl) (below_again scope.positions label fits)
operand_again scope few ARoutine place w f rest fits stand last =
    read_of (none_or_below scope.routines) f (or_none f) rest place w stand
    (none_or_below_again scope.routines few f fits)
operand_again scope few AReturn place w form rest fits stand last =
    return_of form rest place w fits stand

-- and what is behind it stands there
no_byte_behind : (bytes : List ℕ) (place : ℕ) (w : Word) → StandAt bytes place w
    → StandAt bytes (place + 0) w
no_byte_behind bytes place w stand =
    let same : place ≡ place + 0 = omega arith in subst (λ p. StandAt bytes p w) same stand

behind_two : (n m : ℕ) (bytes : List ℕ) (place : ℕ) (w : Word) → StandAt (n ∷ m ∷ bytes) place w
    → StandAt bytes (place + 2) w
behind_two n m bytes place w stand =
    let same : (place + 1) + 1 ≡ place + 2 = omega arith in
    subst (λ p. StandAt bytes p w) same
    (behind_byte m bytes (place + 1) w (behind_byte n (m ∷ bytes) place w stand))

behind_return : (value : Return) (rest : List ℕ) (place : ℕ) (w : Word)
    → StandAt (return_bytes value ++ rest) place w
    → StandAt rest (place + size_of AReturn (byte_of w place)) w
behind_return (WithStatus s) rest place w stand =
    rw (← first_byte 0 (status_number s ∷ rest) place w stand)
    (behind_two 0 (status_number s) rest place w stand)
behind_return (Lower r) rest place w stand =
    rw (← first_byte 1 (r ∷ rest) place w stand) (behind_two 1 r rest place w stand)
behind_return Continue rest place w stand =
    rw (← first_byte 2 rest place w stand) (behind_byte 2 rest place w stand)
behind_return Stop rest place w stand =
    rw (← first_byte 3 rest place w stand) (behind_byte 3 rest place w stand)
behind_return Void rest place w stand =
    rw (← first_byte 4 rest place w stand) (behind_byte 4 rest place w stand)

operand_behind : (operand : Operand) (place : ℕ) (w : Word) (value : ValueOf operand)
    (rest : List ℕ) → StandAt (operand_bytes operand value ++ rest) place w
    → StandAt rest (place + size_of operand (byte_of w place)) w
operand_behind AConstant place w n rest stand = no_byte_behind rest place w stand
operand_behind ATurns place w turns rest stand = no_byte_behind rest place w stand
operand_behind ALabel place w label rest stand = no_byte_behind rest place w stand
operand_behind AReturn place w form rest stand = behind_return form rest place w stand
operand_behind _ place w value rest stand = behind_byte _ rest place w stand

-- ---- all operands

-- at most one takes the last four bytes
abbrev few_last : List Operand → Bool
few_last [] = true
few_last (operand ∷ operands) =
    not (takes_last operand && list_any takes_last operands) && few_last operands

last_is : (operand : Operand) (value : ValueOf operand) (other last : ℕ)
    → last_with operand value other ≡ last → takes_last operand ≡ true
    → last_with operand value 0 ≡ last
last_is AConstant n other last is wide = is
last_is ATurns turns other last is wide = is
last_is ALabel label other last is wide = is
last_is _ value other last is wide = cc

no_other : (wide : Bool) → wide ≡ true → not wide ≡ true → ⊥
no_other wide is isnt = true≢false (sym (rw is at isnt))

last_behind : (operand : Operand) (operands : List Operand) (value : ValueOf operand)
    (other last : ℕ) → not (takes_last operand && list_any takes_last operands) ≡ true
    → (list_any takes_last (operand ∷ operands) ≡ true
    → last_with operand value other ≡ last) → list_any takes_last operands ≡ true → other ≡ last
last_behind AConstant operands n other last few is wide =
    absurd (no_other (list_any takes_last operands) wide few)
last_behind ATurns operands turns other last few is wide =
    absurd (no_other (list_any takes_last operands) wide few)
last_behind ALabel operands label other last few is wide =
    absurd (no_other (list_any takes_last operands) wide few)
last_behind _ operands value other last few is wide = is wide

operands_again : (scope : Scope) → scope.routines ≤ 255 → (operands : List Operand)
    (place : ℕ) (w : Word) (values : Values operands) → AllFitIn scope operands values
    → StandAt (operands_bytes operands values) place w → few_last operands ≡ true
    → (list_any takes_last operands ≡ true → last_of operands values ≡ w.last)
    → operands_in scope operands place w ≡ Ok values
operands_again scope few [] place w values fits stand one last = refl
operands_again scope few (operand ∷ operands) place w values fits stand one last =
    let parts = and_parts (not (takes_last operand && list_any takes_last operands))
    (few_last operands) one in
    let rest = operands_bytes operands values.1 in
    let first = operand_again scope few operand place w values.0 rest fits.0 stand
    (λ wide. last_is operand values.0 (last_of operands values.1) w.last
    (last (rw wide refl)) wide) in
    let others = operands_again scope few operands (place + size_of operand (byte_of w place)) w
    values.1 fits.1 (operand_behind operand place w values.0 rest stand) parts.1
    (last_behind operand operands values.0 (last_of operands values.1) w.last parts.0 last) in
    rw first (rw others refl)

-- ---- an instruction

few_lasts : (i : Instr) → few_last (said i).form.operands ≡ true
few_lasts (Const r n) = refl
few_lasts _ = refl

found : (scope : Scope) (i : Instr) → instruction_in scope (word_of i)
    ≡ edition_had scope.edition (said i).form.editions (form_in scope (word_of i) (said i).form)
found scope (Const r n) = refl
found scope _ = refl

had_again : {A : Type 0} (edition : Edition) (editions : Editions) (read : Result A ImageFault)
    → Has edition (is_second_alone editions) → edition_had edition editions read ≡ read
had_again edition Both read had = refl
had_again Former SecondAlone read had = absurd cc
had_again Current SecondAlone read had = refl

left : (i : Instr) → leaves (used_from (said i).form.operands 0 (word_of i))
    (list_any takes_last (said i).form.operands) (word_of i) ≡ true
left (Const r n) = refl
left (Ret (WithStatus s)) = refl
left (Ret (Lower r)) = refl
left (Ret Continue) = refl
left (Ret Stop) = refl
left (Ret Void) = refl
left _ = refl

none_past : (i : Instr) (k : ℕ)
    → get_or (operands_bytes (said i).form.operands (said i).values) (suc (suc (suc k))) 0 ≡ 0
none_past (Const r n) k = refl
none_past (Ret (WithStatus s)) k = refl
none_past (Ret (Lower r)) k = refl
none_past (Ret Continue) k = refl
none_past (Ret Stop) k = refl
none_past (Ret Void) k = refl
none_past _ k = refl

standing : (i : Instr)
    → StandAt (operands_bytes (said i).form.operands (said i).values) 0 (word_of i)
standing i zero = ap (λ (w : Word). w.first) (sym (word_said i))
standing i (suc zero) = ap (λ (w : Word). w.second) (sym (word_said i))
standing i (suc (suc zero)) = ap (λ (w : Word). w.third) (sym (word_said i))
standing i (suc (suc (suc k))) =
    let same : suc (suc (suc k)) ≡ 0 + suc (suc (suc k)) = omega arith in
    none_past i k ∙ ap (byte_of (word_of i)) same

using_all : {A : Type 0} (used : ℕ) (wide : Bool) (w : Word) (read : Result A ImageFault)
    → leaves used wide w ≡ true → using used wide w read ≡ read
using_all used wide w read left = rw left refl

pub instruction_again : (scope : Scope) → scope.routines ≤ 255 → (i : Instr) → InRange scope i
    → instruction_in scope (word_of i) ≡ Ok i
instruction_again scope few i h =
    let operands = (said i).form.operands in
    let again = operands_again scope few operands 0 (word_of i) (said i).values
    (all_fit_in scope i h) (standing i) (few_lasts i)
    (λ wide. ap (λ (w : Word). w.last) (sym (word_said i))) in
    let form = (said i).form in
    let has = subst (λ second. Has scope.edition second) (sym (forms_tell_editions i)) h.had in
    found scope i
    ∙ had_again scope.edition form.editions (form_in scope (word_of i) form) has
    ∙ using_all (used_from operands 0 (word_of i)) (list_any takes_last operands) (word_of i)
    (one (made_of operands (said i).form.makes) (operands_in scope operands 0 (word_of i)))
    (left i)
    ∙ ap (one (made_of operands (said i).form.makes)) again
    ∙ ap (λ (i : Instr). Ok i) (built_again i)

-- the last four bytes hold what is in them
with_small : (scope : Scope) → scope.positions ≤ MAX_INSTRUCTIONS → (operand : Operand)
    (value : ValueOf operand) (other : ℕ) → FitsIn scope operand value → other < 2 ^ 32
    → last_with operand value other < 2 ^ 32
with_small scope few AConstant n other fits small = fits
with_small scope few ATurns turns other fits small = omega (arith, fits.1)
with_small scope few ALabel label other fits small = omega (arith, few, fits)
with_small scope few _ value other fits small = small

last_small : (scope : Scope) → scope.positions ≤ MAX_INSTRUCTIONS → (operands : List Operand)
    (values : Values operands) → AllFitIn scope operands values → last_of operands values < 2 ^ 32
last_small scope few [] values fits = omega arith
last_small scope few (operand ∷ operands) values fits =
    with_small scope few operand values.0 (last_of operands values.1) fits.0
    (last_small scope few operands values.1 fits.1)

pub last_fits : (scope : Scope) → scope.positions ≤ MAX_INSTRUCTIONS → (i : Instr)
    → InRange scope i → (word_of i).last < 2 ^ 32
last_fits scope few i h =
    rw (word_said i)
    (last_small scope few (said i).form.operands (said i).values (all_fit_in scope i h))
