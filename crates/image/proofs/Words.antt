-- The instruction that is read of a word is spelled by that word.
use Rattle.std.proofs.Common.{◌≡◌, ℕ, suc, zero, ◌+◌, ◌≤◌, ◌&&◌, ◌||◌, Bool, true, false, cond, nat_eq, List, [], ◌∷◌, ◌++◌, get_or, Result, Ok, Err, refl, sym, ap, subst, ◌∙◌, arith}
use Rattle.std.specs.List.{list_any, AllByRecursion}
use Rattle.std.proofs.lemmas.Bool.{and_parts, le-ltb}
use Rattle.image.specs.declared.fault.ImageFault.{ImageFault}
use Rattle.image.specs.declared.fault.ImageFault.TheVariants.{BadOpcode}
use Rattle.image.specs.declared.edition.Edition.{Edition}
use Rattle.image.specs.declared.edition.Edition.TheVariants.{Former, Current}
use Rattle.image.specs.declared.reading.Scope.{Scope}
use Rattle.image.specs.declared.word.Word.{Word}
use Rattle.image.specs.Reading.{byte_of, edition_had, form_in, in_forms, instruction_in, is_zero_from, leaves, operand_in, operands_in, register_in, return_in, size_of, status_in, takes_last, used_from, using}
use Rattle.image.specs.Spelling.{form_word, last_of, last_with, operand_bytes, operands_bytes, or_none, return_bytes, word, word_of}
use Rattle.image.proofs.Numbers.{below_inverse, field_inverse, none_or_below_inverse, status_inverse, turns_inverse, bind_ok, ok_is, one_ok, row_is, zero_test}
use Rattle.image.proofs.Editions.{Has}
use Rattle.model.proofs.InstructionForm.{forms_are_inverse, forms_tell_editions}
use Rattle.model.specs.declared.instr.Instr.{Instr}
use Rattle.model.specs.declared.instr.Instr.TheVariants.{Const}
use Rattle.model.specs.declared.instr.Return.{Return}
use Rattle.model.specs.declared.instr.Return.TheVariants.{WithStatus, Lower, Continue, Stop, Void}
use Rattle.model.specs.declared.limits.TheConstants.{CELLS, REGISTERS, SPIN_LOCKS}
use Rattle.model.specs.Edition.{is_dequeue}
use Rattle.model.specs.InstructionForm.{Editions, Both, SecondAlone, is_second_alone, Operand, ARegister, ACell, APagedCell, ASpinLock, AConstant, ATurns, AField, AStatus, AQueue, ALabel, ARoutine, AReturn, Form, Said, SaysAgain, ValueOf, Values, forms, made_of, said}

word_is : (w : Word) (number first second third last : ℕ) → w.number ≡ number → first ≡ w.first
    → second ≡ w.second → third ≡ w.third → last ≡ w.last → word number first second third last ≡ w
word_is w number first second third last e0 e1 e2 e3 e4 =
    rw (← e0, e1, e2, e3, e4) refl

-- what a word says whose unused bytes are zero
used_ok : {A : Type 0} (used : ℕ) (wide : Bool) (w : Word) (read : Result A ImageFault) (a : A)
    → using used wide w read ≡ Ok a → (leaves used wide w ≡ true) × (read ≡ Ok a)
used_ok used wide w read a e = decided (leaves used wide w) read a e
  where
    decided : {A : Type 0} (b : Bool) (read : Result A ImageFault) (a : A)
        → cond b read (Err BadOpcode) ≡ Ok a → (b ≡ true) × (read ≡ Ok a)
    decided true read a e = (refl, e)
    decided false read a e = absurd cc

-- what is unused is zero
abbrev pub IsZeroFrom : ℕ → Word → Type 0
IsZeroFrom used w = (k : ℕ) → used ≤ k → byte_of w k ≡ 0

zero_past : (used place n : ℕ) → is_zero_from used place n ≡ true → used ≤ place → n ≡ 0
zero_past used place n e past = zero_test n (sym (rw (le-ltb place used past) refl) ∙ e)

leaves_zero : (used : ℕ) (wide : Bool) (w : Word) → leaves used wide w ≡ true
    → IsZeroFrom used w × ((wide || nat_eq w.last 0) ≡ true)
leaves_zero used wide w e =
    let a = is_zero_from used 0 w.first in
    let b = is_zero_from used 1 w.second in
    let c = is_zero_from used 2 w.third in
    let last = and_parts (a && b && c) (wide || nat_eq w.last 0) e in
    let third = and_parts (a && b) c last.0 in
    let both = and_parts a b third.0 in
    (at_place used w both.0 both.1 third.1, last.1)
  where
    at_place : (used : ℕ) (w : Word) → is_zero_from used 0 w.first ≡ true
        → is_zero_from used 1 w.second ≡ true → is_zero_from used 2 w.third ≡ true
        → IsZeroFrom used w
    at_place used w a b c zero past = zero_past used 0 w.first a past
    at_place used w a b c (suc zero) past = zero_past used 1 w.second b past
    at_place used w a b c (suc (suc zero)) past = zero_past used 2 w.third c past
    at_place used w a b c (suc (suc (suc k))) past = refl

-- these bytes, and zeros behind them, are those of the word from a place on
abbrev pub StandAt : List ℕ → ℕ → Word → Type 0
StandAt bytes place w = (k : ℕ) → get_or bytes k 0 ≡ byte_of w (place + k)

no_byte : (bytes : List ℕ) (place : ℕ) (w : Word) → StandAt bytes (place + 0) w
    → StandAt bytes place w
no_byte bytes place w stand =
    let same : place + 0 ≡ place = omega arith in subst (λ p. StandAt bytes p w) same stand

pub one_byte : (n : ℕ) (bytes : List ℕ) (place : ℕ) (w : Word) → n ≡ byte_of w place
    → StandAt bytes (place + 1) w → StandAt (n ∷ bytes) place w
one_byte n bytes place w is stand zero =
    let same : place ≡ place + 0 = omega arith in is ∙ ap (byte_of w) same
one_byte n bytes place w is stand (suc k) =
    let same : (place + 1) + k ≡ place + suc k = omega arith in stand k ∙ ap (byte_of w) same

two_bytes : (n m : ℕ) (bytes : List ℕ) (place : ℕ) (w : Word) → n ≡ byte_of w place
    → m ≡ byte_of w (place + 1) → StandAt bytes (place + 2) w → StandAt (n ∷ m ∷ bytes) place w
two_bytes n m bytes place w is is_too stand =
    let same : place + 2 ≡ (place + 1) + 1 = omega arith in
    one_byte n (m ∷ bytes) place w is
    (one_byte m bytes (place + 1) w is_too (subst (λ p. StandAt bytes p w) same stand))

return_takes : (form n : ℕ) (place : ℕ) (w : Word) (value : Return) (rest : List ℕ)
    → form ≡ byte_of w place → n ≡ byte_of w (place + 1) → return_in form n ≡ Ok value
    → StandAt rest (place + size_of AReturn form) w → StandAt (return_bytes value ++ rest) place w
return_takes form n place w value rest first second e stand =
    let behind = λ (k : ℕ) (is : form ≡ k). subst (λ f. StandAt rest (place + size_of AReturn f) w)
    is stand in
    row_is form 0 _ _ value e
    (λ is said. let s = one_ok (λ s. WithStatus s) (status_in n) value said in
    subst (λ v. StandAt (return_bytes v ++ rest) place w) s.2
    (two_bytes 0 _ rest place w (sym is ∙ first) (sym (status_inverse n s.0 s.1) ∙ second)
    (behind 0 is)))
    (λ e1.
    row_is form 1 _ _ value e1
    (λ is said. let r = one_ok (λ r. Lower r) (register_in n) value said in
    subst (λ v. StandAt (return_bytes v ++ rest) place w) r.2
    (two_bytes 1 _ rest place w (sym is ∙ first) (sym (below_inverse REGISTERS n r.0 r.1) ∙ second)
    (behind 1 is)))
    (λ e2.
    row_is form 2 _ _ value e2
    (λ is said. subst (λ v. StandAt (return_bytes v ++ rest) place w) (ok_is Continue value said)
    (one_byte 2 rest place w (sym is ∙ first) (behind 2 is)))
    (λ e3.
    row_is form 3 _ _ value e3
    (λ is said. subst (λ v. StandAt (return_bytes v ++ rest) place w) (ok_is Stop value said)
    (one_byte 3 rest place w (sym is ∙ first) (behind 3 is)))
    (λ e4.
    row_is form 4 _ _ value e4
    (λ is said. subst (λ v. StandAt (return_bytes v ++ rest) place w) (ok_is Void value said)
    (one_byte 4 rest place w (sym is ∙ first) (behind 4 is)))
    (λ e5. absurd cc)))))

operand_takes : (scope : Scope) (operand : Operand) (place : ℕ) (w : Word)
    (value : ValueOf operand) (rest : List ℕ) → operand_in scope operand place w ≡ Ok value
    → StandAt rest (place + size_of operand (byte_of w place)) w
    → StandAt (operand_bytes operand value ++ rest) place w
operand_takes scope ARegister place w r rest e stand =
    one_byte r rest place w (sym (below_inverse REGISTERS (byte_of w place) r e)) stand
operand_takes scope ACell place w c rest e stand =
    one_byte c rest place w (sym (below_inverse CELLS (byte_of w place) c e)) stand
operand_takes scope APagedCell place w c rest e stand =
    one_byte c rest place w (sym (below_inverse CELLS (byte_of w place) c e)) stand
operand_takes scope ASpinLock place w lock rest e stand =
    one_byte lock rest place w (sym (below_inverse SPIN_LOCKS (byte_of w place) lock e)) stand
operand_takes scope AConstant place w n rest e stand = no_byte rest place w stand
operand_takes scope ATurns place w turns rest e stand = no_byte rest place w stand
operand_takes scope AField place w field rest e stand =
    one_byte _ rest place w (sym (field_inverse (byte_of w place) field e)) stand
operand_takes scope AStatus place w status rest e stand =
    one_byte _ rest place w (sym (status_inverse (byte_of w place) status e)) stand
operand_takes scope AQueue place w q rest e stand =
    one_byte q rest place w (sym (below_inverse scope.queues (byte_of w place) q e)) stand
operand_takes scope ALabel place w label rest e stand = no_byte rest place w stand
operand_takes scope ARoutine place w f rest e stand =
    one_byte (or_none f) rest place w
    (sym (none_or_below_inverse scope.routines (byte_of w place) f e)) stand
operand_takes scope AReturn place w form rest e stand =
    return_takes (byte_of w place) (byte_of w (place + 1)) place w form rest refl refl e stand

-- the last four bytes are those of the operand that takes them
last_takes : (scope : Scope) (operand : Operand) (place : ℕ) (w : Word) (value : ValueOf operand)
    (other : ℕ) → operand_in scope operand place w ≡ Ok value
    → (takes_last operand ≡ false → other ≡ w.last) → last_with operand value other ≡ w.last
last_takes scope AConstant place w n other e later = sym (ok_is w.last n e)
last_takes scope ATurns place w turns other e later = sym (turns_inverse w.last turns e)
last_takes scope ALabel place w label other e later =
    sym (below_inverse scope.positions w.last label e)
last_takes scope _ place w value other e later = later refl

-- operands that were read from a place on
bytes_take : (scope : Scope) (operands : List Operand) (place : ℕ) (w : Word)
    (values : Values operands) → operands_in scope operands place w ≡ Ok values
    → IsZeroFrom (used_from operands place w) w → StandAt (operands_bytes operands values) place w
bytes_take scope [] place w values e zeros = λ k. sym (zeros (place + k) (omega arith))
bytes_take scope (operand ∷ operands) place w values e zeros =
    let behind = place + size_of operand (byte_of w place) in
    let a = bind_ok (operand_in scope operand place w) _ values e in
    let b = one_ok {X = Values (operand ∷ operands)} (λ others. (a.0, others))
    (operands_in scope operands behind w) values a.2 in
    subst (λ v. StandAt (operands_bytes (operand ∷ operands) v) place w) b.2
    (operand_takes scope operand place w a.0 (operands_bytes operands b.0) a.1
    (bytes_take scope operands behind w b.0 b.1 zeros))

lasts_take : (scope : Scope) (operands : List Operand) (place : ℕ) (w : Word)
    (values : Values operands) → operands_in scope operands place w ≡ Ok values
    → (list_any takes_last operands || nat_eq w.last 0) ≡ true → last_of operands values ≡ w.last
lasts_take scope [] place w values e last = sym (zero_test w.last last)
lasts_take scope (operand ∷ operands) place w values e last =
    let behind = place + size_of operand (byte_of w place) in
    let a = bind_ok (operand_in scope operand place w) _ values e in
    let b = one_ok {X = Values (operand ∷ operands)} (λ others. (a.0, others))
    (operands_in scope operands behind w) values a.2 in
    subst (λ v. last_of (operand ∷ operands) v ≡ w.last) b.2
    (last_takes scope operand place w a.0 (last_of operands b.0) a.1
    (λ narrow. lasts_take scope operands behind w b.0 b.1 (rw narrow at last)))

-- the word of an instruction is that of what it says
pub word_said : (i : Instr) → word_of i ≡ form_word (said i).form (said i).values
word_said (Const r n) = refl
word_said _ = refl

form_takes : (scope : Scope) (w : Word) (form : Form) (i : Instr)
    → SaysAgain form → w.number ≡ form.number → form_in scope w form ≡ Ok i → word_of i ≡ w
form_takes scope w form i inverse is e =
    let u = used_ok (used_from form.operands 0 w) (list_any takes_last form.operands) w _ i e in
    let z = leaves_zero (used_from form.operands 0 w) (list_any takes_last form.operands) w u.0 in
    let made = one_ok (made_of form.operands form.makes) (operands_in scope form.operands 0 w) i
    u.1 in
    let bytes = bytes_take scope form.operands 0 w made.0 made.1 z.0 in
    let last = lasts_take scope form.operands 0 w made.0 made.1 z.1 in
    subst (λ x. word_of x ≡ w) made.2
    (word_said (made_of form.operands form.makes made.0)
    ∙ ap (λ (s : Said). form_word s.form s.values) (inverse made.0)
    ∙ word_is w form.number _ _ _ _ is (bytes 0) (bytes 1) (bytes 2) last)

-- an edition that has it
has_first : (edition : Edition) → Has edition false
has_first Former = refl
has_first Current = tt

had_ok : {A : Type 0} (edition : Edition) (editions : Editions) (read : Result A ImageFault) (a : A)
    → edition_had edition editions read ≡ Ok a
    → (read ≡ Ok a) × Has edition (is_second_alone editions)
had_ok edition Both read a e = (e, has_first edition)
had_ok Former SecondAlone read a e = absurd cc
had_ok Current SecondAlone read a e = (e, tt)

forms_take : (scope : Scope) (w : Word) (i : Instr) (fs : List Form)
    → AllByRecursion SaysAgain fs → in_forms fs scope w ≡ Ok i → word_of i ≡ w
forms_take scope w i [] inverse e = absurd cc
forms_take scope w i (form ∷ fs) inverse e =
    row_is w.number form.number _ _ i e
    (λ is said. form_takes scope w form i inverse.0 is
    (had_ok scope.edition form.editions (form_in scope w form) i said).0)
    (λ others. forms_take scope w i fs inverse.1 others)

pub instruction_takes : (scope : Scope) (w : Word) (i : Instr) → instruction_in scope w ≡ Ok i
    → word_of i ≡ w
instruction_takes scope w i e = forms_take scope w i forms forms_are_inverse.1 e

-- an instruction that is read of a word is one of the edition
form_said : (scope : Scope) (w : Word) (form : Form) (i : Instr) → SaysAgain form
    → form_in scope w form ≡ Ok i → (said i).form ≡ form
form_said scope w form i inverse e =
    let u = used_ok (used_from form.operands 0 w) (list_any takes_last form.operands) w _ i e in
    let made = one_ok (made_of form.operands form.makes) (operands_in scope form.operands 0 w) i
    u.1 in
    subst (λ x. (said x).form ≡ form) made.2 (ap (λ (s : Said). s.form) (inverse made.0))

forms_had : (scope : Scope) (w : Word) (i : Instr) (fs : List Form)
    → AllByRecursion SaysAgain fs → in_forms fs scope w ≡ Ok i
    → Has scope.edition (is_second_alone (said i).form.editions)
forms_had scope w i [] inverse e = absurd cc
forms_had scope w i (form ∷ fs) inverse e =
    row_is w.number form.number _ _ i e
    (λ is read. let had = had_ok scope.edition form.editions (form_in scope w form) i read in
    subst (λ (f : Form). Has scope.edition (is_second_alone f.editions))
    (sym (form_said scope w form i inverse.0 had.0)) had.1)
    (λ others. forms_had scope w i fs inverse.1 others)

pub instruction_had : (scope : Scope) (w : Word) (i : Instr) → instruction_in scope w ≡ Ok i
    → Has scope.edition (is_dequeue i)
instruction_had scope w i e =
    subst (λ second. Has scope.edition second) (forms_tell_editions i)
    (forms_had scope w i forms forms_are_inverse.1 e)
