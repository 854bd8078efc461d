-- The instructions of a listing's lines are read back.
use Rattle.std.proofs.Common.{◌≡◌, ℕ, Bool, true, false, not, ◌&&◌, List, [], ◌∷◌, ◌++◌, Some, None, refl, ap, sym, ◌∙◌, append-nil}
use Rattle.std.specs.Prelude.{option_map}
use Rattle.std.proofs.lemmas.Bool.{and_parts, not-true}
use Rattle.model.proofs.InstructionForm.{AllFit, Fits, all_fit, by_form_said, rebuilt_said}
use Rattle.model.specs.declared.instr.Instr.{Instr}
use Rattle.model.specs.declared.instr.Instr.TheVariants.{Const}
use Rattle.model.specs.InstructionForm.{Operand, ARegister, ACell, APagedCell, ASpinLock, AConstant, ATurns, AField, AStatus, AQueue, ALabel, ARoutine, AReturn, Makes, ValueOf, Values, changed, made_of, said}
use Rattle.asm_line.specs.Cursor as reads
use Rattle.asm_line.specs.Cursor.{Reading, beginning, so_far, then_read}
use Rattle.asm_line.specs.Instruction.{instruction}
use Rattle.asm_line.specs.Line.{body, body_of, ended, if_in_range, step}
use Rattle.asm_line.specs.declared.cursor.Cursor.{Cursor}
use Rattle.asm_line.specs.declared.line.Body.{Body}
use Rattle.asm_line.specs.declared.line.Body.TheVariants.{Step}
use Rattle.asm_line.specs.declared.line.UsedNames.{UsedNames}
use Rattle.asm_line.specs.ListedWords.{form_words, instruction_words, label, operand_words, operands_words, optional, queue, returned_words, routine}
use Rattle.asm_line.proofs.Digits.{IsSmall}
use Rattle.asm_line.proofs.Meaning.{forgets, names_used, unlinked, InstrFits}
use Rattle.asm_line.proofs.ListedOperands.{called_back, cell_back, constant_back, field_back, label_back, paged_cell_back, queue_back, register_back, returned_back, spin_lock_back, status_back, turns_back}

-- a cursor behind these tokens, where no number was out of range
abbrev behind : List (List ℕ) → UsedNames → Cursor
behind tokens used = record { tokens = tokens; in_range = true; used = used }

abbrev no_names : UsedNames
no_names = record { label = None; routine = None; queue = None }

-- what reads an operand
abbrev reads_operand : (operand : Operand) → Cursor → Reading (ValueOf operand)
reads_operand ARegister c = reads.register c
reads_operand ACell c = reads.cell c
reads_operand APagedCell c = reads.paged_cell c
reads_operand ASpinLock c = reads.spin_lock c
reads_operand AConstant c = reads.constant c
reads_operand ATurns c = reads.turns c
reads_operand AField c = reads.field c
reads_operand AStatus c = reads.status c
reads_operand AQueue c = reads.queue c
reads_operand ALabel c = reads.label c
reads_operand ARoutine c = reads.called c
reads_operand AReturn c = reads.returned c

abbrev made : (operands : List Operand) → Makes operands → Cursor → Reading Instr
made [] makes c = so_far makes c
made (operand ∷ operands) makes c =
    then_read (reads_operand operand c) (λ value rest. made operands (makes value) rest)

-- the names that are noted of an operand
abbrev note : (operand : Operand) → ValueOf operand → UsedNames → UsedNames
note AQueue q used = record used { queue = Some (queue q) }
note ALabel to used = record used { label = Some (label to) }
note ARoutine f used = record used { routine = option_map routine f }
note _ value used = used

abbrev noted : (operands : List Operand) → Values operands → UsedNames → UsedNames
noted [] values used = used
noted (operand ∷ operands) values used = noted operands values.1 (note operand values.0 used)

-- what stands at the end of a line alone
abbrev ends_line : Operand → Bool
ends_line ARoutine = true
ends_line AReturn = true
ends_line _ = false

abbrev ends_well : List Operand → Bool
ends_well [] = true
ends_well (operand ∷ []) = true
ends_well (operand ∷ next ∷ operands) = not (ends_line operand) && ends_well (next ∷ operands)

-- an operand is read back
operand_back : (operand : Operand) (value : ValueOf operand) (ts : List (List ℕ))
    (used : UsedNames) → Fits IsSmall IsSmall IsSmall operand value → ends_line operand ≡ false
    → reads_operand operand (behind (operand_words operand value ++ ts) used)
    ≡ so_far (forgets operand value) (behind ts (note operand value used))
operand_back ARegister r ts used fits more = register_back r ts (behind [] used) fits
operand_back ACell c ts used fits more = cell_back c ts (behind [] used) fits
operand_back APagedCell c ts used fits more = paged_cell_back c ts (behind [] used) fits
operand_back ASpinLock l ts used fits more = spin_lock_back l ts (behind [] used) fits
operand_back AConstant n ts used fits more = constant_back n ts (behind [] used) fits
operand_back ATurns n ts used fits more = turns_back n ts (behind [] used) fits.0 fits.1
operand_back AField f ts used fits more = field_back f ts (behind [] used)
operand_back AStatus s ts used fits more = status_back s ts (behind [] used)
operand_back AQueue q ts used fits more = queue_back q ts (behind [] used) fits
operand_back ALabel to ts used fits more = label_back to ts (behind [] used) fits
operand_back ARoutine f ts used fits more = cc
operand_back AReturn form ts used fits more = cc

last_back : (operand : Operand) (value : ValueOf operand) (used : UsedNames)
    → Fits IsSmall IsSmall IsSmall operand value
    → reads_operand operand (behind (operand_words operand value ++ []) used)
    ≡ so_far (forgets operand value) (behind [] (note operand value used))
last_back ARoutine f used fits =
    rw (append-nil (optional routine f)) (called_back f (behind [] used) fits)
last_back AReturn form used fits =
    rw (append-nil (returned_words form)) (returned_back form (behind [] used) fits)
last_back operand value used fits = operand_back operand value [] used fits refl

operands_back : (operands : List Operand) (makes : Makes operands) (values : Values operands)
    (used : UsedNames) → AllFit IsSmall IsSmall IsSmall operands values
    → ends_well operands ≡ true
    → made operands makes (behind (operands_words operands values) used)
    ≡ so_far (made_of operands makes (changed forgets operands values))
    (behind [] (noted operands values used))
operands_back [] makes values used fits ends = refl
operands_back (operand ∷ []) makes values used fits ends =
    ap (λ (r : Reading (ValueOf operand)). then_read r (λ value rest. so_far (makes value) rest))
    (last_back operand values.0 used fits.0)
operands_back (operand ∷ next ∷ operands) makes values used fits ends =
    let parts = and_parts (not (ends_line operand)) (ends_well (next ∷ operands)) ends in
    ap (λ (r : Reading (ValueOf operand)).
    then_read r (λ value rest. made (next ∷ operands) (makes value) rest))
    (operand_back operand values.0 (operands_words (next ∷ operands) values.1) used fits.0
    (not-true (ends_line operand) parts.0))
    ∙ operands_back (next ∷ operands) (makes (forgets operand values.0)) values.1
    (note operand values.0 used) fits.1 parts.1

-- what holds of each form
all_end_well : (i : Instr) → ends_well (said i).form.operands ≡ true
all_end_well (Const r n) = refl
all_end_well _ = refl

found : (i : Instr) (c : Cursor)
    → instruction (said i).form.word c ≡ made (said i).form.operands (said i).form.makes c
found (Const r n) c = refl
found _ c = refl

is_step : (i : Instr) (c : Cursor) → body (said i).form.word c ≡ step (said i).form.word c
is_step (Const r n) c = refl
is_step _ c = refl

names_are : (i : Instr) → noted (said i).form.operands (said i).values no_names ≡ names_used i
names_are (Const r n) = refl
names_are _ = refl

said_back : (i : Instr) → InstrFits i
    → body_of (form_words (said i).form (said i).values)
    ≡ Some (Step (Some (unlinked i)) (names_used i))
said_back i small =
    let operands = (said i).form.operands in
    let c = beginning (operands_words operands (said i).values) in
    let fits = all_fit IsSmall IsSmall IsSmall i small.operands small.label small.queue
    small.routine in
    ap (λ (r : Reading Body). ended r) (is_step i c)
    ∙ ap (λ (r : Reading Instr). ended (then_read r
    (λ i rest. so_far (Step (if_in_range rest.in_range i) rest.used) rest)))
    (found i c
    ∙ operands_back operands (said i).form.makes (said i).values no_names fits (all_end_well i)
    ∙ ap (λ (j : Instr). so_far j (behind [] (noted operands (said i).values no_names)))
    (sym (rebuilt_said forgets i))
    ∙ ap (λ (n : UsedNames). so_far (unlinked i) (behind [] n)) (names_are i))

pub instruction_back : (i : Instr) → InstrFits i
    → body_of (instruction_words i) ≡ Some (Step (Some (unlinked i)) (names_used i))
instruction_back i small = ap body_of (by_form_said form_words i) ∙ said_back i small
