-- The words of a listing's lines are tokens of their lines.
use Rattle.std.proofs.Common.{◌≡◌, ℕ, ◌<◌, ◌≤◌, ◌^◌, true, ◌||◌, List, [], ◌∷◌, ◌++◌, Option, Some, None, IfSome, refl, ap, ◌∙◌, arith}
use Rattle.std.proofs.Math.Bool.{or-true}
use Rattle.std.specs.Prelude.{is_some}
use Rattle.std.specs.Fmt.{decimal}
use Rattle.std.specs.List.{list_all}
use Rattle.std.proofs.lemmas.Bool.Decides.{nat_tests}
use Rattle.std.proofs.lemmas.Fmt.{decimal_nonempty}
use Rattle.std.proofs.lemmas.List.Folds.{list_all-append}
use Rattle.text.specs.Spaced.{is_inner, ArePlain, IsPlain}
use Rattle.text.proofs.Digits.{some_bytes}
use Rattle.text.specs.Class.{is_name, is_name_start, is_number, is_token, is_word, label_name}
use Rattle.model.specs.declared.instr.Field.{Field}
use Rattle.model.specs.declared.instr.Field.TheVariants.{Major as MajorField, Argument, Info}
use Rattle.model.specs.declared.instr.Instr.{Instr}
use Rattle.model.specs.declared.instr.Instr.TheVariants.{Const}
use Rattle.model.specs.declared.instr.Return.{Return}
use Rattle.model.specs.declared.instr.Return.TheVariants.{WithStatus, Lower, Continue, Stop, Void}
use Rattle.model.specs.declared.set.Sort.{Sort}
use Rattle.model.specs.declared.set.Sort.TheVariants.{Dispatch, StartIo, Dpc, Propagate, Hold, Cancel}
use Rattle.model.specs.declared.status.Major.{Major}
use Rattle.model.specs.declared.status.Major.TheVariants.{Read, Write, Control}
use Rattle.model.specs.declared.status.Status.{Status}
use Rattle.model.specs.declared.status.Status.TheVariants.{Success, Pending, Busy, Unsuccessful, InvalidParameter, InvalidDeviceRequest, Cancelled}
use Rattle.model.proofs.InstructionForm.{AllFit, Fits, all_fit, by_form_said}
use Rattle.model.specs.InstructionForm.{Operand, ARegister, ACell, APagedCell, ASpinLock, AConstant, ATurns, AField, AStatus, AQueue, ALabel, ARoutine, AReturn, ValueOf, Values, said}
use Rattle.model.specs.Sound.{FormFits, IsCell, IsRegister, IsSpinLock}
use Rattle.asm_line.specs.ListedWords.{cell, field_text, form_words, instruction_words, label, label_words, major_text, numbered, operand_words, operands_words, optional, paged_cell, queue, register, returned_words, routine, sort_text, spin_lock, status_text}
use Rattle.asm_line.proofs.Digits.{decimal_passes, label_back, named, number_token, IsSmall}
use Rattle.asm_line.proofs.Meaning.{InstrFits}

pub plain_word : (b : ℕ) (bs : List ℕ) → list_all is_inner (b ∷ bs) ≡ true
    → is_token (b ∷ bs) ≡ true → IsPlain (b ∷ bs)
plain_word b bs inner token =
    record { some = some_bytes (b ∷ bs) (omega arith); inner = inner; token = token }

digit_is_inner : (b : ℕ) → 48 ≤ b → b ≤ 57 → is_inner b ≡ true
digit_is_inner b low high = grind (arith, nat_tests)

decimal_inner : (n : ℕ) → IsSmall n → list_all is_inner (decimal n) ≡ true
decimal_inner n small = decimal_passes is_inner digit_is_inner n small

-- a small letter and a number
pub numbered_plain : (letter n : ℕ) → is_name_start letter ≡ true → is_inner letter ≡ true
    → IsSmall n → IsPlain (numbered letter n)
numbered_plain letter n start inner small =
    plain_word letter (decimal n) (rw inner (decimal_inner n small))
    (rw (named letter n start small) refl)

pub decimal_plain : (n : ℕ) → IsSmall n → IsPlain (decimal n)
decimal_plain n small = record {
  some = some_bytes (decimal n) (decimal_nonempty n small);
  inner = decimal_inner n small;
  token = number_token n small;
}

-- a label before its instruction
pub label_plain : (position : Option ℕ) → IfSome position IsSmall
    → ArePlain (label_words position)
label_plain None small = tt
label_plain (Some n) small =
    let t = label n ++ 58 ∷ [] in
    let name : label_name t ≡ Some (label n) = label_back (label n) (named 97 n refl small) in (
      plain_word 97 (decimal n ++ 58 ∷ [])
          (list_all-append is_inner (label n) (58 ∷ []) ∙ rw (decimal_inner n small) refl)
          (ap (λ o. is_name t || is_word t || is_number t || is_some o) name
          ∙ or-true (is_name t || is_word t || is_number t)),
      tt,
    )

pub optional_plain : (letter : ℕ) (n : Option ℕ) → is_name_start letter ≡ true
    → is_inner letter ≡ true → IfSome n IsSmall → ArePlain (optional (numbered letter) n)
optional_plain letter None start inner small = tt
optional_plain letter (Some n) start inner small = (numbered_plain letter n start inner small, tt)

pub major_plain : (m : Major) → IsPlain (major_text m)
major_plain Read = plain_word _ _ refl refl
major_plain Write = plain_word _ _ refl refl
major_plain Control = plain_word _ _ refl refl

field_plain : (f : Field) → IsPlain (field_text f)
field_plain MajorField = plain_word _ _ refl refl
field_plain Argument = plain_word _ _ refl refl
field_plain Info = plain_word _ _ refl refl

pub sort_plain : (s : Sort) → IsPlain (sort_text s)
sort_plain Dispatch = plain_word _ _ refl refl
sort_plain StartIo = plain_word _ _ refl refl
sort_plain Dpc = plain_word _ _ refl refl
sort_plain Propagate = plain_word _ _ refl refl
sort_plain Hold = plain_word _ _ refl refl
sort_plain Cancel = plain_word _ _ refl refl

status_plain : (s : Status) → IsPlain (status_text s)
status_plain Success = plain_word _ _ refl refl
status_plain Pending = plain_word _ _ refl refl
status_plain Busy = plain_word _ _ refl refl
status_plain Unsuccessful = plain_word _ _ refl refl
status_plain InvalidParameter = plain_word _ _ refl refl
status_plain InvalidDeviceRequest = plain_word _ _ refl refl
status_plain Cancelled = plain_word _ _ refl refl

register_plain : (r : ℕ) → IsRegister r → IsPlain (register r)
register_plain r fits = numbered_plain 114 r refl refl (omega (arith, fits))

spin_lock_plain : (l : ℕ) → IsSpinLock l → IsPlain (spin_lock l)
spin_lock_plain l fits = numbered_plain 108 l refl refl (omega (arith, fits))

cell_plain : (n : ℕ) → IsCell n → IsPlain (cell n)
cell_plain n fits = numbered_plain 99 n refl refl (omega (arith, fits))

paged_cell_plain : (n : ℕ) → IsCell n → IsPlain (paged_cell n)
paged_cell_plain n fits = numbered_plain 112 n refl refl (omega (arith, fits))

target_plain : (n : ℕ) → IsSmall n → IsPlain (label n)
target_plain n small = numbered_plain 97 n refl refl small

queue_plain : (n : ℕ) → IsSmall n → IsPlain (queue n)
queue_plain n small = numbered_plain 113 n refl refl small

constant_plain : (n : ℕ) → n < 2 ^ 32 → IsPlain (decimal n)
constant_plain n fits = decimal_plain n (omega (arith, fits))

turns_plain : (n : ℕ) → n ≤ 1000 → IsPlain (decimal n)
turns_plain n fits = decimal_plain n (omega (arith, fits))

called_plain : (n : Option ℕ) → IfSome n IsSmall → ArePlain (optional routine n)
called_plain n small = optional_plain 102 n refl refl small

returned_plain : (form : Return) → FormFits form → ArePlain (returned_words form)
returned_plain (WithStatus s) fits = (status_plain s, tt)
returned_plain (Lower r) fits = (plain_word _ _ refl refl, (register_plain r fits, tt))
returned_plain Continue fits = (plain_word _ _ refl refl, tt)
returned_plain Stop fits = (plain_word _ _ refl refl, tt)
returned_plain Void fits = (plain_word _ _ refl refl, tt)

operand_plain : (operand : Operand) (value : ValueOf operand)
    → Fits IsSmall IsSmall IsSmall operand value → ArePlain (operand_words operand value)
operand_plain ARegister r fits = (register_plain r fits, tt)
operand_plain ACell c fits = (cell_plain c fits, tt)
operand_plain APagedCell c fits = (paged_cell_plain c fits, tt)
operand_plain ASpinLock lock fits = (spin_lock_plain lock fits, tt)
operand_plain AConstant n fits = (constant_plain n fits, tt)
operand_plain ATurns turns fits = (turns_plain turns fits.1, tt)
operand_plain AField field fits = (field_plain field, tt)
operand_plain AStatus status fits = (status_plain status, tt)
operand_plain AQueue q fits = (queue_plain q fits, tt)
operand_plain ALabel to fits = (target_plain to fits, tt)
operand_plain ARoutine f fits = called_plain f fits
operand_plain AReturn form fits = returned_plain form fits

pub append_plain : (ws vs : List (List ℕ)) → ArePlain ws → ArePlain vs → ArePlain (ws ++ vs)
append_plain [] vs h k = k
append_plain (w ∷ ws) vs h k = (h.0, append_plain ws vs h.1 k)

operands_plain : (operands : List Operand) (values : Values operands)
    → AllFit IsSmall IsSmall IsSmall operands values → ArePlain (operands_words operands values)
operands_plain [] values fits = tt
operands_plain (operand ∷ operands) values fits =
    append_plain (operand_words operand values.0) (operands_words operands values.1)
    (operand_plain operand values.0 fits.0) (operands_plain operands values.1 fits.1)

first_plain : (i : Instr) → IsPlain (said i).form.word
first_plain (Const r n) = plain_word _ _ refl refl
first_plain _ = plain_word _ _ refl refl

said_plain : (i : Instr) → InstrFits i → ArePlain (form_words (said i).form (said i).values)
said_plain i small = (
  first_plain i,
  operands_plain (said i).form.operands (said i).values
      (all_fit IsSmall IsSmall IsSmall i small.operands small.label small.queue small.routine),
)

pub instruction_plain : (i : Instr) → InstrFits i → ArePlain (instruction_words i)
instruction_plain i small = rw (by_form_said form_words i) (said_plain i small)
