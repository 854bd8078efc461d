-- The instructions of a driver text, each by its word and what stands behind it, as its form says.
use Rattle.std.specs.Prelude.{ℕ, List, [], ◌∷◌, bytes_eq, None, if◌then◌else◌}
use Rattle.model.specs.declared.instr.Instr.{Instr}
use Rattle.model.specs.InstructionForm.{Operand, ARegister, ACell, APagedCell, ASpinLock, AConstant, ATurns, AField, AStatus, AQueue, ALabel, ARoutine, AReturn, Form, Makes, ValueOf, forms}
use Rattle.asm_line.specs.Cursor.{Reading, so_far, then_read, called, cell, constant, field, label, paged_cell, queue, register, returned, spin_lock, status, turns}
use Rattle.asm_line.specs.declared.cursor.Cursor.{Cursor}

-- an operand of a form
abbrev pub operand : (kind : Operand) → Cursor → Reading (ValueOf kind)
operand ARegister c = register c
operand ACell c = cell c
operand APagedCell c = paged_cell c
operand ASpinLock c = spin_lock c
operand AConstant c = constant c
operand ATurns c = turns c
operand AField c = field c
operand AStatus c = status c
operand AQueue c = queue c
operand ALabel c = label c
operand ARoutine c = called c
operand AReturn c = returned c

-- the instruction that is made of operands
abbrev pub made : (operands : List Operand) → Makes operands → Cursor → Reading Instr
made [] makes c = so_far makes c
made (first ∷ operands) makes c =
    then_read (operand first c) (λ value rest. made operands (makes value) rest)

-- what an instruction's word and the tokens behind it say, by the form that has the word
abbrev pub in_forms : List Form → List ℕ → Cursor → Reading Instr
in_forms [] t c = None
in_forms (form ∷ forms) t c =
    if bytes_eq t form.word then made form.operands form.makes c else in_forms forms t c

abbrev pub instruction : List ℕ → Cursor → Reading Instr
instruction t c = in_forms forms t c
