-- An instruction's form, said once: its number in an image, its word in a text, the editions that
-- have it, and its operands in the order in which they stand behind either. What texts and images
-- do with an instruction goes by its form alone.
use Rattle.std.specs.Prelude.{ℕ, ⊤, ◌≡◌, ◌-◌, Bool, true, false, List, [], ◌∷◌, codes, get_or, Option}
use Rattle.std.specs.List.{AllByRecursion}
use Rattle.model.specs.declared.instr.Field.{Field}
use Rattle.model.specs.declared.instr.Instr.{Instr}
use Rattle.model.specs.declared.instr.Instr.TheVariants.{Const, Move, Clear, Add, Subtract, JumpIfZero, JumpIfLess, Jump, Loop, End, Load, Store, LoadPaged, StorePaged, Get, Put, Mark, Acquire, Release, AcquireCancel, ReleaseCancel, Insert, Remove, Unlink, Arm, Disarm, IfCancel, Start, Take, Begin, Next, Dequeue, Pass, Call, Complete, IfPending, Ret}
use Rattle.model.specs.declared.instr.Return.{Return}
use Rattle.model.specs.declared.status.Status.{Status}
use Rattle.model.specs.Edition.{is_dequeue}

-- what an operand is
pub data Operand : Type 0 where
  ARegister : Operand
  ACell : Operand
  APagedCell : Operand
  ASpinLock : Operand
  AConstant : Operand
  ATurns : Operand
  AField : Operand
  AStatus : Operand
  AQueue : Operand
  ALabel : Operand
  -- the completion routine of a `call`, which may have none
  ARoutine : Operand
  -- what `ret` returns
  AReturn : Operand

-- what such an operand may be
abbrev pub ValueOf : Operand → Type 0
ValueOf ARegister = ℕ
ValueOf ACell = ℕ
ValueOf APagedCell = ℕ
ValueOf ASpinLock = ℕ
ValueOf AConstant = ℕ
ValueOf ATurns = ℕ
ValueOf AField = Field
ValueOf AStatus = Status
ValueOf AQueue = ℕ
ValueOf ALabel = ℕ
ValueOf ARoutine = Option ℕ
ValueOf AReturn = Return

abbrev pub Values : List Operand → Type 0
Values [] = ⊤
Values (operand ∷ operands) = ValueOf operand × Values operands

-- what makes an instruction of its operands
abbrev pub Makes : List Operand → Type 0
Makes [] = Instr
Makes (operand ∷ operands) = ValueOf operand → Makes operands

abbrev pub made_of : (operands : List Operand) → Makes operands → Values operands → Instr
made_of [] makes values = makes
made_of (operand ∷ operands) makes values = made_of operands (makes values.0) values.1

-- the editions of driver sets that have an instruction: both, or the second alone
pub data Editions : Type 0 where
  Both : Editions
  SecondAlone : Editions

abbrev pub is_second_alone : Editions → Bool
is_second_alone Both = false
is_second_alone SecondAlone = true

pub record Form : Type 0 where
  pub number : ℕ
  pub word : List ℕ
  pub editions : Editions
  pub operands : List Operand
  pub makes : Makes operands

abbrev pub form_of : Editions → ℕ → List ℕ → (operands : List Operand) → Makes operands → Form
form_of editions number word operands makes =
    record {
      number = number;
      word = word;
      editions = editions;
      operands = operands;
      makes = makes;
    }

abbrev pub form : ℕ → List ℕ → (operands : List Operand) → Makes operands → Form
form number word operands makes = form_of Both number word operands makes

-- the forms, by their numbers from 27 on, from 18 on, from 10 on, and all
abbrev pub packet_forms : List Form
packet_forms =
    form 27 (codes "ifcancel") (ARegister ∷ ALabel ∷ []) IfCancel
    ∷ form 28 (codes "start") (ARegister ∷ []) Start
    ∷ form 29 (codes "take") (ARegister ∷ ALabel ∷ []) Take
    ∷ form 30 (codes "begin") (ARegister ∷ []) Begin
    ∷ form 31 (codes "next") [] Next
    ∷ form 32 (codes "pass") (ARegister ∷ []) Pass
    ∷ form 33 (codes "call") (ARegister ∷ ARoutine ∷ []) Call
    ∷ form 34 (codes "complete") (ARegister ∷ AStatus ∷ []) Complete
    ∷ form 35 (codes "ifpending") (ARegister ∷ ALabel ∷ []) IfPending
    ∷ form 36 (codes "ret") (AReturn ∷ []) Ret
    ∷ form_of SecondAlone 37 (codes "dequeue") (ARegister ∷ []) Dequeue
    ∷ []

abbrev pub queue_forms : List Form
queue_forms =
    form 18 (codes "acquire") (ASpinLock ∷ []) Acquire
    ∷ form 19 (codes "release") (ASpinLock ∷ []) Release
    ∷ form 20 (codes "acqc") [] AcquireCancel
    ∷ form 21 (codes "relc") [] ReleaseCancel
    ∷ form 22 (codes "insert") (ARegister ∷ AQueue ∷ []) Insert
    ∷ form 23 (codes "remove") (ARegister ∷ AQueue ∷ ALabel ∷ []) Remove
    ∷ form 24 (codes "unlink") (ARegister ∷ AQueue ∷ []) Unlink
    ∷ form 25 (codes "arm") (ARegister ∷ AQueue ∷ []) Arm
    ∷ form 26 (codes "disarm") (ARegister ∷ ALabel ∷ []) Disarm
    ∷ packet_forms

abbrev pub cell_forms : List Form
cell_forms =
    form 10 (codes "end") [] End
    ∷ form 11 (codes "load") (ARegister ∷ ACell ∷ []) Load
    ∷ form 12 (codes "store") (ACell ∷ ARegister ∷ []) Store
    ∷ form 13 (codes "loadp") (ARegister ∷ APagedCell ∷ []) LoadPaged
    ∷ form 14 (codes "storep") (APagedCell ∷ ARegister ∷ []) StorePaged
    ∷ form 15 (codes "get") (ARegister ∷ ARegister ∷ AField ∷ []) Get
    ∷ form 16 (codes "put") (ARegister ∷ ARegister ∷ []) Put
    ∷ form 17 (codes "mark") (ARegister ∷ []) Mark
    ∷ queue_forms

abbrev pub forms : List Form
forms =
    form 1 (codes "const") (ARegister ∷ AConstant ∷ []) Const
    ∷ form 2 (codes "mov") (ARegister ∷ ARegister ∷ []) Move
    ∷ form 3 (codes "clear") (ARegister ∷ []) Clear
    ∷ form 4 (codes "add") (ARegister ∷ ARegister ∷ []) Add
    ∷ form 5 (codes "sub") (ARegister ∷ ARegister ∷ []) Subtract
    ∷ form 6 (codes "jz") (ARegister ∷ ALabel ∷ []) JumpIfZero
    ∷ form 7 (codes "jlt") (ARegister ∷ ARegister ∷ ALabel ∷ []) JumpIfLess
    ∷ form 8 (codes "jmp") (ALabel ∷ []) Jump
    ∷ form 9 (codes "loop") (ATurns ∷ []) Loop
    ∷ cell_forms

abbrev no_form : Form
no_form = form 0 [] [] End

abbrev pub form_at : ℕ → Form
form_at number = get_or forms (number - 1) no_form

-- what goes by an instruction's form and its operands
abbrev pub by_form : {X : Type 0} → ((form : Form) → Values form.operands → X) → Instr → X
by_form says (Const r n) = says (form_at 1) (r, (n, tt))
by_form says (Move r q) = says (form_at 2) (r, (q, tt))
by_form says (Clear r) = says (form_at 3) (r, tt)
by_form says (Add r q) = says (form_at 4) (r, (q, tt))
by_form says (Subtract r q) = says (form_at 5) (r, (q, tt))
by_form says (JumpIfZero r label) = says (form_at 6) (r, (label, tt))
by_form says (JumpIfLess r q label) = says (form_at 7) (r, (q, (label, tt)))
by_form says (Jump label) = says (form_at 8) (label, tt)
by_form says (Loop turns) = says (form_at 9) (turns, tt)
by_form says End = says (form_at 10) tt
by_form says (Load r c) = says (form_at 11) (r, (c, tt))
by_form says (Store c r) = says (form_at 12) (c, (r, tt))
by_form says (LoadPaged r c) = says (form_at 13) (r, (c, tt))
by_form says (StorePaged c r) = says (form_at 14) (c, (r, tt))
by_form says (Get r q field) = says (form_at 15) (r, (q, (field, tt)))
by_form says (Put q r) = says (form_at 16) (q, (r, tt))
by_form says (Mark r) = says (form_at 17) (r, tt)
by_form says (Acquire lock) = says (form_at 18) (lock, tt)
by_form says (Release lock) = says (form_at 19) (lock, tt)
by_form says AcquireCancel = says (form_at 20) tt
by_form says ReleaseCancel = says (form_at 21) tt
by_form says (Insert r q) = says (form_at 22) (r, (q, tt))
by_form says (Remove r q label) = says (form_at 23) (r, (q, (label, tt)))
by_form says (Unlink r q) = says (form_at 24) (r, (q, tt))
by_form says (Arm r q) = says (form_at 25) (r, (q, tt))
by_form says (Disarm r label) = says (form_at 26) (r, (label, tt))
by_form says (IfCancel r label) = says (form_at 27) (r, (label, tt))
by_form says (Start r) = says (form_at 28) (r, tt)
by_form says (Take r label) = says (form_at 29) (r, (label, tt))
by_form says (Begin r) = says (form_at 30) (r, tt)
by_form says Next = says (form_at 31) tt
by_form says (Pass r) = says (form_at 32) (r, tt)
by_form says (Call r f) = says (form_at 33) (r, (f, tt))
by_form says (Complete r status) = says (form_at 34) (r, (status, tt))
by_form says (IfPending r label) = says (form_at 35) (r, (label, tt))
by_form says (Ret form) = says (form_at 36) (form, tt)
by_form says (Dequeue r) = says (form_at 37) (r, tt)

-- an instruction's form, with its operands
pub record Said : Type 0 where
  pub form : Form
  pub values : Values form.operands

abbrev pub said : Instr → Said
said i = by_form (λ form values. record { form = form; values = values }) i

-- the instruction of a form with these operands
abbrev pub built : Said → Instr
built s = made_of s.form.operands s.form.makes s.values

-- what an instruction becomes when each of its operands does
abbrev pub Changes : Type 0
Changes = (operand : Operand) → ValueOf operand → ValueOf operand

abbrev pub changed : Changes → (operands : List Operand) → Values operands → Values operands
changed change [] values = tt
changed change (operand ∷ operands) values =
    (change operand values.0, changed change operands values.1)

abbrev pub rebuilt : Changes → Instr → Instr
rebuilt change i =
    by_form
    (λ form values. made_of form.operands form.makes (changed change form.operands values)) i

-- what is built of a form and operands says them again
abbrev pub SaysAgain : Form → Type 0
SaysAgain form =
    (values : Values form.operands)
    → said (made_of form.operands form.makes values) ≡ record { form = form; values = values }

-- each instruction is built of what it says, and what is built of any form says that
abbrev pub FormsAreInverse : Type 0
FormsAreInverse = ((i : Instr) → built (said i) ≡ i) × AllByRecursion SaysAgain forms

-- forms tell the edition that an instruction is of
abbrev pub FormsTellEditions : Type 0
FormsTellEditions = (i : Instr) → is_second_alone (said i).form.editions ≡ is_dequeue i
