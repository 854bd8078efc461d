-- What instructions say, and the instructions that are built of it.
use Rattle.std.proofs.Common.{◌≡◌, ℕ, ◌<◌, ◌≤◌, ◌^◌, List, [], ◌∷◌, refl}
use Rattle.std.specs.Prelude.{⊤, IfSome}
use Rattle.model.specs.declared.instr.Instr.{Instr}
use Rattle.model.specs.declared.instr.Instr.TheVariants.{Const}
use Rattle.model.specs.declared.limits.TheConstants.{MAX_TURNS}
use Rattle.model.specs.InstructionForm.{Changes, Form, FormsAreInverse, FormsTellEditions, Operand, ARegister, ACell, APagedCell, ASpinLock, AConstant, ATurns, AField, AStatus, AQueue, ALabel, ARoutine, AReturn, ValueOf, Values, built, by_form, changed, made_of, rebuilt, said}
use Rattle.model.specs.Set.{label_of}
use Rattle.model.specs.Sound.{FormFits, IsCell, IsRegister, IsSpinLock, OperandFits, completion_named, queue_named}

pub built_again : (i : Instr) → built (said i) ≡ i
built_again (Const r n) = refl
built_again _ = refl

-- what goes by the form of an instruction goes by what it says
pub by_form_said : {X : Type 0} (says : (form : Form) → Values form.operands → X) (i : Instr)
    → by_form says i ≡ says (said i).form (said i).values
by_form_said says (Const r n) = refl
by_form_said says _ = refl

pub rebuilt_said : (change : Changes) (i : Instr) → rebuilt change i
    ≡ made_of (said i).form.operands (said i).form.makes
    (changed change (said i).form.operands (said i).values)
rebuilt_said change i =
    by_form_said
    (λ form values. made_of form.operands form.makes (changed change form.operands values)) i

-- the same of each form, one after another
infixr 5 ◌also◌
◌also◌ : {A B : Type 0} → A → B → A × B
a also b = (a, b)

pub forms_are_inverse : FormsAreInverse
forms_are_inverse = (
  built_again,
  (λ o. refl) also (λ o. refl) also (λ o. refl) also (λ o. refl) also (λ o. refl)
      also (λ o. refl) also (λ o. refl) also (λ o. refl) also (λ o. refl) also (λ o. refl)
      also (λ o. refl) also (λ o. refl) also (λ o. refl) also (λ o. refl) also (λ o. refl)
      also (λ o. refl) also (λ o. refl) also (λ o. refl) also (λ o. refl) also (λ o. refl)
      also (λ o. refl) also (λ o. refl) also (λ o. refl) also (λ o. refl) also (λ o. refl)
      also (λ o. refl) also (λ o. refl) also (λ o. refl) also (λ o. refl) also (λ o. refl)
      also (λ o. refl) also (λ o. refl) also (λ o. refl) also (λ o. refl) also (λ o. refl)
      also (λ o. refl) also (λ o. refl) also tt,
)

pub forms_tell_editions : FormsTellEditions
forms_tell_editions (Const r n) = refl
forms_tell_editions _ = refl

-- an operand is within its limits, where the numbers of routines, queues and labels are
abbrev pub Fits : (routine queue label : ℕ → Type 0) → (operand : Operand) → ValueOf operand
    → Type 0
Fits routine queue label ARegister r = IsRegister r
Fits routine queue label ACell c = IsCell c
Fits routine queue label APagedCell c = IsCell c
Fits routine queue label ASpinLock lock = IsSpinLock lock
Fits routine queue label AConstant n = n < 2 ^ 32
Fits routine queue label ATurns turns = (1 ≤ turns) × (turns ≤ MAX_TURNS)
Fits routine queue label AField field = ⊤
Fits routine queue label AStatus status = ⊤
Fits routine queue label AQueue q = queue q
Fits routine queue label ALabel to = label to
Fits routine queue label ARoutine f = IfSome f routine
Fits routine queue label AReturn form = FormFits form

abbrev pub AllFit : (routine queue label : ℕ → Type 0) → (operands : List Operand)
    → Values operands → Type 0
AllFit routine queue label [] values = ⊤
AllFit routine queue label (operand ∷ operands) values =
    Fits routine queue label operand values.0 × AllFit routine queue label operands values.1

pub all_fit : (routine queue label : ℕ → Type 0) (i : Instr) → OperandFits i
    → IfSome (label_of i) label → IfSome (queue_named i) queue
    → IfSome (completion_named i) routine
    → AllFit routine queue label (said i).form.operands (said i).values
all_fit routine queue label (Const r n) o l q f = (o.0, (o.1, tt))
all_fit routine queue label _ o l q f = assumption (o, l, q, f)
