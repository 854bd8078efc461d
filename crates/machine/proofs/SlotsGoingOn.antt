-- A routine that goes on by itself, by its code.
use Rattle.std.proofs.Common.{◌≡◌, ℕ, suc, List, Option, Some, sym, ◌∙◌, ap, subst}
use Rattle.std.specs.Prelude.{slice_get}
use Rattle.model.specs.declared.instr.Instr.{Instr}
use Rattle.laws_slots.specs.declared.activation.WordActivation.{WordActivation}
use Rattle.model.specs.Set.{Set, instruction_at}
use Rattle.machine_parts.specs.Alone.{FitsAlone}
use Rattle.laws_slots.specs.WordsFit.{WordInstructionFits, WordRoutineFits}
use Rattle.laws_slots.specs.WordStep.{goes_on, instruction_step, routine_step}
use Rattle.laws_slots.specs.Words.{WordFrame}
use Rattle.laws_slots.specs.Slots.{SlotShared}
use Rattle.machine.specs.GoingOn.{Goes, steps}

module _ (set : Set) (s : SlotShared) (t : ℕ) (under : Option WordFrame) (a : WordActivation)
    (code : List Instr)
    (coded : (p : ℕ) → instruction_at set a.driver a.routine p ≡ slice_get code p)
    (k : ℕ) (b : WordActivation) (goes : Goes set s t under a k b) (about : WordRoutineFits set s t b)
    (driver : b.driver ≡ a.driver) (routine : b.routine ≡ a.routine) where
  -- the instruction that is next stands in the code
  pub stands : slice_get code b.position ≡ Some about.instruction
  stands = sym (coded b.position) ∙ (rw (driver, routine) at about.at)

  -- whatever stands there, it is that one
  module _ (i : Instr) (here : slice_get code b.position ≡ Some i) where
    one : about.instruction ≡ i
    one = let both : Some about.instruction ≡ Some i = sym stands ∙ here in cc

    pub fits_alone : FitsAlone b i
    fits_alone =
        record {
          set = set;
          shared = s;
          thread = t;
          fits = subst (λ (j : Instr). WordInstructionFits set s t b j) one about.fits;
        }

    pub goes_more : (c : WordActivation) → goes_on s c ≡ instruction_step set s t under b i
        → Goes set s t under a (suc k) c
    goes_more c is =
        steps k b c goes
        (is
        ∙ sym (ap (routine_step set s t under b) (about.at ∙ ap (λ (j : Instr). Some j) one)))
