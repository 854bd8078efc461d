-- A set that is run is answered for.
use Rattle.std.proofs.Common.{ℕ, List, inl}
use Rattle.model.specs.Set.{Set}
use Rattle.drvhost_devices.specs.declared.verification.Verification.{Verification}
use Rattle.drvhost_devices.specs.declared.verification.Verification.TheVariants.{Required, Skipped}
use Rattle.drvhost_devices.specs.Answer.{Answer, IsToRun}
use Rattle.answer.specs.declared.form.Form as form
use Rattle.answer.specs.Run.{IsOfChosen}

-- one that has to be accepted, or needn't be
pub of_run : {F : Type 0} (says : form.Ghosts F) (it : F) (name : List ℕ)
    (verification : Verification) (Right : List ℕ → Set → Answer → Type 0) (bytes : List ℕ)
    (set : Set) (answer : Answer) → IsToRun verification set → Right bytes set answer
    → IsOfChosen says it name verification Right bytes set answer
of_run says it name Required Right bytes set answer typable right = inl (typable, right)
of_run says it name Skipped Right bytes set answer runs right = right
