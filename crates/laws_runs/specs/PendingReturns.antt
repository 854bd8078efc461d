-- Pending agreement holds of every run of an accepted set (Static Driver Verifier, MarkIrpPending).
use Rattle.std.specs.Prelude.{ℕ, List}
use Rattle.model.specs.declared.event.Event.{Event}
use Rattle.model.specs.PendingAgreement.{PendingAgree}
use Rattle.model.specs.Run.{run}
use Rattle.model.specs.Set.{Set}
use Rattle.model.specs.Sound.{IsSound}
use Rattle.model.specs.Typable.{IsTypable}

-- what dispatch routines have returned agrees with the marks with which completion left their stack
-- locations
abbrev pub AcceptedRunsAgreeOnPending : Type 0
AcceptedRunsAgreeOnPending =
    (set : Set) → IsTypable set → IsSound set
    → (threads : ℕ) (events : List Event)
    → PendingAgree (run set threads events).past
