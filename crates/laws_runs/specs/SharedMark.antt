-- A worked run, as a check of what the definitions on pending marks say: an upper driver passes a
-- packet to the lower one, in its own stack location; the lower one marks it there, completes it
-- and returns STATUS_PENDING; the packet tops out, and the upper driver returns what the lower one
-- returned.
use Rattle.std.specs.Prelude.{◌≡◌, true, List, [], ◌∷◌, Some, None}
use Rattle.model.specs.declared.event.Event.{Event}
use Rattle.model.specs.declared.event.Event.TheVariants.{Issue, Step}
use Rattle.model.specs.declared.instr.Instr.TheVariants.{Mark, Pass, Complete, Ret}
use Rattle.model.specs.declared.instr.Return.TheVariants.{WithStatus, Lower}
use Rattle.model.specs.declared.status.Major.TheVariants.{Read}
use Rattle.model.specs.declared.status.Status.TheVariants.{Pending, Success}
use Rattle.model.specs.PendingAgreement.{marks_left, statuses_returned}
use Rattle.model.specs.Run.{run}
use Rattle.model.specs.Set.{Set}
use Rattle.model.specs.Trace.{Entry, uses_opened}
use Rattle.laws_runs.specs.CarriedMark.{driver_of, use_of_packet}

-- device 0 is the lower one, device 1 stands over it with as many stack locations
abbrev pub passing_set : Set
passing_set =
    record {
      drivers =
          driver_of (Mark 0 ∷ Complete 0 Success ∷ Ret (WithStatus Pending) ∷ [])
          ∷ driver_of (Pass 0 ∷ Ret (Lower 0) ∷ [])
          ∷ [];
      devices =
          record { driver = 0; stack = 1; lower = None }
          ∷ record { driver = 1; stack = 1; lower = Some 0 }
          ∷ [];
    }

-- the upper driver passes; the lower one marks and completes; the packet tops out, and both return
abbrev pub one_request : List Event
one_request = Issue 0 1 Read 7 ∷ Step 0 ∷ Step 0 ∷ Step 0 ∷ Step 0 ∷ Step 0 ∷ Step 0 ∷ []

abbrev pub worked_trace : List Entry
worked_trace = (run passing_set 1 one_request).past

-- both routines serve the one use that was opened: it was left once and marked, and STATUS_PENDING
-- was returned from it twice
pub record SharedByBoth : Type 0 where
  pub opened : uses_opened worked_trace ≡ 1
  pub left : marks_left worked_trace (use_of_packet 0) ≡ true ∷ []
  pub returned : statuses_returned worked_trace (use_of_packet 0) ≡ Pending ∷ Pending ∷ []
