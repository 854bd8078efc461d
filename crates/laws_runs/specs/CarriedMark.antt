-- A worked run, as a check of what the definitions on pending marks say: an upper driver calls the
-- lower one, which marks the packet, completes it and returns STATUS_PENDING; the I/O manager
-- carries the mark up, and the upper driver returns what the lower one returned.
use Rattle.std.specs.Prelude.{ℕ, ◌≡◌, true, List, [], ◌∷◌, Some, None}
use Rattle.model.specs.declared.event.Event.{Event}
use Rattle.model.specs.declared.event.Event.TheVariants.{Issue, Step}
use Rattle.model.specs.declared.instr.Instr.{Instr}
use Rattle.model.specs.declared.instr.Instr.TheVariants.{Mark, Call, Complete, Ret}
use Rattle.model.specs.declared.instr.Return.TheVariants.{WithStatus, Lower}
use Rattle.model.specs.declared.set.Driver.{Driver}
use Rattle.model.specs.declared.set.Sort.TheVariants.{Dispatch}
use Rattle.model.specs.declared.status.Major.TheVariants.{Read}
use Rattle.model.specs.declared.status.Status.TheVariants.{Pending, Success}
use Rattle.model.specs.PendingAgreement.{marks_left, statuses_returned}
use Rattle.model.specs.Run.{run}
use Rattle.model.specs.Set.{Set}
use Rattle.model.specs.Trace.{Entry, Serving}

abbrev pub driver_of : List Instr → Driver
driver_of code =
    record {
      routines = record { sort = Dispatch; code = code } ∷ [];
      queues = [];
      read = Some 0;
      write = None;
      control = None;
      startio = None;
      startio_cancel = None;
      dpc = None;
    }

-- device 0 is the lower one, device 1 stands over it
abbrev pub stacked_set : Set
stacked_set =
    record {
      drivers =
          driver_of (Mark 0 ∷ Complete 0 Success ∷ Ret (WithStatus Pending) ∷ [])
          ∷ driver_of (Call 0 None ∷ Ret (Lower 0) ∷ [])
          ∷ [];
      devices =
          record { driver = 0; stack = 1; lower = None }
          ∷ record { driver = 1; stack = 2; lower = Some 0 }
          ∷ [];
    }

-- the upper driver calls; the lower one marks and completes; the packet goes up twice, and both
-- return
abbrev pub one_request : List Event
one_request = Issue 0 1 Read 7 ∷ Step 0 ∷ Step 0 ∷ Step 0 ∷ Step 0 ∷ Step 0 ∷ Step 0 ∷ Step 0 ∷ []

abbrev pub worked_trace : List Entry
worked_trace = (run stacked_set 1 one_request).past

-- a use of the packet, which is number 0
abbrev pub use_of_packet : ℕ → Serving
use_of_packet u = record { packet = 0; «use» = u }

-- the uses of both locations were left once and marked, and STATUS_PENDING was returned from each
pub record CarriedUp : Type 0 where
  pub upper_left : marks_left worked_trace (use_of_packet 0) ≡ true ∷ []
  pub lower_left : marks_left worked_trace (use_of_packet 1) ≡ true ∷ []
  pub upper_returned : statuses_returned worked_trace (use_of_packet 0) ≡ Pending ∷ []
  pub lower_returned : statuses_returned worked_trace (use_of_packet 1) ≡ Pending ∷ []
