-- A worked run, as a check of what the definitions on packets that are lent say: the lower driver
-- completes a packet, which the upper one's completion routine takes back, queues and holds. An
-- interrupt comes, and the DPC routine completes the packet again. The I/O manager doesn't have it
-- while it is held, so that it tops out, and nothing stops the run. Where a packet that is lent
-- still counted as completing, the DPC routine's `complete` would be
-- MULTIPLE_IRP_COMPLETE_REQUESTS.
use Rattle.std.specs.Prelude.{◌≡◌, true, false, List, [], ◌∷◌, ◌++◌, Some, None}
use Rattle.model.specs.declared.event.Event.{Event}
use Rattle.model.specs.declared.event.Event.TheVariants.{Issue, Interrupt, Dpc as DpcEvent, Step}
use Rattle.model.specs.declared.instr.Instr.TheVariants.{Mark, Acquire, Release, Insert, Remove, Call, Complete, Ret}
use Rattle.model.specs.declared.instr.Return.TheVariants.{WithStatus, Stop, Void}
use Rattle.model.specs.declared.set.Driver.{Driver}
use Rattle.model.specs.declared.set.Sort.TheVariants.{Dispatch, Hold, Dpc}
use Rattle.model.specs.declared.status.Major.TheVariants.{Read}
use Rattle.model.specs.declared.status.Status.TheVariants.{Pending, Success}
use Rattle.model.specs.Fault.{completing, topped}
use Rattle.model.specs.Run.{Run, run}
use Rattle.model.specs.Set.{Set}

abbrev pub completing_driver : Driver
completing_driver =
    record {
      routines =
          record { sort = Dispatch; code = Complete 0 Success ∷ Ret (WithStatus Success) ∷ [] }
          ∷ [];
      queues = [];
      read = Some 0;
      write = None;
      control = None;
      startio = None;
      startio_cancel = None;
      dpc = None;
    }

-- its dispatch routine calls the lower driver, its completion routine holds the packet, and its DPC
-- routine completes it
abbrev pub holding_driver : Driver
holding_driver =
    record {
      routines =
          record {
            sort = Dispatch;
            code = Mark 0 ∷ Call 0 (Some 1) ∷ Ret (WithStatus Pending) ∷ [];
          }
          ∷ record {
            sort = Hold;
            code = Mark 0 ∷ Acquire 0 ∷ Insert 0 0 ∷ Release 0 ∷ Ret Stop ∷ [];
          }
          ∷ record {
            sort = Dpc;
            code =
                Acquire 0 ∷ Remove 0 0 5 ∷ Release 0 ∷ Complete 0 Success ∷ Ret Void
                ∷ Release 0 ∷ Ret Void ∷ [];
          }
          ∷ [];
      queues = record { guard = 0; cancel = None } ∷ [];
      read = Some 0;
      write = None;
      control = None;
      startio = None;
      startio_cancel = None;
      dpc = Some 2;
    }

-- device 0 is the lower one, device 1 stands over it
abbrev pub holding_set : Set
holding_set =
    record {
      drivers = completing_driver ∷ holding_driver ∷ [];
      devices =
          record { driver = 0; stack = 1; lower = None }
          ∷ record { driver = 1; stack = 2; lower = Some 0 }
          ∷ [];
    }

-- the packet is completed below, and the completion routine holds it
abbrev pub held_below : List Event
held_below =
    Issue 0 1 Read 7 ∷ Step 0 ∷ Step 0 ∷ Step 0 ∷ Step 0
    ∷ Step 0 ∷ Step 0 ∷ Step 0 ∷ Step 0 ∷ Step 0 ∷ []

-- the DPC routine takes it off the queue and completes it, and the I/O manager goes on
abbrev pub completed_again : List Event
completed_again =
    Interrupt 1 ∷ DpcEvent 1 1 ∷ Step 1 ∷ Step 1 ∷ Step 1 ∷ Step 1 ∷ Step 1 ∷ []

abbrev pub worked_run : List Event → Run
worked_run events = run holding_set 2 events

-- the I/O manager doesn't have the packet while it is held; the run goes on to its end, and the
-- packet has topped out
pub record HeldAndCompleted : Type 0 where
  pub held : completing (worked_run held_below).past 0 ≡ false
  pub goes_on : (worked_run (held_below ++ completed_again)).stopped ≡ false
  pub done : topped (worked_run (held_below ++ completed_again)).past 0 ≡ true
