-- A worked run, as a check of what the definitions on the token of a busy device say: a DPC routine
-- takes the current packet, starts the next one, and then makes the packet that it took the current
-- one again. The device then has a current packet while StartIo has to begin for another one. The
-- local rule refuses `begin` after `next`, and would accept the set if `next` kept the token.
use Rattle.std.specs.Prelude.{◌≡◌, true, List, [], ◌∷◌, ◌++◌, Option, Some, None, option_map}
use Rattle.model.specs.declared.abs.Abs.{Abs}
use Rattle.model.specs.declared.abs.Rule.{Rule}
use Rattle.model.specs.declared.abs.Rule.TheVariants.{Token}
use Rattle.model.specs.declared.event.Event.{Event}
use Rattle.model.specs.declared.event.Event.TheVariants.{Issue, Interrupt, Dpc as DpcEvent, StartIo as StartIoEvent, Step}
use Rattle.model.specs.declared.instr.Instr.TheVariants.{Mark, Start, Take, Begin, Next, Ret}
use Rattle.model.specs.declared.instr.Return.TheVariants.{WithStatus, Void}
use Rattle.model.specs.declared.set.Driver.{Driver}
use Rattle.model.specs.declared.set.Sort.TheVariants.{Dispatch, StartIo, Dpc}
use Rattle.model.specs.declared.status.Major.TheVariants.{Read}
use Rattle.model.specs.declared.status.Status.TheVariants.{Pending}
use Rattle.model.specs.LocalRule.{entry_of_sort, handed, refuses}
use Rattle.model.specs.Queues.{StartState}
use Rattle.model.specs.Run.{run}
use Rattle.model.specs.Set.{Set}
use Rattle.model.specs.World.{start_of}

-- the DPC routine gives the token away twice, by `next` and by `begin`
abbrev pub doubling_driver : Driver
doubling_driver =
    record {
      routines =
          record { sort = Dispatch; code = Mark 0 ∷ Start 0 ∷ Ret (WithStatus Pending) ∷ [] }
          ∷ record { sort = StartIo; code = Begin 0 ∷ Ret Void ∷ [] }
          ∷ record { sort = Dpc; code = Take 0 3 ∷ Next ∷ Begin 0 ∷ Ret Void ∷ [] }
          ∷ [];
      queues = [];
      read = Some 0;
      write = None;
      control = None;
      startio = Some 1;
      startio_cancel = None;
      dpc = Some 2;
    }

abbrev pub doubling_set : Set
doubling_set =
    record {
      drivers = doubling_driver ∷ [];
      devices = record { driver = 0; stack = 1; lower = None } ∷ [];
    }

-- two packets are started; the first becomes the current one, and the DPC routine runs
abbrev pub one_request : List Event
one_request = Issue 0 0 Read 7 ∷ Step 0 ∷ Step 0 ∷ Step 0 ∷ []

abbrev pub begun_and_interrupted : List Event
begun_and_interrupted =
    StartIoEvent 0 0 ∷ Step 0 ∷ Step 0
    ∷ Interrupt 0 ∷ DpcEvent 0 0 ∷ Step 0 ∷ Step 0 ∷ Step 0 ∷ Step 0 ∷ []

-- what the device has for StartIo then
abbrev pub doubled : Option StartState
doubled =
    let events = one_request ++ one_request ++ begun_and_interrupted in
    start_of (run doubling_set 1 events).world.shared 0

-- the rule that `begin` breaks after `take` and `next`
abbrev pub begin_after_next : Abs → Option Rule
begin_after_next entry =
    let taken : Abs = handed doubling_set 0 entry (Take 0 3) in
    refuses (handed doubling_set 0 taken Next) (Begin 0) Dpc doubling_set 0

-- the device has a current packet, and another one to be started
pub record TokenDoubled : Type 0 where
  pub two : doubled
      ≡ Some (record { start_list = 1 ∷ []; device_queue = []; busy = true; slot = Some 0 })
  pub refused : option_map begin_after_next (entry_of_sort Dpc None) ≡ Some (Some Token)
