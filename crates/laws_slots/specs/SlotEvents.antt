-- What the other events do to a world of slots: a request, IoCancelIrp, an interrupt, a DPC and a
-- StartIo routine that begin. Who applies a request says which free slot its packet gets.
use Rattle.std.specs.Prelude.{ℕ, ◌+◌, ◌&&◌, not, Bool, true, false, List, [], ◌∷◌, ◌++◌, length, replicate, Option, None, Some, nat_eq, nat_lt, slice_get, slice_index_or, slice_set, if◌then◌else◌}
use Rattle.model.specs.declared.event.Event.{Event}
use Rattle.model.specs.declared.event.Event.TheVariants.{Issue, Cancel as CancelEvent, Interrupt, Dpc as DpcEvent, StartIo as StartIoEvent, Step}
use Rattle.model.specs.declared.event.Reply.TheVariants.{Started, Stepped, Finished, Idle, Refused}
use Rattle.model.specs.declared.limits.TheConstants.{MAX_ISSUED, MAX_LIVE_PACKETS}
use Rattle.model.specs.declared.set.Device.{Device}
use Rattle.model.specs.declared.status.Major.{Major}
use Rattle.model.specs.declared.world.CancelStep.TheVariants.{Acquire as AcquireStep}
use Rattle.model.specs.declared.world.Irql.{Irql}
use Rattle.model.specs.declared.world.Irql.TheVariants.{Passive, Dispatch as DispatchLevel}
use Rattle.model.specs.declared.world.Packet.{Packet}
use Rattle.model.specs.declared.world.Value.TheVariants.{Ref}
use Rattle.model.specs.Effect.{routine_of_device}
use Rattle.model.specs.Events.{dpc_activation, irql_of}
use Rattle.model.specs.Queues.{StartState, head_of, without_first_to_start}
use Rattle.model.specs.Set.{Set, dpc_of, serving, startio_of}
use Rattle.model.specs.World.{entered, new_packet, unused}
use Rattle.laws_slots.specs.Rep.{named}
use Rattle.laws_slots.specs.Slots.{SlotCancel, SlotFrame, SlotRoutine, SlotShared, SlotThread, SlotWorld, slot_at, slot_start, with_slot_start}
use Rattle.laws_slots.specs.SlotStep.{SlotAnswer, slot_step, stays}

-- before the first event: idle threads, and so many free slots
abbrev pub idle_slots : SlotThread
idle_slots = record { root = Passive; frames = [] }

abbrev pub opening_slots : ℕ → ℕ → ℕ → SlotWorld
opening_slots devices threads slots =
    record {
      threads = replicate threads idle_slots;
      shared =
          record {
            slots = replicate slots None;
            order = [];
            issued = 0;
            locks = (unused devices).locks;
            cells = (unused devices).cells;
            queues = (unused devices).queues;
            starts = (unused devices).starts;
            dpcs = (unused devices).dpcs;
          };
    }

-- the same with another thread in place of one, and with another shared part
abbrev pub with_slot_thread : SlotWorld → ℕ → SlotShared → SlotThread → SlotWorld
with_slot_thread v t s thread = record { threads = slice_set v.threads t thread; shared = s }

abbrev pub rooted_slot : Irql → SlotFrame → SlotThread
rooted_slot level f = record { root = level; frames = f ∷ [] }

abbrev pub has_none : SlotThread → Bool
has_none thread = nat_eq (length thread.frames) 0

-- a request: its packet is put into a free slot
abbrev pub can_issue_slot : SlotShared → Bool
can_issue_slot s = nat_lt (length s.order) MAX_LIVE_PACKETS && nat_lt s.issued MAX_ISSUED

abbrev pub with_new_slot : SlotShared → ℕ → Packet → SlotShared
with_new_slot s key p =
    record s {
      slots = slice_set s.slots key (Some p);
      order = s.order ++ key ∷ [];
      issued = s.issued + 1;
    }

abbrev pub issued_slot : Set → SlotWorld → ℕ → ℕ → ℕ → Device → Major → ℕ → SlotAnswer
issued_slot set v key t d device major argument =
    record {
      world =
          with_slot_thread v t
          (with_new_slot v.shared key
          (new_packet v.shared.issued d major argument device.stack))
          (rooted_slot Passive
          (SlotRoutine
          (entered device.driver (serving (slice_get set.drivers device.driver) major) d
          (Ref key))));
      reply = Started v.shared.issued;
    }

abbrev pub issue_slot : Set → SlotWorld → ℕ → ℕ → ℕ → Major → ℕ → Option SlotThread
    → Option Device → SlotAnswer
issue_slot set v key t d major argument None device = stays v Refused
issue_slot set v key t d major argument (Some thread) None = stays v Refused
issue_slot set v key t d major argument (Some thread) (Some device) =
    if has_none thread && can_issue_slot v.shared
    then issued_slot set v key t d device major argument
    else stays v Refused

-- the key of the packet of a number, which is looked for in the order of issue
abbrev pub has_number : Option Packet → ℕ → Bool
has_number None n = false
has_number (Some p) n = nat_eq p.number n

abbrev pub key_of : List (Option Packet) → List ℕ → ℕ → Option ℕ
key_of slots [] n = None
key_of slots (k ∷ keys) n = if has_number (slot_at slots k) n then Some k else key_of slots keys n

-- IoCancelIrp begins
abbrev pub cancel_key : SlotWorld → ℕ → ℕ → Irql → Option ℕ → SlotAnswer
cancel_key v t n level None = stays v Finished
cancel_key v t n level (Some k) =
    record {
      world = with_slot_thread v t v.shared (rooted_slot level (SlotCancel k n AcquireStep));
      reply = Started n;
    }

abbrev pub cancel_slot : SlotWorld → ℕ → ℕ → Option Irql → Option SlotThread → SlotAnswer
cancel_slot v t n level None = stays v Refused
cancel_slot v t n None (Some thread) = stays v Refused
cancel_slot v t n (Some level) (Some thread) =
    if has_none thread && nat_lt n v.shared.issued
    then cancel_key v t n level (key_of v.shared.slots v.shared.order n)
    else stays v Refused

-- a DPC is queued, and begins
abbrev pub slot_queued : SlotShared → ℕ → Bool
slot_queued s d = slice_index_or s.dpcs d false

abbrev pub with_slot_dpc : SlotShared → ℕ → Bool → SlotShared
with_slot_dpc s d queued = record s { dpcs = slice_set s.dpcs d queued }

abbrev pub interrupt_slot : SlotWorld → ℕ → Option ℕ → SlotAnswer
interrupt_slot v d None = stays v Refused
interrupt_slot v d (Some routine) =
    if slot_queued v.shared d then stays v Idle
    else record { world = record v { shared = with_slot_dpc v.shared d true }; reply = Stepped }

abbrev pub dpc_slot : Set → SlotWorld → ℕ → ℕ → Option SlotThread → Option ℕ → SlotAnswer
dpc_slot set v t d None routine = stays v Refused
dpc_slot set v t d (Some thread) None = stays v Refused
dpc_slot set v t d (Some thread) (Some routine) =
    if not (has_none thread) then stays v Refused else
    (if slot_queued v.shared d
    then record {
      world =
          with_slot_thread v t (with_slot_dpc v.shared d false)
          (rooted_slot DispatchLevel (SlotRoutine (dpc_activation set d routine)));
      reply = Stepped;
    }
    else stays v Idle)

-- a StartIo routine begins for the first packet of its device's start list, which is told by its
-- number
abbrev pub startio_key : Set → SlotWorld → ℕ → ℕ → ℕ → StartState → Option ℕ → SlotAnswer
startio_key set v t d routine start None = stays v Idle
startio_key set v t d routine start (Some k) =
    record {
      world =
          with_slot_thread v t (with_slot_start v.shared d (without_first_to_start start))
          (rooted_slot DispatchLevel
          (SlotRoutine
          (entered (routine_of_device (slice_get set.devices d)) routine d (Ref k))));
      reply = Started (named v.shared k);
    }

abbrev pub startio_from_slots : Set → SlotWorld → ℕ → ℕ → ℕ → Option StartState → SlotAnswer
startio_from_slots set v t d routine None = stays v Refused
startio_from_slots set v t d routine (Some start) =
    startio_key set v t d routine start (head_of start.start_list)

abbrev pub startio_slot : Set → SlotWorld → ℕ → ℕ → Option SlotThread → Option ℕ → SlotAnswer
startio_slot set v t d None routine = stays v Refused
startio_slot set v t d (Some thread) None = stays v Refused
startio_slot set v t d (Some thread) (Some routine) =
    if has_none thread then startio_from_slots set v t d routine (slot_start v.shared d)
    else stays v Refused

-- what an event does, where a request's packet gets the slot of a key
abbrev pub slot_event : Set → SlotWorld → ℕ → Event → SlotAnswer
slot_event set v key (Issue t d major argument) =
    issue_slot set v key t d major argument (slice_get v.threads t) (slice_get set.devices d)
slot_event set v key (CancelEvent t n level) =
    cancel_slot v t n (irql_of level) (slice_get v.threads t)
slot_event set v key (Interrupt d) = interrupt_slot v d (dpc_of set d)
slot_event set v key (DpcEvent t d) = dpc_slot set v t d (slice_get v.threads t) (dpc_of set d)
slot_event set v key (StartIoEvent t d) =
    startio_slot set v t d (slice_get v.threads t) (startio_of set d)
slot_event set v key (Step t) = slot_step set v t
