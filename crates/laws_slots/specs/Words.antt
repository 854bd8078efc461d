-- A world whose registers hold plain words. What threads share is that of a world of slots.
use Rattle.std.specs.Prelude.{ℕ, ◌+◌, ◌-◌, List, [], ◌∷◌, ◌++◌, length, replicate, take, Option, None, Some, nat_eq, nat_lt, option_map, slice_get, slice_index_or, slice_set, if◌then◌else◌}
use Rattle.model.specs.declared.event.Lock.{Lock}
use Rattle.model.specs.declared.event.Lock.TheVariants.{Spin}
use Rattle.model.specs.declared.limits.TheConstants.{REGISTERS}
use Rattle.model.specs.declared.set.Device.{Device}
use Rattle.model.specs.declared.set.QueueName.TheVariants.{Declared, DeviceQueue}
use Rattle.model.specs.declared.status.Major.{Major}
use Rattle.model.specs.declared.status.Status.{Status}
use Rattle.model.specs.declared.status.Status.TheVariants.{Success, Pending, Busy, Unsuccessful, InvalidParameter, InvalidDeviceRequest, Cancelled}
use Rattle.model.specs.declared.world.Armer.{Armer}
use Rattle.model.specs.declared.world.CancelStep.{CancelStep}
use Rattle.model.specs.declared.world.Completion.{Completion}
use Rattle.model.specs.declared.world.Irql.{Irql}
use Rattle.model.specs.declared.world.OpenLoop.{OpenLoop}
use Rattle.model.specs.Effect.{operand_of, routine_of_device, serving_for}
use Rattle.model.specs.Queues.{StartState, head_of}
use Rattle.model.specs.Set.{Set, default_number, has_cancel, instruction_at}
use Rattle.model.specs.Status.{status_code}
use Rattle.laws_slots.specs.Slots.{SlotShared}
use Rattle.laws_slots.specs.declared.activation.WordActivation.{WordActivation}

-- a frame: a routine; the I/O manager, which completes the packet of a key; or it cancels a packet,
-- of which it has the number too
pub data WordFrame : Type 0 where
  WordRoutine : WordActivation → WordFrame
  WordWalk : (key : ℕ) → WordFrame
  WordCancel : (key : ℕ) (number : ℕ) (next : CancelStep) → WordFrame

-- a thread: the level of its lowest frame, and its frames, the lowest first
pub record WordThread : Type 0 where
  pub root : Irql
  pub frames : List WordFrame

pub record WordWorld : Type 0 where
  pub threads : List WordThread
  pub shared : SlotShared

-- the status that a word is the value of, if it is one's; and a word that is read as a status
abbrev pub coded_status : ℕ → Option Status
coded_status n =
    if nat_eq n (status_code Success) then Some Success else
    (if nat_eq n (status_code Pending) then Some Pending else
    (if nat_eq n (status_code Busy) then Some Busy else
    (if nat_eq n (status_code Unsuccessful) then Some Unsuccessful else
    (if nat_eq n (status_code InvalidParameter) then Some InvalidParameter else
    (if nat_eq n (status_code InvalidDeviceRequest) then Some InvalidDeviceRequest else
    (if nat_eq n (status_code Cancelled) then Some Cancelled else None))))))

abbrev pub status_or : Option Status → Status
status_or None = Success
status_or (Some status) = status

abbrev pub status_of_word : ℕ → Status
status_of_word n = status_or (coded_status n)

-- a register, and the same routine with another word in one
abbrev pub word : WordActivation → ℕ → ℕ
word a r = slice_index_or a.registers r 0

abbrev pub with_word : WordActivation → ℕ → ℕ → WordActivation
with_word a r n = record a { registers = slice_set a.registers r n }

-- a routine with its next position, and at a label
abbrev pub next : WordActivation → WordActivation
next a = record a { position = a.position + 1 }

abbrev pub at_label : WordActivation → ℕ → WordActivation
at_label a label = record a { position = label }

-- its innermost open loop, and the same with other loops
abbrev pub innermost : WordActivation → Option OpenLoop
innermost a = slice_get a.loops.items (length a.loops.items - 1)

abbrev pub outer_loops : WordActivation → List OpenLoop
outer_loops a = take (length a.loops.items - 1) a.loops.items

abbrev pub with_loops : WordActivation → List OpenLoop → WordActivation
with_loops a loops = record a { loops = record { items = loops } }

-- `end`: where turns are left it goes back to the start of the loop's body, else it closes the loop
abbrev pub turned : WordActivation → OpenLoop → WordActivation
turned a l =
    if nat_lt 1 l.turns
    then at_label
    (with_loops a (outer_loops a ++ record { start = l.start; turns = l.turns - 1 } ∷ []))
    l.start
    else next (with_loops a (outer_loops a))

-- what a routine names by its device: a spin lock, a list whose cancel routine it sets, the device
-- queue, a completion routine
abbrev pub spin_lock : WordActivation → ℕ → Lock
spin_lock a lock = Spin (record { device = a.device; number = lock })

abbrev pub armer_of : WordActivation → ℕ → Armer
armer_of a q = record { device = a.device; queue = Declared q }

abbrev pub armer_waiting : WordActivation → Armer
armer_waiting a = record { device = a.device; queue = DeviceQueue }

abbrev pub set_by : WordActivation → Option ℕ → Option Completion
set_by a f = option_map (λ routine. record { routine = routine; device = a.device }) f

-- the key of the packet that IoStartNextPacket starts, where the driver has a cancel routine for
-- the device queue: that packet has none any more
abbrev pub next_disarmed : Set → WordActivation → StartState → Option ℕ
next_disarmed set a start =
    if has_cancel set a.driver DeviceQueue then head_of start.device_queue else None

-- a routine that begins, with what it is handed in its first register. It may take nothing from the
-- others
abbrev pub entered : ℕ → ℕ → ℕ → ℕ → WordActivation
entered driver routine device first =
    record {
      driver = driver;
      routine = routine;
      device = device;
      position = 0;
      loops = record { items = [] };
      registers = first ∷ replicate (REGISTERS - 1) 0;
    }

-- the dispatch routine that serves what a packet asks of a device, and a completion routine
abbrev pub dispatched : Set → ℕ → Option Device → Option Major → ℕ → WordActivation
dispatched set device None major k = entered 0 default_number device k
dispatched set device (Some d) major k =
    entered d.driver (serving_for set d.driver major) device k

abbrev pub completes_with : Set → Completion → ℕ → WordActivation
completes_with set c k =
    entered (routine_of_device (slice_get set.devices c.device)) c.routine c.device k

-- and a DPC routine, which is handed nothing
abbrev pub dpc_activation : Set → ℕ → ℕ → WordActivation
dpc_activation set d routine =
    entered (routine_of_device (slice_get set.devices d)) routine d 0

-- a routine that waited for a lower driver gets the status that this returned
abbrev pub answered_in : WordActivation → Status → Option ℕ → WordActivation
answered_in a status None = a
answered_in a status (Some r) = with_word a r (status_code status)

abbrev pub answered : Set → WordActivation → Status → WordActivation
answered set a status =
    answered_in a status (operand_of (instruction_at set a.driver a.routine (a.position - 1)))
