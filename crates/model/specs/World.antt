-- The world of a run: threads with their frames, and packets. A packet that topped out is no longer
-- in the list of live packets, and its number stays used.
use Rattle.std.specs.Prelude.{ℕ, Bool, suc, option_and_then, ◌+◌, ◌-◌, true, false, List, [], ◌∷◌, length, Option, None, Some, nat_eq, nat_lt, take, slice_get, slice_set, slice_index_or, remove, replicate, if◌then◌else◌}
use Rattle.model.specs.declared.world.Value.{Value}
use Rattle.model.specs.declared.world.Value.TheVariants.{Blank, Num, Ref, Status as StatusValue}
use Rattle.model.specs.declared.event.Lock.{Lock}
use Rattle.model.specs.declared.event.Lock.TheVariants.{SystemCancel, Spin}
use Rattle.model.specs.declared.instr.Field.{Field}
use Rattle.model.specs.declared.instr.Field.TheVariants.{Major as MajorField, Argument as ArgumentField, Info as InfoField}
use Rattle.model.specs.declared.world.Activation.{Activation}
use Rattle.model.specs.declared.world.Armer.{Armer}
use Rattle.model.specs.declared.world.Cells.{Cells}
use Rattle.model.specs.declared.world.OpenLoop.{OpenLoop}
use Rattle.model.specs.declared.world.Irql.TheVariants.{Passive}
use Rattle.model.specs.declared.world.Thread.{Thread}
use Rattle.model.specs.declared.limits.TheConstants.{CELLS, MAX_QUEUES, REGISTERS, SPIN_LOCKS}
use Rattle.model.specs.declared.world.Completion.{Completion}
use Rattle.model.specs.declared.world.Location.{Location}
use Rattle.model.specs.declared.world.Packet.{Packet}
use Rattle.model.specs.declared.status.Status.{Status}
use Rattle.model.specs.declared.status.Major.{Major}
use Rattle.model.specs.declared.status.Status.TheVariants.{Success}
use Rattle.model.specs.Queues.{StartState, idle}
use Rattle.model.specs.Status.{major_code}

-- which thread owns each lock: the system cancel spin lock, and by device its eight spin locks
pub record Locks : Type 0 where
  pub system_cancel : Option ℕ
  pub spin : List (List (Option ℕ))

-- what the threads share: the live packets in the order of issue, how many were issued, the locks,
-- and by device its cells, its queues, what it has for StartIo, and whether its DPC is queued
pub record Shared : Type 0 where
  pub packets : List Packet
  pub issued : ℕ
  pub locks : Locks
  pub cells : List Cells
  pub queues : List (List (List ℕ))
  pub starts : List StartState
  pub dpcs : List Bool

-- the world
pub record World : Type 0 where
  pub threads : List Thread
  pub shared : Shared

-- before the first event: idle threads, no packet was ever issued, every lock is free, every cell
-- is 0, every queue is empty, every device idle, and no DPC is queued
abbrev pub idle_thread : Thread
idle_thread = record { root = Passive; frames = record { items = [] } }

abbrev pub free_locks : ℕ → Locks
free_locks devices =
    record { system_cancel = None; spin = replicate devices (replicate SPIN_LOCKS None) }

abbrev pub blank_cells : Cells
blank_cells = record { plain = replicate CELLS 0; paged = replicate CELLS 0 }

abbrev pub unused : ℕ → Shared
unused devices =
    record {
      packets = [];
      issued = 0;
      locks = free_locks devices;
      cells = replicate devices blank_cells;
      queues = replicate devices (replicate MAX_QUEUES []);
      starts = replicate devices idle;
      dpcs = replicate devices false;
    }

abbrev pub opening : ℕ → ℕ → World
opening devices threads =
    record { threads = replicate threads idle_thread; shared = unused devices }

-- the owner of a lock, if there is such a lock: none where it is free
abbrev pub owner_of : Locks → Lock → Option (Option ℕ)
owner_of locks SystemCancel = Some locks.system_cancel
owner_of locks (Spin l) =
    option_and_then (λ owners. slice_get owners l.number) (slice_get locks.spin l.device)

-- the same with another owner of one lock
abbrev pub with_owner : Locks → Lock → Option ℕ → Locks
with_owner locks SystemCancel owner = record locks { system_cancel = owner }
with_owner locks (Spin l) owner =
    record locks {
      spin =
          slice_set locks.spin l.device
          (slice_set (slice_index_or locks.spin l.device []) l.number owner);
    }

abbrev pub with_locks : Shared → Locks → Shared
with_locks s locks = record s { locks = locks }

-- the same with other cells of one device
abbrev pub with_cells : Shared → ℕ → Cells → Shared
with_cells s device cells = record s { cells = slice_set s.cells device cells }

-- a queue of a device, and the same with other entries
abbrev pub queue_of : Shared → ℕ → ℕ → Option (List ℕ)
queue_of s device q = option_and_then (λ queues. slice_get queues q) (slice_get s.queues device)

abbrev pub with_queue : Shared → ℕ → ℕ → List ℕ → Shared
with_queue s device q entries =
    record s {
      queues =
          slice_set s.queues device (slice_set (slice_index_or s.queues device []) q entries);
    }

-- what a device has for StartIo, and the same with something else
abbrev pub start_of : Shared → ℕ → Option StartState
start_of s device = slice_get s.starts device

abbrev pub with_start : Shared → ℕ → StartState → Shared
with_start s device start = record s { starts = slice_set s.starts device start }

-- whether the DPC of a device is queued, and the same where it is or isn't
abbrev pub is_queued : Shared → ℕ → Bool
is_queued s device = slice_index_or s.dpcs device false

abbrev pub with_dpc : Shared → ℕ → Bool → Shared
with_dpc s device queued = record s { dpcs = slice_set s.dpcs device queued }

-- the place of the first packet of a number, or the number of packets
abbrev pub place_of : List Packet → ℕ → ℕ
place_of [] n = 0
place_of (p ∷ packets) n = if nat_eq p.number n then 0 else suc (place_of packets n)

-- the live packet of a number
abbrev pub packet_of : Shared → ℕ → Option Packet
packet_of s n = slice_get s.packets (place_of s.packets n)

-- the same with that packet changed
abbrev pub with_packet : Shared → ℕ → Packet → Shared
with_packet s n p = record s { packets = slice_set s.packets (place_of s.packets n) p }

-- the same without that packet: it topped out
abbrev pub without_packet : Shared → ℕ → Shared
without_packet s n = record s { packets = remove s.packets (place_of s.packets n) }

-- the packet that a value refers to: one that was issued
abbrev pub packet_in : Shared → Value → Option ℕ
packet_in s Blank = None
packet_in s (Num n) = None
packet_in s (StatusValue status) = None
packet_in s (Ref n) = if nat_lt n s.issued then Some n else None

-- the number that a value is
abbrev pub number_in : Value → Option ℕ
number_in Blank = None
number_in (Num n) = Some n
number_in (Ref n) = None
number_in (StatusValue status) = None

-- the status that a value is
abbrev pub status_in : Value → Option Status
status_in Blank = None
status_in (Num n) = None
status_in (Ref n) = None
status_in (StatusValue status) = Some status

-- an activation with its next position, at a label, and with a register changed
abbrev pub register : Activation → ℕ → Value
register a r = slice_index_or a.registers r Blank

abbrev pub next : Activation → Activation
next a = record a { position = a.position + 1 }

abbrev pub at_label : Activation → ℕ → Activation
at_label a label = record a { position = label }

abbrev pub with_register : Activation → ℕ → Value → Activation
with_register a r v = record a { registers = slice_set a.registers r v }

-- its innermost open loop, and the same without it
abbrev pub innermost : Activation → Option OpenLoop
innermost a = slice_get a.loops.items (length a.loops.items - 1)

abbrev pub outer_loops : Activation → List OpenLoop
outer_loops a = take (length a.loops.items - 1) a.loops.items

abbrev pub with_loops : Activation → List OpenLoop → Activation
with_loops a loops = record a { loops = record { items = loops } }

-- a field of a packet: the major function and the argument are those of its current location
abbrev pub current_location : Packet → Option Location
current_location p = slice_get p.locations.items (p.depth - 1)

abbrev pub major_number : Option Major → ℕ
major_number None = 0
major_number (Some major) = major_code major

abbrev pub location_field : Option Location → Field → ℕ
location_field None field = 0
location_field (Some l) MajorField = major_number l.major
location_field (Some l) ArgumentField = l.argument
location_field (Some l) InfoField = 0

abbrev pub field_of : Packet → Field → ℕ
field_of p MajorField = location_field (current_location p) MajorField
field_of p ArgumentField = location_field (current_location p) ArgumentField
field_of p InfoField = p.info

abbrev pub with_info : Packet → ℕ → Packet
with_info p info = record p { info = info }

-- a packet whose current location is marked: SL_PENDING_RETURNED is set in its control byte
abbrev pub marked_location : Option Location → List Location → ℕ → List Location
marked_location None locations place = locations
marked_location (Some l) locations place = slice_set locations place (record l { marked = true })

abbrev pub mark_current : Packet → Packet
mark_current p =
    let place : ℕ = p.depth - 1 in
    record p {
      locations =
          record {
            items = marked_location (slice_get p.locations.items place) p.locations.items place;
          };
    }

-- a packet that IoCompleteRequest was called for
abbrev pub completed : Packet → Status → Packet
completed p status = record p { status = status; completing = true }

-- a packet that IoCancelIrp was called for, and one whose cancel word is another, or empty
abbrev pub cancelled : Packet → Packet
cancelled p = record p { cancel = true }

abbrev pub with_armer : Packet → Option Armer → Packet
with_armer p armer = record p { armer = armer }

-- IoCallDriver with a location of its own (Driver Kit, IoCopyCurrentIrpStackLocationToNext and
-- IoSetCompletionRoutine): the next location asks the lower device the same, with no control bit
-- set
abbrev pub copied_location : Option Location → ℕ → Option Completion → Location
copied_location None device completion =
    record { major = None; argument = 0; device = device; marked = false; completion = completion }
copied_location (Some l) device completion =
    record {
      major = l.major;
      argument = l.argument;
      device = device;
      marked = false;
      completion = completion;
    }

abbrev pub sent_down : Packet → ℕ → Option Completion → Packet
sent_down p device completion =
    record p {
      depth = p.depth + 1;
      locations = record {
        items =
            slice_set p.locations.items p.depth
            (copied_location (current_location p) device completion);
      };
    }

-- IoSkipCurrentIrpStackLocation: the lower device is asked in the current location
abbrev pub shared_location : Option Location → List Location → ℕ → ℕ → List Location
shared_location None locations place device = locations
shared_location (Some l) locations place device =
    slice_set locations place (record l { device = device })

abbrev pub shared_with : Packet → ℕ → Packet
shared_with p device =
    let place : ℕ = p.depth - 1 in
    record p {
      locations =
          record {
            items = shared_location (slice_get p.locations.items place) p.locations.items place
                device;
          };
    }

-- completion leaves the current location: Irp->PendingReturned becomes its mark, and then the
-- location above it is current
abbrev pub is_marked : Option Location → Bool
is_marked None = false
is_marked (Some l) = l.marked

abbrev pub left_location : Packet → Packet
left_location p = record p { pending_returned = is_marked (current_location p) }

abbrev pub moved_up : Packet → Packet
moved_up p = record p { depth = p.depth - 1 }

-- where no routine is set there, the mark is carried up
abbrev pub carried_up : Packet → Packet
carried_up p = if p.pending_returned then mark_current (moved_up p) else moved_up p

-- the completion routine of the current location
abbrev pub completion_of : Option Location → Option Completion
completion_of None = None
completion_of (Some l) = l.completion

-- the major function that the current location asks for
abbrev pub asked_of : Option Location → Option Major
asked_of None = None
asked_of (Some l) = l.major

-- a location at which a device is asked something, and one at which nothing was asked yet
abbrev pub asked_location : Major → ℕ → ℕ → Location
asked_location major argument device =
    record {
      major = Some major;
      argument = argument;
      device = device;
      marked = false;
      completion = None;
    }

abbrev pub unused_location : Location
unused_location =
    record { major = None; argument = 0; device = 0; marked = false; completion = None }

-- a new packet for a device: as many locations as the device's stack size, the first one asked and
-- current
abbrev pub new_packet : ℕ → ℕ → Major → ℕ → ℕ → Packet
new_packet number device major argument stack =
    record {
      number = number;
      depth = 1;
      locations = record
          { items = asked_location major argument device ∷ replicate (stack - 1) unused_location };
      status = Success;
      info = 0;
      completing = false;
      pending_returned = false;
      cancel = false;
      armer = None;
    }

-- the frame of a routine that begins, with what it is handed in its first register
abbrev pub entered : ℕ → ℕ → ℕ → Value → Activation
entered driver routine device first =
    record {
      driver = driver;
      routine = routine;
      device = device;
      position = 0;
      loops = record { items = [] };
      registers = first ∷ replicate (REGISTERS - 1) Blank;
    }
