-- Claims to packets that may be cancelled. A register at the stage Armed or Taken is no right: the
-- packet's cancel word has it, or the cancel routine that IoCancelIrp called. Counted over all
-- frames, for a queue of a device and a packet.
use Rattle.laws_runs.proofs.Common.{Bool, List, None, Option, Some, false, if◌then◌else◌, nat_eq, option_map, slice_get, true, ℕ, ⊤, ◌&&◌, ◌+◌, ◌≡◌, ◌≤◌, routine_of_device, is_at, is_name, frames_on, Set, has_cancel, Shared, World, queue_of, start_of, Kind, Queued, Stage, Armed, Cancelling, Listed, Taken, QueueName, Declared, DeviceQueue, Armer, Frame, CancelFrame, Routine, Walk, Packet, Thread, States, named_in, thread_sum, times_in, times_listed, Each, state_of}
use Rattle.laws_runs.proofs.Past.LivePackets.{find}

-- a packet that was taken off a queue, and may be cancelled
abbrev pub was_taken : Kind → Bool
was_taken (Queued name Taken) = true
was_taken _ = false

-- registers of some kinds that name a packet, of a frame that is for one of some devices; over all
-- frames for a device; and those with packets that were taken off a queue, whatever the device is
abbrev pub frame_names : States → (Kind → Bool) → (ℕ → Bool) → ℕ → Frame → ℕ
frame_names states f on n (Routine a) =
    if on a.device then named_in f (state_of states a).kinds a.registers n else 0
frame_names states f on n (Walk m) = 0
frame_names states f on n (CancelFrame c) = 0

abbrev pub names_on : States → (Kind → Bool) → ℕ → ℕ → List Thread → ℕ
names_on states f d n threads =
    thread_sum (frame_names states f (λ device. nat_eq device d) n) threads

abbrev pub takes_in : States → ℕ → List Thread → ℕ
takes_in states n threads = thread_sum (frame_names states was_taken (λ device. true) n) threads

-- 1 where a cancel word names a queue of a device
abbrev pub word_for : Option Armer → ℕ → QueueName → ℕ
word_for None d q = 0
word_for (Some armer) d q =
    if nat_eq armer.device d && is_name armer.queue q then 1 else 0

abbrev pub word_at : Option Packet → ℕ → QueueName → ℕ
word_at None d q = 0
word_at (Some p) d q = word_for p.armer d q

-- a queue that the driver declares, and not the device queue
abbrev pub is_declared : QueueName → Bool
is_declared (Declared q) = true
is_declared DeviceQueue = false

-- a list of a device has a cancel routine
abbrev pub is_cancelable : Set → ℕ → QueueName → Bool
is_cancelable set d q = has_cancel set (routine_of_device (slice_get set.devices d)) q

-- the entries of a list of a device, if it is there
abbrev pub list_of : Shared → ℕ → QueueName → Option (List ℕ)
list_of s d (Declared q) = queue_of s d q
list_of s d DeviceQueue = option_map (λ start. start.device_queue) (start_of s d)

-- how often a packet stands in a queue that is there
abbrev pub times_of : Option (List ℕ) → ℕ → ℕ
times_of None n = 0
times_of (Some entries) n = times_in entries n

-- in one frame a packet that the cancel routine was called for is in no claim
abbrev pub FrameApart : States → Frame → Type 0
FrameApart states (Routine a) =
    (q : QueueName) (n : ℕ) → named_in (is_at Armed q) (state_of states a).kinds a.registers n
    + named_in (is_at Taken q) (state_of states a).kinds a.registers n
    + named_in (is_at Cancelling q) (state_of states a).kinds a.registers n ≤ 1
FrameApart states (Walk m) = ⊤
FrameApart states (CancelFrame c) = ⊤

-- the numbers that claims are about, for a device, a queue and a packet: registers of each stage, 1
-- where the packet's cancel word names the queue, and how often it stands there; and for a packet,
-- registers at the stage Taken for any queue, and how often it stands in all lists together
pub record Numbers : Type 0 where
  pub staged : Stage → ℕ → QueueName → ℕ → ℕ
  pub word : ℕ → QueueName → ℕ → ℕ
  pub entries : ℕ → QueueName → ℕ → ℕ
  pub takes : ℕ → ℕ
  pub lists : ℕ → ℕ

abbrev pub numbers : States → World → Numbers
numbers states w =
    record {
      staged = λ stage d q n. names_on states (is_at stage q) d n w.threads;
      word = λ d q n. word_at (find w.shared.packets n) d q;
      entries = λ d q n. times_of (list_of w.shared d q) n;
      takes = λ n. takes_in states n w.threads;
      lists = λ n. times_listed w.shared n;
    }

-- who has a claim is backed by the word or by the cancel routine; an entry of a queue with a cancel
-- routine has its word, its cancel routine, or a register at the stage Listed; a register at the
-- stage Listed or Armed names an entry of its queue; and a packet stands in one list, or was taken
-- off by one, or neither
pub record Balanced (set : Set) (x : Numbers) : Type 0 where
  pub backed : (d : ℕ) (q : QueueName) (n : ℕ)
      → x.staged Armed d q n + x.staged Taken d q n ≤ x.word d q n + x.staged Cancelling d q n
  pub entered : (d : ℕ) (q : QueueName) (n : ℕ) → is_cancelable set d q ≡ true
      → x.entries d q n ≤ x.word d q n + x.staged Cancelling d q n + x.staged Listed d q n
  pub standing : (d : ℕ) (q : QueueName) (n : ℕ) → is_declared q ≡ true
      → x.staged Listed d q n + x.staged Armed d q n ≤ x.entries d q n
  pub once : (n : ℕ) → x.takes n + x.lists n ≤ 1

pub record Claimed (set : Set) (states : States) (w : World) : Type 0 where
  pub balanced : Balanced set (numbers states w)
  pub apart : (t : ℕ) → Each (FrameApart states) (frames_on w t)
