-- What begins on an idle thread: the root of a request, a DPC, a StartIo routine or IoCancelIrp,
-- with what changes beside it.
use Rattle.laws_runs.proofs.Prelude.{arith, List, Some, [], false, slice_get, true, ℕ, ◌∷◌, ◌≡◌, ◌≤◌, Action, Issues, routine_of_device, Change, can_issue, dpc_activation, serves_request, with_new_packet, with_thread, StartState, head_of, without_first_to_start, Set, dpc_of, startio_of, Shared, World, entered, packet_of, start_of, with_dpc, with_start, Reply, Started, Stepped, Device, Major, AcquireStep, Frame, CancelFrame, Routine, Irql, DispatchLevel, Passive, Packet, Thread, Ref}

-- a frame that begins at a level, what threads share then, the actions and the reply
pub record Root : Type 0 where
  pub level : Irql
  pub frame : Frame
  pub shared : Shared
  pub actions : List Action
  pub reply : Reply

-- a dispatch routine begins for a new packet
abbrev pub request_root : Set → Shared → ℕ → Device → Major → ℕ → Root
request_root set s d device major argument =
    record {
      level = Passive;
      frame = Routine (serves_request set d device major s.issued);
      shared = with_new_packet s d device major argument;
      actions = Issues s.issued device.stack ∷ [];
      reply = Started s.issued;
    }

-- a DPC routine begins
abbrev pub dpc_root : Set → Shared → ℕ → ℕ → Root
dpc_root set s d routine =
    record {
      level = DispatchLevel;
      frame = Routine (dpc_activation set d routine);
      shared = with_dpc s d false;
      actions = [];
      reply = Stepped;
    }

-- a StartIo routine begins for a packet
abbrev pub startio_root : Set → Shared → ℕ → ℕ → ℕ → StartState → Root
startio_root set s d routine n start =
    record {
      level = DispatchLevel;
      frame = Routine (entered (routine_of_device (slice_get set.devices d)) routine d (Ref n));
      shared = with_start s d (without_first_to_start start);
      actions = [];
      reply = Started n;
    }

-- IoCancelIrp begins for a packet
abbrev pub begins_cancelling : ℕ → Frame
begins_cancelling n = CancelFrame (record { packet = n; next = AcquireStep })

abbrev pub cancel_root : Shared → ℕ → Irql → Root
cancel_root s n level =
    record {
      level = level;
      frame = begins_cancelling n;
      shared = s;
      actions = [];
      reply = Started n;
    }

-- a packet can be issued to a device
pub record IssuesPacket (set : Set) (s : Shared) : Type 0 where
  pub d : ℕ
  pub device : Device
  pub major : Major
  pub argument : ℕ
  pub there : slice_get set.devices d ≡ Some device
  pub room : can_issue s ≡ true

-- a packet is the first of the start list of a device with a StartIo routine
pub record TakesFirst (set : Set) (s : Shared) : Type 0 where
  pub d : ℕ
  pub routine : ℕ
  pub start : StartState
  pub n : ℕ
  pub there : startio_of set d ≡ Some routine
  pub has : start_of s d ≡ Some start
  pub first : head_of start.start_list ≡ Some n

-- what begins, and what changes beside it: a packet is new, a DPC is no longer queued, the first
-- packet of a start list is off it, or nothing does
pub data Beside (set : Set) (s : Shared) : Root → Type 0 where
  issues : (h : IssuesPacket set s)
      → Beside set s (request_root set s h.d h.device h.major h.argument)
  takes_dpc : (d routine : ℕ) → dpc_of set d ≡ Some routine
      → Beside set s (dpc_root set s d routine)
  takes_first : (h : TakesFirst set s)
      → Beside set s (startio_root set s h.d h.routine h.n h.start)
  takes_nothing : (n : ℕ) (level : Irql) (p : Packet) → packet_of s n ≡ Some p
      → Beside set s (cancel_root s n level)

-- a thread without frames
pub record IdleThread (w : World) (t : ℕ) : Type 0 where
  pub thread : Thread
  pub found : slice_get w.threads t ≡ Some thread
  pub idle : thread.frames.items ≡ []

-- with a root on it
abbrev pub with_root : Thread → Root → Thread
with_root thread root =
    record thread { root = root.level; frames = record { items = root.frame ∷ [] } }

abbrev pub root_begun : World → ℕ → Thread → Root → Change
root_begun w t thread root =
    record {
      world = with_thread w t root.shared (with_root thread root);
      actions = root.actions;
      reply = root.reply;
      over = false;
    }

module _ (set : Set) (s : Shared) where
  -- as many packets were issued as before, or more
  pub issued_more : (root : Root) → Beside set s root → s.issued ≤ root.shared.issued
  issued_more root (issues h) = omega arith
  issued_more root _ = omega arith

  -- what holds of no action, and of one that issues a packet, holds of its actions
  pub root_told : (P : List Action → Type 0) → P []
      → ((n stack : ℕ) → P (Issues n stack ∷ [])) → (root : Root) → Beside set s root
      → P root.actions
  root_told P none one root (issues h) = one s.issued h.device.stack
  root_told P none one root _ = none
