-- A world whose live packets stand in slots. Frames, queues and what devices have for StartIo name
-- a packet by the key of its slot, and not by its number.
use Rattle.std.specs.Prelude.{ℕ, Bool, List, [], Option, None, Some, option_and_then, slice_get, slice_index_or, slice_set}
use Rattle.model.specs.declared.world.Activation.{Activation}
use Rattle.model.specs.declared.world.CancelStep.{CancelStep}
use Rattle.model.specs.declared.world.Cells.{Cells}
use Rattle.model.specs.declared.world.Irql.{Irql}
use Rattle.model.specs.declared.world.Packet.{Packet}
use Rattle.model.specs.Queues.{StartState, unlinked}
use Rattle.model.specs.World.{Locks}

-- a frame: a routine, each of whose registers that refers to a packet has its key; the I/O manager,
-- which completes the packet of a key; or it cancels a packet, of which it has the number too,
-- since the packet may top out and its slot be another's while it does
pub data SlotFrame : Type 0 where
  SlotRoutine : Activation → SlotFrame
  SlotWalk : (key : ℕ) → SlotFrame
  SlotCancel : (key : ℕ) (number : ℕ) (next : CancelStep) → SlotFrame

-- a thread: the level of its lowest frame, and its frames, the lowest first
pub record SlotThread : Type 0 where
  pub root : Irql
  pub frames : List SlotFrame

-- what the threads share: the slots, each with its packet or free; the keys of those that are used
-- in the order of issue; how many packets were issued; the locks; and by device its cells, its
-- queues and what it has for StartIo, with keys for packets, and whether its DPC is queued
pub record SlotShared : Type 0 where
  pub slots : List (Option Packet)
  pub order : List ℕ
  pub issued : ℕ
  pub locks : Locks
  pub cells : List Cells
  pub queues : List (List (List ℕ))
  pub starts : List StartState
  pub dpcs : List Bool

pub record SlotWorld : Type 0 where
  pub threads : List SlotThread
  pub shared : SlotShared

-- the packet in the slot of a key
abbrev pub slot_at : List (Option Packet) → ℕ → Option Packet
slot_at slots k = slice_index_or slots k None

abbrev pub packet_at : SlotShared → ℕ → Option Packet
packet_at s k = slot_at s.slots k

-- the same with another packet in a slot, and with a slot free: its packet topped out
abbrev pub with_packet_at : SlotShared → ℕ → Packet → SlotShared
with_packet_at s k p = record s { slots = slice_set s.slots k (Some p) }

abbrev pub without_packet_at : SlotShared → ℕ → SlotShared
without_packet_at s k =
    record s { slots = slice_set s.slots k None; order = unlinked s.order k }

-- the same with other locks, or with other cells of a device
abbrev pub with_slot_locks : SlotShared → Locks → SlotShared
with_slot_locks s locks = record s { locks = locks }

abbrev pub with_slot_cells : SlotShared → ℕ → Cells → SlotShared
with_slot_cells s device cells = record s { cells = slice_set s.cells device cells }

-- a queue of a device, and the same with other entries
abbrev pub slot_queue : SlotShared → ℕ → ℕ → Option (List ℕ)
slot_queue s device q = option_and_then (λ queues. slice_get queues q) (slice_get s.queues device)

abbrev pub with_slot_queue : SlotShared → ℕ → ℕ → List ℕ → SlotShared
with_slot_queue s device q entries =
    record s {
      queues =
          slice_set s.queues device (slice_set (slice_index_or s.queues device []) q entries);
    }

-- what a device has for StartIo, and the same with something else
abbrev pub slot_start : SlotShared → ℕ → Option StartState
slot_start s device = slice_get s.starts device

abbrev pub with_slot_start : SlotShared → ℕ → StartState → SlotShared
with_slot_start s device start = record s { starts = slice_set s.starts device start }
