-- What a world of slots means: the world in which each packet is named by its number.
use Rattle.std.specs.Prelude.{ℕ, ◌≡◌, ◌<◌, List, [], ◌∷◌, length, map, option_map, Option, None, Some, is_some, true, false, ⊤}
use Rattle.model.specs.declared.limits.TheConstants.{REGISTERS}
use Rattle.model.specs.declared.world.Activation.{Activation}
use Rattle.model.specs.declared.world.Frame.{Frame}
use Rattle.model.specs.declared.world.Frame.TheVariants.{Routine, Walk, Cancel as CancelFrame}
use Rattle.model.specs.declared.world.Packet.{Packet}
use Rattle.model.specs.declared.world.Thread.{Thread}
use Rattle.model.specs.declared.world.Value.{Value}
use Rattle.model.specs.declared.world.Value.TheVariants.{Blank, Num, Ref, Status as StatusValue}
use Rattle.model.specs.Queues.{StartState, is_linked}
use Rattle.model.specs.Set.{Set}
use Rattle.model.specs.Shown.{ShowsThreads, whole_thread}
use Rattle.model.specs.World.{Shared, World}
use Rattle.laws_slots.specs.Slots.{SlotFrame, SlotRoutine, SlotWalk, SlotCancel, SlotShared, SlotThread, SlotWorld, packet_at, slot_at}

-- the number that a key names: that of the packet in its slot. The key of a free slot names the
-- next number, which no packet has yet
abbrev pub number_in_slot : ℕ → Option Packet → ℕ
number_in_slot issued None = issued
number_in_slot issued (Some p) = p.number

abbrev pub named : SlotShared → ℕ → ℕ
named s k = number_in_slot s.issued (packet_at s k)

-- what values, frames, threads and lists mean, by what keys name
abbrev pub meant_value : (ℕ → ℕ) → Value → Value
meant_value name Blank = Blank
meant_value name (Num n) = Num n
meant_value name (Ref k) = Ref (name k)
meant_value name (StatusValue status) = StatusValue status

abbrev pub meant_routine : (ℕ → ℕ) → Activation → Activation
meant_routine name a = record a { registers = map (meant_value name) a.registers }

abbrev pub meant_frame : (ℕ → ℕ) → SlotFrame → Frame
meant_frame name (SlotRoutine a) = Routine (meant_routine name a)
meant_frame name (SlotWalk k) = Walk (name k)
meant_frame name (SlotCancel k n step) = CancelFrame (record { packet = n; next = step })

abbrev pub meant_thread : (ℕ → ℕ) → SlotThread → Thread
meant_thread name thread =
    record {
      root = thread.root;
      frames = record { items = map (meant_frame name) thread.frames };
    }

abbrev pub meant_start : (ℕ → ℕ) → StartState → StartState
meant_start name start =
    record {
      start_list = map name start.start_list;
      device_queue = map name start.device_queue;
      busy = start.busy;
      slot = option_map name start.slot;
    }

abbrev pub meant_lists : (ℕ → ℕ) → List (List ℕ) → List (List ℕ)
meant_lists name lists = map (map name) lists

-- the packets in the slots of some keys
abbrev pub then_packet : Option Packet → List Packet → List Packet
then_packet None packets = packets
then_packet (Some p) packets = p ∷ packets

abbrev pub packets_in : List (Option Packet) → List ℕ → List Packet
packets_in slots [] = []
packets_in slots (k ∷ keys) = then_packet (slot_at slots k) (packets_in slots keys)

-- a packet as a slot has it: whether the I/O manager has it isn't kept
abbrev pub slotted : Packet → Packet
slotted p = record p { completing = false }

-- the shared part of a world is meant: the packets in the slots, in the order of issue, are the
-- live ones; each entry of a list names the packet that stands there; and the rest is the same
pub record MeansShared (name : ℕ → ℕ) (s : SlotShared) (r : Shared) : Type 0 where
  pub packets : packets_in s.slots s.order ≡ map slotted r.packets
  pub issued : s.issued ≡ r.issued
  pub locks : s.locks ≡ r.locks
  pub cells : s.cells ≡ r.cells
  pub queues : map (meant_lists name) s.queues ≡ r.queues
  pub starts : map (meant_start name) s.starts ≡ r.starts
  pub dpcs : s.dpcs ≡ r.dpcs

-- the order of issue has the keys of the used slots, and no others
pub record Ordered (s : SlotShared) : Type 0 where
  pub used : (k : ℕ) → is_linked s.order k ≡ true → is_some (packet_at s k) ≡ true
  pub listed : (k : ℕ) → is_some (packet_at s k) ≡ true → is_linked s.order k ≡ true

-- a frame that cancels a packet, which was issued, has the key of its slot while it is live: no
-- other slot has it; and a routine has all its registers
abbrev pub CancelStands : SlotShared → SlotFrame → Type 0
CancelStands s (SlotRoutine a) = ⊤
CancelStands s (SlotWalk k) = ⊤
CancelStands s (SlotCancel k n step) =
    (n < s.issued) × ((j : ℕ) (p : Packet) → packet_at s j ≡ Some p → p.number ≡ n → j ≡ k)

abbrev pub IsWhole : SlotFrame → Type 0
IsWhole (SlotRoutine a) = length a.registers ≡ REGISTERS
IsWhole (SlotWalk k) = ⊤
IsWhole (SlotCancel k n step) = ⊤

abbrev pub EachFrame : (SlotFrame → Type 0) → List SlotFrame → Type 0
EachFrame P [] = ⊤
EachFrame P (f ∷ frames) = P f × EachFrame P frames

abbrev pub EachThread : (SlotFrame → Type 0) → List SlotThread → Type 0
EachThread P [] = ⊤
EachThread P (thread ∷ threads) = EachFrame P thread.frames × EachThread P threads

-- a world of slots means a world. Of a register this asks only where an instruction may take
-- something from it; of the I/O manager's frame that completes a packet, while that is live. So a
-- register that was left, and a frame under the routine that holds its packet, may have the key of
-- a slot that is free, or another packet's by now
pub record Means (set : Set) (v : SlotWorld) (w : World) : Type 0 where
  pub shared : MeansShared (named v.shared) v.shared w.shared
  pub threads : ShowsThreads set w.shared
      (map whole_thread (map (meant_thread (named v.shared)) v.threads)) w.threads
  pub order : Ordered v.shared
  pub whole : EachThread IsWhole v.threads
  pub cancels : EachThread (CancelStands v.shared) v.threads
