-- The live packets by the slots in which they lie. The key of a packet is that of its slot, and
-- stays while the packet lives.
use Rattle.std.specs.Prelude.{◌≡◌, ◌≢◌, ◌<◌, ◌++◌, ℕ, List, [], ◌∷◌, ⊤, IsSome, Option, None, Some, count_by, filter_map, is_some, length, remove, slice_get, slice_index_or, slice_set}
use Rattle.model.specs.declared.status.Major.TheVariants.{Read}
use Rattle.model.specs.declared.world.Packet.{Packet}
use Rattle.model.specs.World.{new_packet, place_of}
use Rattle.iomgr.specs.Numbers.{Rising, number_place, numbers_of}
use Rattle.iomgr.specs.Table.{Table}

-- what lies under a key
abbrev pub under : List (Option Packet) → ℕ → Option Packet
under lying key = slice_index_or lying key None

-- the packets that lie under these keys
abbrev pub packets_in : List (Option Packet) → List ℕ → List Packet
packets_in lying keys = filter_map (under lying) keys

-- none of these keys is that one
abbrev pub Lacks : ℕ → List ℕ → Type 0
Lacks key [] = ⊤
Lacks key (other ∷ keys) = (other ≢ key) × Lacks key keys

-- each key has a packet, and none stands twice
abbrev pub Hold : List (Option Packet) → List ℕ → Type 0
Hold lying [] = ⊤
Hold lying (key ∷ keys) = IsSome (under lying key) × Lacks key keys × Hold lying keys

-- what lies in each slot, the keys of the live packets in the order of issue, and these packets
pub record Slots : Type 0 where
  pub lying : List (Option Packet)
  pub order : List ℕ
  pub packets : List Packet

abbrev pub no_slots : Slots
no_slots = record { lying = []; order = []; packets = [] }

-- what lies under a key
abbrev pub lies_at : Slots → ℕ → Option Packet
lies_at s key = under s.lying key

-- the packet that lies there; any packet where none does
abbrev pub packet_or_any : Option Packet → Packet
packet_or_any None = new_packet 0 0 Read 0 0
packet_or_any (Some p) = p

abbrev pub packet_at : Slots → ℕ → Packet
packet_at s key = packet_or_any (lies_at s key)

-- the place of a key in the order of issue, and whether it has one: then a packet lies there
abbrev pub place_at : Slots → ℕ → ℕ
place_at s key = number_place s.order key

abbrev pub Holds : Slots → ℕ → Type 0
Holds s key = place_at s key < length s.order

-- each key of the order has a packet, and none stands twice; no further slot has one; and the
-- packets are these
pub record IsOrdered (s : Slots) : Type 0 where
  pub held : Hold s.lying s.order
  pub counted : count_by is_some s.lying ≡ length s.order
  pub packets : s.packets ≡ packets_in s.lying s.order

-- another packet under a key
abbrev pub with_slot : Slots → ℕ → Packet → Slots
with_slot s key p =
    record s {
      lying = slice_set s.lying key (Some p);
      packets = slice_set s.packets (place_at s key) p;
    }

-- none under a key
abbrev pub without_slot : Slots → ℕ → Slots
without_slot s key =
    record {
      lying = slice_set s.lying key None;
      order = remove s.order (place_at s key);
      packets = remove s.packets (place_at s key);
    }

-- a packet more, under a key that had none
pub record IsFilled (before : Slots) (key : ℕ) (p : Packet) (after : Slots) : Type 0 where
  pub was_vacant : lies_at before key ≡ None
  pub filled : lies_at after key ≡ Some p
  pub others : (other : ℕ) → other ≢ key → lies_at after other ≡ lies_at before other
  pub order : after.order ≡ before.order ++ key ∷ []
  pub packets : after.packets ≡ before.packets ++ p ∷ []

-- the slots of the live packets, and how many were issued
pub record SlotTable : Type 0 where
  pub live : Slots
  pub issued : ℕ

abbrev pub none_issued : SlotTable
none_issued = record { live = no_slots; issued = 0 }

-- the same by the packets alone
abbrev pub table_in : SlotTable → Table
table_in t = record { packets = t.live.packets; issued = t.issued }

-- the key of the live packet of a number
abbrev pub key_of : SlotTable → ℕ → Option ℕ
key_of t n = slice_get t.live.order (place_of t.live.packets n)

-- the packets are in order, with numbers that rise
pub record IsInOrder (t : SlotTable) : Type 0 where
  pub live : IsOrdered t.live
  pub rising : Rising 0 t.issued (numbers_of t.live.packets)

-- another packet under a key
abbrev pub with_packet_at : SlotTable → ℕ → Packet → SlotTable
with_packet_at t key p = record t { live = with_slot t.live key p }

abbrev pub without_packet_at : SlotTable → ℕ → SlotTable
without_packet_at t key = record t { live = without_slot t.live key }
