-- Packets in a world of slots, read where they are known to be there.
use Rattle.std.specs.Prelude.{ℕ}
use Rattle.model.specs.declared.world.Packet.{Packet}
use Rattle.iomgr.specs.Slots.{packet_or_any}
use Rattle.laws_slots.specs.Slots.{SlotShared, packet_at}

-- the packet in a slot that has one
abbrev pub packet_in_slot : SlotShared → ℕ → Packet
packet_in_slot s key = packet_or_any (packet_at s key)
