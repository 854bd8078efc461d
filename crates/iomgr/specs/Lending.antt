-- A packet that is lent from its slot, to be changed.
use Rattle.std.specs.Prelude.{ℕ}
use Rattle.std.specs.Borrow.{Lends, MutBor, Fml}
use Rattle.model.specs.declared.world.Packet.{Packet}
use Rattle.irp.specs.contracts.packet.Packet.{the_row as packet_row}
use Rattle.iomgr.specs.contracts.packet_list.PacketList.{the_row as list_row}
use Rattle.iomgr.specs.Slots.{Slots, with_slot}

-- the list ends with the last value behind r under a key
abbrev pub LendsSlot : MutBor Slots → ℕ → MutBor Packet → Fml
LendsSlot list key r = Lends list_row packet_row list r (with_slot list.now key)
