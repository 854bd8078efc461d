-- Packets of the table that the I/O manager lends to completion routines that may hold them.
use Rattle.std.specs.Prelude.{ℕ, Option, None, Some}
use Rattle.model.specs.declared.set.Sort.TheVariants.{Hold}
use Rattle.model.specs.declared.world.Packet.{Packet}
use Rattle.model.specs.Effect.{lent_to}
use Rattle.iomgr.specs.Slots.{SlotTable, key_of, packet_at, with_packet_at}
use Rattle.iomgr.specs.Table.{Table, live_packet, with_live}

-- a packet is lent, where it is live
abbrev pub lent_packet : Table → ℕ → Option Packet → Table
lent_packet table n None = table
lent_packet table n (Some p) = with_live table n (lent_to Hold p)

abbrev pub lent : Table → ℕ → Table
lent table n = lent_packet table n (live_packet table n)

-- the same by the packet's key
abbrev pub lent_found : SlotTable → Option ℕ → SlotTable
lent_found t None = t
lent_found t (Some key) = with_packet_at t key (lent_to Hold (packet_at t.live key))

abbrev pub lent_by : SlotTable → ℕ → SlotTable
lent_by t n = lent_found t (key_of t n)
