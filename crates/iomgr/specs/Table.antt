-- The packet table: the part of a world that the I/O manager keeps of its packets. Its words are
-- those of the world, on the table alone.
use Rattle.std.specs.Prelude.{ℕ, ◌+◌, ◌++◌, List, [], ◌∷◌, Option, slice_get, slice_set, remove}
use Rattle.model.specs.declared.world.Packet.{Packet}
use Rattle.model.specs.World.{Shared, free_locks, place_of}

-- the live packets in the order of issue, and how many were issued
pub record Table : Type 0 where
  pub packets : List Packet
  pub issued : ℕ

-- a world's shared part with another table
abbrev pub with_table : Shared → Table → Shared
with_table s table = record s { packets = table.packets; issued = table.issued }

-- the table of a shared part
abbrev pub table_of : Shared → Table
table_of s = record { packets = s.packets; issued = s.issued }

-- a shared part with this table, without locks, cells, queues and DPCs
abbrev pub shared_of : Table → Shared
shared_of table =
    record {
      packets = table.packets;
      issued = table.issued;
      locks = free_locks 0;
      cells = [];
      queues = [];
      starts = [];
      dpcs = [];
    }

-- the live packet of a number
abbrev pub live_packet : Table → ℕ → Option Packet
live_packet table n = slice_get table.packets (place_of table.packets n)

-- the same with that packet changed, and without it
abbrev pub with_place : Table → ℕ → Packet → Table
with_place table place p = record table { packets = slice_set table.packets place p }

abbrev pub with_live : Table → ℕ → Packet → Table
with_live table n p = with_place table (place_of table.packets n) p

abbrev pub without_place : Table → ℕ → Table
without_place table place = record table { packets = remove table.packets place }

abbrev pub without_live : Table → ℕ → Table
without_live table n = without_place table (place_of table.packets n)

-- the same with a packet issued
abbrev pub with_issued : Table → Packet → Table
with_issued table p = record { packets = table.packets ++ p ∷ []; issued = table.issued + 1 }
