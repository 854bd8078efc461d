-- What may be read of a world: the cells of a device, the owner of a lock, and a field of a packet.
use Rattle.std.specs.Prelude.{ℕ, Option, option_map, slice_get}
use Rattle.model.specs.declared.event.Lock.{Lock}
use Rattle.model.specs.declared.instr.Field.{Field}
use Rattle.model.specs.declared.world.Cells.{Cells}
use Rattle.model.specs.World.{World, field_of, owner_of, packet_of}

-- the cells of a device, if there is one of this number
abbrev pub cells_at : World → ℕ → Option Cells
cells_at w device = slice_get w.shared.cells device

-- the owner of a lock, if there is such a lock: none while it is free
abbrev pub owner_at : World → Lock → Option (Option ℕ)
owner_at w lock = owner_of w.shared.locks lock

-- a field of the live packet of a number
abbrev pub field_at : World → ℕ → Field → Option ℕ
field_at w n field = option_map (λ p. field_of p field) (packet_of w.shared n)
