-- What the header tells of what threads share.
use Rattle.std.specs.Prelude.{ℕ, true, false, nat_eq, if◌then◌else◌, Option, None, Some}
use Rattle.model.specs.declared.event.Lock.{Lock}
use Rattle.model.specs.declared.event.Lock.TheVariants.{SystemCancel, Spin}
use Rattle.model.specs.declared.world.Cells.{Cells}
use Rattle.pafteis_values.specs.declared.shared.CellsValue.{CellsValue}
use Rattle.pafteis_values.specs.declared.shared.OwnerValue.{OwnerValue}

-- the cells of a device as a value
abbrev pub cells_value : Cells → CellsValue
cells_value cells = record { plain = cells.plain; paged = cells.paged }

-- the owner of a lock, if it has one, as a value
abbrev pub owner_value : Option ℕ → OwnerValue
owner_value None = record { owned = false; thread = 0 }
owner_value (Some thread) = record { owned = true; thread = thread }

-- the lock of a number: the system cancel spin lock is 8, and the others those of a device
abbrev pub lock_named : ℕ → ℕ → Lock
lock_named device number =
    if nat_eq number 8 then SystemCancel else Spin (record { device = device; number = number })
