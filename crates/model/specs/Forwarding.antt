-- What a driver that forwards packets finds under its devices (Driver Kit, I/O stack locations: a
-- packet has a location for each driver that it is sent down to).
use Rattle.std.specs.Prelude.{ℕ, ◌+◌, ◌&&◌, Bool, false, Option, None, Some, option_and_then, is_none, nat_eq, nat_lt, slice_get}
use Rattle.std.specs.List.{list_any}
use Rattle.model.specs.declared.set.Device.{Device}
use Rattle.model.specs.Set.{Set}

-- a device of the driver has no lower one
abbrev pub lacks_lower : Set → ℕ → Bool
lacks_lower set driver = list_any (λ d. nat_eq d.driver driver && is_none d.lower) set.devices

-- the device under a device
abbrev pub device_under : Set → Device → Option Device
device_under set d = option_and_then (λ n. slice_get set.devices n) d.lower

-- a device has fewer stack locations than the one under it and so many more
abbrev pub is_under : ℕ → ℕ → Option Device → Bool
is_under locations stack None = false
is_under locations stack (Some lower) = nat_lt stack (lower.stack + locations)

-- a device of the driver has
abbrev pub is_too_small : Set → ℕ → ℕ → Bool
is_too_small set driver locations =
    list_any (λ d. nat_eq d.driver driver && is_under locations d.stack (device_under set d))
    set.devices
