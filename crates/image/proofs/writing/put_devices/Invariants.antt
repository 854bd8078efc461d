use Rattle.std.proofs.Common.{◌≡◌, ◌++◌, take}
use Rattle.std.specs.List.{flat_map}
use Rattle.image.specs.Spelling.{device_bytes}
use Rattle.image.proofs.writing.put_devices.Given as goal

abbrev pub invariant-loop-device : goal.invariant-loop-device
invariant-loop-device l = l.out.items ≡ l.fn.out.items
    ++ flat_map device_bytes (take l.device-index l.devices)
