use Rattle.std.proofs.Common.{drop}
use Rattle.model.specs.Sound.{DevicesFit}
use Rattle.driver_set.proofs.sound.devices_fit.Given as goal

abbrev pub invariant-loop-number : goal.invariant-loop-number
invariant-loop-number l =
    (DevicesFit l.drivers 0 l.devices → DevicesFit l.drivers l.number (drop l.number l.devices))
    × (DevicesFit l.drivers l.number (drop l.number l.devices) → DevicesFit l.drivers 0 l.devices)
