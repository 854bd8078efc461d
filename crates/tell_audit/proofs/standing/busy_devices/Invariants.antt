use Rattle.std.proofs.Common.{◌≡◌}
use Rattle.tell_audit.specs.Rest.{devices_below}
use Rattle.tell_audit.proofs.standing.busy_devices.Given as goal

abbrev pub invariant-loop-device : goal.invariant-loop-device
invariant-loop-device l = l.devices.items ≡ devices_below l.machine.world l.device
