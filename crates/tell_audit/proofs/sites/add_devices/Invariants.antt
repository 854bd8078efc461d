use Rattle.std.proofs.Common.{◌≡◌, ◌++◌}
use Rattle.tell_audit.specs.Sites.{devices_below}
use Rattle.tell_audit.proofs.sites.add_devices.Given as goal

abbrev pub invariant-loop-device : goal.invariant-loop-device
invariant-loop-device l = l.sites.items ≡ l.initial.sites.items ++ devices_below l.machine.world l.n l.device
