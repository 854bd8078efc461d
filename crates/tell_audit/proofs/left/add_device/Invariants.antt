use Rattle.std.proofs.Common.{◌≡◌, ◌++◌}
use Rattle.tell_audit.specs.Left.{left_below}
use Rattle.tell_audit.proofs.left.add_device.Given as goal

abbrev pub invariant-loop-number : goal.invariant-loop-number
invariant-loop-number l =
    l.left.items ≡ l.initial.left.items ++ left_below l.machine.world l.device l.number
