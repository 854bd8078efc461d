use Rattle.std.proofs.Common.{◌≡◌, ◌++◌}
use Rattle.model.specs.declared.event.Lock.TheVariants.{SystemCancel}
use Rattle.tell_audit.specs.Left.{left_at, left_before}
use Rattle.tell_audit.proofs.left.left_locks.Given as goal

abbrev pub invariant-loop-device : goal.invariant-loop-device
invariant-loop-device l =
    l.left.items ≡ left_at l.machine.world SystemCancel ++ left_before l.machine.world l.device
