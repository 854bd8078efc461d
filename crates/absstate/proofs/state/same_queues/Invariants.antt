use Rattle.std.proofs.Common.{◌≡◌, ◌≤◌, drop, length}
use Rattle.absstate.specs.Same.{same_queues}
use Rattle.absstate.proofs.state.same_queues.Given as goal

-- it is told whether those that were compared are the same
abbrev pub invariant-loop-i : goal.invariant-loop-i
invariant-loop-i l = record {
  same : l.same ≡ same_queues (drop l.i l.a) (drop l.i l.b);
  within : l.i ≤ length l.a;
}

abbrev pub decreases-loop-i : goal.decreases-loop-i
decreases-loop-i l = l.i
