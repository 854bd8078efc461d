use Rattle.std.proofs.Common.{◌≡◌, ◌≤◌, drop, length}
use Rattle.std.specs.List.{list_any}
use Rattle.absstate.specs.Same.{has_list}
use Rattle.absstate.proofs.state.is_any_named.Given as goal

-- it is told whether one of those that were looked at names a list
abbrev pub invariant-loop-i : goal.invariant-loop-i
invariant-loop-i l = record {
  named : l.named ≡ list_any has_list (drop l.i l.kinds);
  within : l.i ≤ length l.kinds;
}

abbrev pub decreases-loop-i : goal.decreases-loop-i
decreases-loop-i l = l.i
