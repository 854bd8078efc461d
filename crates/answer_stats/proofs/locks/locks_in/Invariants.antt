use Rattle.std.proofs.Common.{◌≡◌, ◌≤◌}
use Rattle.answer_stats.specs.Sizes.{locks_below}
use Rattle.answer_stats.proofs.locks.locks_in.Given as goal

abbrev pub invariant-loop-lock : goal.invariant-loop-lock
invariant-loop-lock l = (l.count ≡ locks_below l.driver l.lock) × (l.count ≤ l.lock)
