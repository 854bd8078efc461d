use Rattle.std.proofs.Common.{◌≤◌, ◌-◌}
use Rattle.scenario_run.specs.Walking.{WalksOn}
use Rattle.scenario_run.proofs.Walks.{stepped}
use Rattle.scenario_run.proofs.walking.walk.Given as goal

-- so far each has only stepped
abbrev pub invariant-loop-made : goal.invariant-loop-made
invariant-loop-made l = (l.made ≤ l.most) × WalksOn l.until l.thread l.fn.runner (stepped l.made) l.runner

abbrev pub decreases-loop-made : goal.decreases-loop-made
decreases-loop-made l = l.most - l.made
