use Rattle.std.proofs.Common.{take}
use Rattle.scenario_together.specs.Joining.{Covers}
use Rattle.scenario_together.proofs.play.step_each.Given as goal

-- the plays cover so many steps
abbrev pub invariant-loop-place : goal.invariant-loop-place
invariant-loop-place l = Covers l.merges l.home (take l.place l.steps) l.plays.items
