use Rattle.scenario_together.specs.Joining.{ActsUpTo}
use Rattle.scenario_together.proofs.play.act_all.Given as goal

abbrev pub invariant-loop-place : goal.invariant-loop-place
invariant-loop-place l = ActsUpTo l.step l.initial.plays.items l.plays.items l.place
