use Rattle.std.proofs.Common.{◌≡◌}
use Rattle.scenario_run.specs.Turns.{rounds, run_all}
use Rattle.scenario_run.proofs.turns.run_all.Given as goal

-- what is left goes as all did
abbrev pub invariant-loop-left : goal.invariant-loop-left
invariant-loop-left l = rounds l.left l.playing ≡ run_all l.initial.playing

abbrev pub decreases-loop-left : goal.decreases-loop-left
decreases-loop-left l = l.left
