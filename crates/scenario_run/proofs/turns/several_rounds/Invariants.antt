use Rattle.std.proofs.Common.{◌≡◌, ◌≤◌}
use Rattle.scenario_run.specs.Turns.{Rests, rounds}
use Rattle.scenario_run.proofs.turns.several_rounds.Given as goal

-- what is left goes as all did
abbrev pub invariant-loop-left : goal.invariant-loop-left
invariant-loop-left l =
    (l.left ≤ l.most) × (rounds l.left l.playing ≡ rounds l.most l.initial.playing)
    × Rests l.goers l.playing

abbrev pub decreases-loop-left : goal.decreases-loop-left
decreases-loop-left l = l.left
