use Rattle.std.proofs.Common.{◌≡◌, take}
use Rattle.scenario_steps.specs.Judging.{judged}
use Rattle.scenario_steps.proofs.judging.judged.Given as goal

-- so many are
abbrev pub invariant-loop-place : goal.invariant-loop-place
invariant-loop-place l = l.all ≡ judged l.found (take l.place l.steps)
