use Rattle.std.proofs.Common.{◌≡◌, true, take}
use Rattle.std.specs.List.{list_all}
use Rattle.scenario_steps.specs.Judging.{expects_verdict}
use Rattle.scenario_steps.proofs.judging.all_expect_verdict.Given as goal

-- each so far does
abbrev pub invariant-loop-place : goal.invariant-loop-place
invariant-loop-place l = list_all expects_verdict (take l.place l.steps) ≡ true
