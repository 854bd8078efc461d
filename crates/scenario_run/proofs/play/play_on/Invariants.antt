use Rattle.std.proofs.Common.{◌≡◌, drop}
use Rattle.scenario_run.specs.Acting.{played}
use Rattle.scenario_run.proofs.play.play_on.Given as goal

-- what is left plays as all did
abbrev pub invariant-loop-place : goal.invariant-loop-place
invariant-loop-place l =
    played l.playing (drop l.place l.steps) ≡ played l.initial.playing l.steps
