use Rattle.std.proofs.Common.{◌≡◌, ◌-◌}
use Rattle.scenario_run.specs.Turns.{round}
use Rattle.scenario_run.proofs.turns.turns_from.Given as goal

-- the turns that are left go as all do
abbrev pub invariant-loop-thread : goal.invariant-loop-thread
invariant-loop-thread l =
    round (l.threads - l.thread) l.thread l.playing
    ≡ round (l.threads - l.first) l.first l.initial.playing
