use Rattle.std.proofs.Common.{◌≡◌, ◌++◌, replicate}
use Rattle.scenario_run.proofs.holding.add_times.Given as goal

-- so often it was added
abbrev pub invariant-loop : goal.invariant-loop
invariant-loop l = l.events.items ≡ l.initial.events.items ++ replicate l.counter l.event
