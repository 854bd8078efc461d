use Rattle.std.proofs.Common.{◌≡◌, take}
use Rattle.scenario_run.specs.Past.{events_of}
use Rattle.scenario_run.proofs.holding.events_of.Given as goal

-- so many of them stand there
abbrev pub invariant-loop-happened : goal.invariant-loop-happened
invariant-loop-happened l = l.events.items ≡ events_of (take l.happened-index l.past)
