use Rattle.std.proofs.Common.{◌≡◌, take}
use Rattle.scenario_run.proofs.playing.Playing.replayed.Given as goal

-- the first of the events have happened
abbrev pub invariant-loop-event : goal.invariant-loop-event
invariant-loop-event l =
    l.fresh ≡ record l.self { events = take l.event-index l.events }
