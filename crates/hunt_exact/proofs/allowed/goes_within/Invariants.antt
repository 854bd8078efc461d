use Rattle.std.proofs.Common.{[], take}
use Rattle.hunt_exact.specs.Exact.{scope_of}
use Rattle.hunt_exact.specs.Searched.{StandsWithin}
use Rattle.hunt_exact.proofs.allowed.goes_within.Given as goal

abbrev pub invariant-loop-event : goal.invariant-loop-event
invariant-loop-event l =
    StandsWithin (scope_of l.initial.machine.set l.threads l.trying.packets
    l.trying.requests.items l.trying.raised) l.initial.machine []
    → StandsWithin (scope_of l.initial.machine.set l.threads l.trying.packets
    l.trying.requests.items l.trying.raised) l.machine (take l.event-index l.events)
