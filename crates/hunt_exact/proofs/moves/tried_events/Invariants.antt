use Rattle.std.proofs.Common.{◌≡◌, ◌++◌}
use Rattle.hunt_exact.specs.Moves.{begins_below, interrupts, steps}
use Rattle.hunt_exact.proofs.moves.tried_events.Given as goal

abbrev pub invariant-loop-thread : goal.invariant-loop-thread
invariant-loop-thread l =
    l.moves.items
    ≡ steps l.threads ++ interrupts l.devices
    ++ begins_below l.requests l.trying.raised l.trying.packets l.devices l.thread
