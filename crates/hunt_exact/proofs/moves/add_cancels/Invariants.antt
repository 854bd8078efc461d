use Rattle.std.proofs.Common.{◌≡◌, ◌++◌}
use Rattle.hunt_exact.specs.Moves.{cancels_on}
use Rattle.hunt_exact.proofs.moves.add_cancels.Given as goal

abbrev pub invariant-loop-packet : goal.invariant-loop-packet
invariant-loop-packet l =
    l.moves.items ≡ l.initial.moves.items ++ cancels_on l.thread l.raised l.packet
