use Rattle.std.proofs.Common.{◌≡◌, ◌++◌}
use Rattle.hunt_exact.specs.Moves.{steps}
use Rattle.hunt_exact.proofs.moves.add_steps.Given as goal

abbrev pub invariant-loop-thread : goal.invariant-loop-thread
invariant-loop-thread l =
    l.moves.items ≡ l.initial.moves.items ++ steps l.thread
