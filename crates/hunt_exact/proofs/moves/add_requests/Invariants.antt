use Rattle.std.proofs.Common.{◌≡◌, ◌++◌, take}
use Rattle.hunt_exact.specs.Moves.{requests_on}
use Rattle.hunt_exact.proofs.moves.add_requests.Given as goal

abbrev pub invariant-loop-request : goal.invariant-loop-request
invariant-loop-request l =
    l.moves.items
    ≡ l.initial.moves.items ++ requests_on l.thread (take l.request-index l.requests)
