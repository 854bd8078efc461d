use Rattle.std.proofs.Common.{◌≡◌, [], ◌∷◌, drop}
use Rattle.hunt_facts.specs.Requests.{with_drivers}
use Rattle.hunt_facts.proofs.arguments.read_arguments.Given as goal

abbrev pub invariant-loop-driver : goal.invariant-loop-driver
invariant-loop-driver l =
    with_drivers l.arguments.items (drop l.driver-index l.drivers) ≡ with_drivers (0 ∷ 1 ∷ []) l.drivers
