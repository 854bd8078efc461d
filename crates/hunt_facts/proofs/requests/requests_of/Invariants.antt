use Rattle.std.proofs.Common.{◌≡◌}
use Rattle.hunt_facts.specs.Requests.{requests_below, served_majors}
use Rattle.hunt_facts.proofs.requests.requests_of.Given as goal

abbrev pub invariant-loop-device : goal.invariant-loop-device
invariant-loop-device l =
    l.requests.items ≡ requests_below l.arguments (served_majors l.set.drivers) l.device
