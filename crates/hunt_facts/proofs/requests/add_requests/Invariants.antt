use Rattle.std.proofs.Common.{◌≡◌, ◌++◌, drop}
use Rattle.hunt_facts.specs.Requests.{requests_by}
use Rattle.hunt_facts.proofs.requests.add_requests.Given as goal

abbrev pub invariant-loop-major : goal.invariant-loop-major
invariant-loop-major l =
    l.requests.items ++ requests_by l.arguments l.device (drop l.major-index l.majors)
    ≡ l.initial.requests.items ++ requests_by l.arguments l.device l.majors
