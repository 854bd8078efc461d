use Rattle.std.proofs.Common.{◌≡◌, ◌++◌, take}
use Rattle.hunt_facts.specs.Requests.{requests_with}
use Rattle.hunt_facts.proofs.requests.add_requests_with.Given as goal

abbrev pub invariant-loop-argument : goal.invariant-loop-argument
invariant-loop-argument l =
    l.requests.items
    ≡ l.initial.requests.items ++ requests_with l.device l.major (take l.argument-index l.arguments)
