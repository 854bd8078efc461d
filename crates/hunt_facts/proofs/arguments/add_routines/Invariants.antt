use Rattle.std.proofs.Common.{◌≡◌, drop}
use Rattle.hunt_facts.specs.Requests.{with_routines}
use Rattle.hunt_facts.proofs.arguments.add_routines.Given as goal

abbrev pub invariant-loop-routine : goal.invariant-loop-routine
invariant-loop-routine l =
    with_routines l.arguments.items (drop l.routine-index l.routines)
    ≡ with_routines l.initial.arguments.items l.routines
