use Rattle.std.proofs.Common.{◌≡◌, drop}
use Rattle.hunt_facts.specs.Requests.{with_code}
use Rattle.hunt_facts.proofs.arguments.add_code.Given as goal

abbrev pub invariant-loop-instr : goal.invariant-loop-instr
invariant-loop-instr l =
    with_code l.arguments.items (drop l.instr-index l.code)
    ≡ with_code l.initial.arguments.items l.code
