use Rattle.std.specs.Prelude.{◌-◌}
use Rattle.verifier_orders.proofs.Ways.{IsBegun}
use Rattle.verifier_orders.proofs.cycle.lead_back.Given as goal

abbrev pub invariant-loop-done : goal.invariant-loop-done
invariant-loop-done l = IsBegun l.edges l.first l.cycle.items l.done (l.more - l.done) l.at
