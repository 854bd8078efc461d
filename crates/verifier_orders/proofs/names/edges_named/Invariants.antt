use Rattle.std.specs.Prelude.{◌≡◌, take}
use Rattle.verifier_orders.specs.Names.{all_named}
use Rattle.verifier_orders.proofs.names.edges_named.Given as goal

abbrev pub invariant-loop-place : goal.invariant-loop-place
invariant-loop-place l = l.named.items ≡ all_named (take l.place l.edges)
