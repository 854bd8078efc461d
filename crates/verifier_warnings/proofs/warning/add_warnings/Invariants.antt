use Rattle.std.specs.Prelude.{string_bytes}
use Rattle.verifier_warnings.specs.Warnings.{AreLines, WarnsAt}
use Rattle.verifier_warnings.proofs.warning.add_warnings.Given as goal

abbrev pub invariant-loop-order : goal.invariant-loop-order
invariant-loop-order l = AreLines (WarnsAt l.orders) l.order-index (string_bytes l.lines)
