use Rattle.std.specs.Prelude.{string_bytes}
use Rattle.verifier_warnings.specs.Lines.{IsOrderLine}
use Rattle.verifier_warnings.specs.Warnings.{AreLines}
use Rattle.verifier_warnings.proofs.lines.order_lines.Given as goal

abbrev pub invariant-loop-number : goal.invariant-loop-number
invariant-loop-number l = AreLines (IsOrderLine l.accepted) l.number (string_bytes l.lines)
