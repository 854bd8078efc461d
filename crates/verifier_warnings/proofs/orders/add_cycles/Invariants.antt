use Rattle.std.specs.Prelude.{string_bytes}
use Rattle.verifier_warnings.proofs.Cycles.{TellsSome}
use Rattle.verifier_warnings.proofs.orders.add_cycles.Given as goal

abbrev pub invariant-loop-order : goal.invariant-loop-order
invariant-loop-order l =
    TellsSome l.orders l.order-index (string_bytes l.initial.prose) (string_bytes l.prose) l.some
