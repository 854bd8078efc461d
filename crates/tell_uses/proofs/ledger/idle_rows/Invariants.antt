use Rattle.std.proofs.Common.{[], ◌≡◌}
use Rattle.std.specs.Prelude.{replicate}
use Rattle.tell_uses.proofs.ledger.idle_rows.Given as goal

abbrev pub invariant-loop-thread : goal.invariant-loop-thread
invariant-loop-thread l = l.rows.items ≡ replicate l._thread []
