use Rattle.std.proofs.Common.{rules}
use Rattle.irql_locks.proofs.Some.{owns_some}
use Rattle.irql_locks.proofs.lock_table.LockTable.owns_any.Goals as goal

pub returns-then-owns_spin-clause-lock : goal.returns-then-owns_spin-clause-lock
returns-then-owns_spin-clause-lock c =
    owns_some c.args.self.now c.args.thread c.owns_spin.result (search rules)

pub returns-else-owns_spin-clause-lock : goal.returns-else-owns_spin-clause-lock
returns-else-owns_spin-clause-lock c =
    owns_some c.args.self.now c.args.thread c.is_owner.result (search rules)
