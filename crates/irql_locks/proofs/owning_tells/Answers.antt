use Rattle.std.proofs.Common.{refl}
use Rattle.irql_locks.specs.Owns.{owns_any}
use Rattle.irql_locks.proofs.Some.{owned_as, owns_some}
use Rattle.irql_locks.proofs.owning_tells.Goals as goal

pub returns : goal.returns
returns c = record { lock = owned_as; any = λ locks t. owns_some locks t (owns_any locks t) refl }
