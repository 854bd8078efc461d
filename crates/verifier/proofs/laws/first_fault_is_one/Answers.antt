use Rattle.verifier.proofs.Faults.{one_is_first, typable_has_none}
use Rattle.verifier.proofs.laws.first_fault_is_one.Goals as goal

pub returns-clause-one : goal.returns-clause-one
returns-clause-one c = one_is_first

pub returns-clause-none : goal.returns-clause-none
returns-clause-none c = typable_has_none
