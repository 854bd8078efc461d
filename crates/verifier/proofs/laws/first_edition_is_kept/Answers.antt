use Rattle.verifier.proofs.FirstRules.{its_rows, rules_alike}
use Rattle.verifier.proofs.FirstPaths.{of_first, formed_alike, entry_alike, arrives_to, arrives_back, arrives_free}
use Rattle.verifier.proofs.FirstVerdicts.{routine_to, routine_back, first_fault_to, first_fault_back, verdict_to, verdict_back}
use Rattle.verifier.proofs.laws.first_edition_is_kept.Goals as goal

pub returns-clause-rows : goal.returns-clause-rows
returns-clause-rows c = its_rows

pub returns-clause-rules : goal.returns-clause-rules
returns-clause-rules c = rules_alike

pub returns-clause-of_first : goal.returns-clause-of_first
returns-clause-of_first c = of_first

pub returns-clause-forms : goal.returns-clause-forms
returns-clause-forms c = formed_alike

pub returns-clause-entries : goal.returns-clause-entries
returns-clause-entries c = entry_alike

pub returns-clause-none : goal.returns-clause-none
returns-clause-none c = arrives_free

pub returns-clause-arrivals : goal.returns-clause-arrivals
returns-clause-arrivals c =
    λ m p s first. record { 0 = arrives_to m p s first; 1 = arrives_back m p s first }

pub returns-clause-routines : goal.returns-clause-routines
returns-clause-routines c =
    λ m first. record { 0 = routine_to m first; 1 = routine_back m first }

pub returns-clause-routine_faults : goal.returns-clause-routine_faults
returns-clause-routine_faults c =
    λ m at rule first.
    record { 0 = first_fault_to m at rule first; 1 = first_fault_back m at rule first }

pub returns-clause-verdicts : goal.returns-clause-verdicts
returns-clause-verdicts c =
    λ set verdict first.
    record { 0 = verdict_to set verdict first; 1 = verdict_back set verdict first }
