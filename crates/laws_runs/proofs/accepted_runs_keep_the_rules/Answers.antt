use Rattle.laws_runs.proofs.Accepted.Laws.{accepted_rules}
use Rattle.laws_runs.proofs.accepted_runs_keep_the_rules.Goals as goal

pub returns : goal.returns
returns c = accepted_rules
