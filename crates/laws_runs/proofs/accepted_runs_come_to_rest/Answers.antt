use Rattle.laws_runs.proofs.Beginning.{accepted_rest}
use Rattle.laws_runs.proofs.accepted_runs_come_to_rest.Goals as goal

pub returns : goal.returns
returns c = accepted_rest
