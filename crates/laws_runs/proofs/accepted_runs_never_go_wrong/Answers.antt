use Rattle.laws_runs.proofs.Accepted.Laws.{accepted_go_right}
use Rattle.laws_runs.proofs.accepted_runs_never_go_wrong.Goals as goal

pub returns : goal.returns
returns c = accepted_go_right
