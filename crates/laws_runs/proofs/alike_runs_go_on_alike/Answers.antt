use Rattle.laws_runs.proofs.Alike.Laws.{alike_go_on}
use Rattle.laws_runs.proofs.alike_runs_go_on_alike.Goals as goal

pub returns : goal.returns
returns c = alike_go_on
