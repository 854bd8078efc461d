use Rattle.laws_runs.proofs.Accepted.Laws.{accepted_skip_nothing}
use Rattle.laws_runs.proofs.nothing_is_skipped.Goals as goal

pub returns : goal.returns
returns c = accepted_skip_nothing
