use Rattle.std.specs.Prelude.{◌-◌}
use Rattle.workers.proofs.starting.+start_from.Given as goal

abbrev pub decreases-start_from : goal.decreases-start_from
decreases-start_from g l = l.count - l.number
