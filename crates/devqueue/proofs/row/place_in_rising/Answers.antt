use Rattle.devqueue.proofs.Rows.{found, missing}
use Rattle.devqueue.proofs.row.place_in_rising.Goals as goal

pub returns-in-Ok-clause-first : goal.returns-in-Ok-clause-first
returns-in-Ok-clause-first c =
    found c.args.numbers.now c.requires c.args.n c.in-Ok.place c.in-Ok.ensures.position

pub returns-in-Err-clause-first : goal.returns-in-Err-clause-first
returns-in-Err-clause-first c =
    missing c.args.numbers.now c.requires c.args.n c.in-Err.field-0 c.in-Err.ensures.position
