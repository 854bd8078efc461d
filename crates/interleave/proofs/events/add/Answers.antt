use Rattle.std.proofs.Common.{is_ok}
use Rattle.interleave.proofs.Bytes.{steps_added, other_added}
use Rattle.interleave.proofs.events.add.Goals as goal

pub returns-in-Some-clause-marked : goal.returns-in-Some-clause-marked
returns-in-Some-clause-marked c =
    (steps_added _ _ _ _ _ _ c.requires c.in-Some.ensures.0 c.in-Some.ensures.1
    c.push_copies.ensures).0

pub returns-in-Some-clause-listed : goal.returns-in-Some-clause-listed
returns-in-Some-clause-listed c =
    rw (← c.count.ensures)
    (steps_added _ _ _ _ _ _ c.requires c.in-Some.ensures.0 c.in-Some.ensures.1
    c.push_copies.ensures).1

pub returns-in-None-clause-marked : goal.returns-in-None-clause-marked
returns-in-None-clause-marked c =
    (other_added _ _ _ _ c.args.kept (is_ok c.push_other.result) c.requires
    c.push_other.ensures.bytes c.push_other.ensures.others).0

pub returns-in-None-clause-listed : goal.returns-in-None-clause-listed
returns-in-None-clause-listed c =
    (other_added _ _ _ _ c.args.kept (is_ok c.push_other.result) c.requires
    c.push_other.ensures.bytes c.push_other.ensures.others).1
