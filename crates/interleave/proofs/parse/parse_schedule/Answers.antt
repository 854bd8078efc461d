use Rattle.std.proofs.Common.{sym}
use Rattle.interleave.proofs.Meanings.{meaning, first_fault}
use Rattle.interleave.proofs.parse.parse_schedule.Goals as goal

pub returns-in-Ok-Ok-clause-meaning : goal.returns-in-Ok-Ok-clause-meaning
returns-in-Ok-Ok-clause-meaning c = meaning c.args.text.now

pub returns-in-Ok-Err-clause-meaning : goal.returns-in-Ok-Err-clause-meaning
returns-in-Ok-Err-clause-meaning c = meaning c.args.text.now

pub returns-in-Err-clause-meaning : goal.returns-in-Err-clause-meaning
returns-in-Err-clause-meaning c = meaning c.args.text.now

-- the fault is what the reading gave
pub returns-in-Ok-Err-clause-fault : goal.returns-in-Ok-Err-clause-fault
returns-in-Ok-Err-clause-fault c =
    λ _. first_fault c.args.text.now c.in-Ok-Err.fault
    (sym (rw c.in-Ok-Err.field-0-is at c.in-Ok-Err.ensures))
