use Rattle.interleave_texts.proofs.Cancels.{script_good}
use Rattle.interleave_texts.proofs.Meanings.{first_fault, meaning}
use Rattle.interleave_texts.proofs.script_parse.parse_script.Goals as goal

pub returns-in-Ok-Ok-clause-short : goal.returns-in-Ok-Ok-clause-short
returns-in-Ok-Ok-clause-short c =
    (script_good c.args.text.now c.in-Ok-Ok.commands.items
    (rw c.in-Ok-Ok.field-0-is at c.in-Ok-Ok.ensures)).few

pub returns-in-Ok-Ok-clause-cancels : goal.returns-in-Ok-Ok-clause-cancels
returns-in-Ok-Ok-clause-cancels c =
    (script_good c.args.text.now c.in-Ok-Ok.commands.items
    (rw c.in-Ok-Ok.field-0-is at c.in-Ok-Ok.ensures)).cancels

pub returns-in-Ok-Ok-clause-meaning : goal.returns-in-Ok-Ok-clause-meaning
returns-in-Ok-Ok-clause-meaning c = meaning c.args.text.now

pub returns-in-Ok-Err-clause-meaning : goal.returns-in-Ok-Err-clause-meaning
returns-in-Ok-Err-clause-meaning c = meaning c.args.text.now

pub returns-in-Err-clause-meaning : goal.returns-in-Err-clause-meaning
returns-in-Err-clause-meaning c = meaning c.args.text.now

-- the fault is what the reading gave
pub returns-in-Ok-Err-clause-fault : goal.returns-in-Ok-Err-clause-fault
returns-in-Ok-Err-clause-fault c =
    λ _. first_fault c.args.text.now c.in-Ok-Err.fault
    (rw c.in-Ok-Err.field-0-is at c.in-Ok-Err.ensures)
