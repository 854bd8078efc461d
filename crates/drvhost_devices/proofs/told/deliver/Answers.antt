use Rattle.drvhost_devices.proofs.Delivered.{answer_broken, answer_written}
use Rattle.drvhost_devices.proofs.told.deliver.Goals as goal

pub returns-in-Ok : goal.returns-in-Ok
returns-in-Ok g c = λ reads.
    rw c.status.ensures
    (answer_written c.args.told.now reads _ _ _ _ _ _ _ _ c.in-Ok.ensures.counted
    (rw c.output.ensures at c.in-Ok.ensures.written) (rw c.told.ensures at c.say.ensures))

pub returns-in-Err : goal.returns-in-Err
returns-in-Err g c = λ reads.
    answer_broken c.args.told.now reads _ _ _ _ _ _ _ _ c.in-Err.ensures.counted
    (rw c.output.ensures at c.in-Err.ensures.written)
    (rw c.as_bytes.ensures.value at c.say-in-Err.ensures)
