use Rattle.std.proofs.Common.{string_bytes}
use Rattle.answer_logs.proofs.Ending.{log_broken, log_unmade, log_written}
use Rattle.answer_logs.proofs.logging.tell.Goals as goal

pub returns-in-Err : goal.returns-in-Err
returns-in-Err g c = λ reads.
    log_unmade _ _ _ reads _ _ _ _ _ _ c.no_memory.ensures.status c.no_memory.ensures.told

pub returns-in-Ok-write_whole : goal.returns-in-Ok-write_whole
returns-in-Ok-write_whole g c = λ reads.
    log_written _ _ (string_bytes c.in-Ok.line) reads _ _ _ _ _ _
    (rw c.as_slice.ensures.value at c.in-Ok.ensures) c.in-Ok-write_whole.ensures.counted
    (rw c.as_bytes.ensures.value at c.in-Ok-write_whole.ensures.written)

pub returns : goal.returns
returns g c = λ reads.
    log_broken _ _ (string_bytes c.in-Ok.line) reads _ _ _ _ _ _ _ _
    (rw c.as_slice.ensures.value at c.in-Ok.ensures) c.in-Err-write_whole.ensures.counted
    (rw c.as_bytes.ensures.value at c.in-Err-write_whole.ensures.written)
    (rw c.as_bytes-in-Err-write_whole.ensures.value at c.say.ensures)
