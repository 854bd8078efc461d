use Rattle.std.proofs.lemmas.Result.{err_from_is_err_and}
use Rattle.drvhost_devices.proofs.Writing.{begins_before, writes_behind}
use Rattle.drvhost_devices.proofs.transfer.write_words.Goals as goal

pub returns-in_err-write_lines-clause-written : goal.returns-in_err-write_lines-clause-written
returns-in_err-write_lines-clause-written g c =
    let p = err_from_is_err_and c.from_residual.result c.from_residual.ensures.1 in
    rw p.1 (begins_before _ _ c.args.lines.now c.args.words.now c.in_err-write_lines.ensures.written)

pub returns-clause-written : goal.returns-clause-written
returns-clause-written g c =
    writes_behind c.write_bytes.result _ _ _ c.args.lines.now c.args.words.now
    c.in_ok-write_lines.ensures.written c.write_bytes.ensures.written
