use Rattle.std.proofs.Common.{Ok}
use Rattle.std.proofs.lemmas.Result.{err_from_is_err_and}
use Rattle.drvhost_devices.specs.declared.fault.End.TheVariants.{Stopped}
use Rattle.answer_runs.specs.Served.{IsUnhosted}
use Rattle.answer_runs.proofs.RingsTold.{told_broken, told_nothing, told_written}
use Rattle.answer_runs.proofs.host.tell_refusal.Goals as goal

pub returns-in_err-write_lines-clause-goes : goal.returns-in_err-write_lines-clause-goes
returns-in_err-write_lines-clause-goes g c =
    λ set script unserved wordless.
    let p = err_from_is_err_and c.from_residual.result c.from_residual.ensures.1 in
    rw (p.1, p.2, c.in_err-write_lines.ensures.fault)
    (told_broken (IsUnhosted set script) _ _ _ _ _ Stopped
    (told_nothing (IsUnhosted set script) _ _ _ _ _ (Ok Stopped) wordless
    (unserved (g.O.Sink.contents c.args.out.now)))
    c.in_err-write_lines.ensures.written)

pub returns-clause-goes : goal.returns-clause-goes
returns-clause-goes g c =
    λ set script unserved wordless.
    told_written (IsUnhosted set script) _ _ _ _ _ Stopped
    (told_nothing (IsUnhosted set script) _ _ _ _ _ (Ok Stopped) wordless
    (unserved (g.O.Sink.contents c.args.out.now)))
    c.in_ok-write_lines.ensures.written
