use Rattle.std.proofs.lemmas.Result.{err_from_is_err_and}
use Rattle.drvhost_devices.proofs.Writing.{keeps_same}
use Rattle.answer_runs.proofs.host.serve_ready.Goals as goal

pub returns-in_ok-serve-in-Ok-Some-clause-hosted : goal.returns-in_ok-serve-in-Ok-Some-clause-hosted
returns-in_ok-serve-in-Ok-Some-clause-hosted g c =
    λ set script is.
    let ready = c.in-Ok-Some.ready in
    let read = rw (c.in-Ok-Some.is, c.in-Ok-Some.field-0-is) at is in
    let served = c.in_ok-serve-in-Ok-Some.ensures in (
      record {
        accepted = ready.accepted;
        read = read.0;
        typable = read.1;
        commands = ready.commands;
        scripted = read.2.commands;
        hosts = served.hosts;
      },
      served.noted,
    )

pub returns-in_err-serve-in-Ok-Some-clause-hosted
    : goal.returns-in_err-serve-in-Ok-Some-clause-hosted
returns-in_err-serve-in-Ok-Some-clause-hosted g c =
    λ set script is.
    let p = err_from_is_err_and c.from_residual.result c.from_residual.ensures.1 in
    rw (p.1, p.2, c.in_err-serve-in-Ok-Some.ensures.fault) (λ before. keeps_same before)
