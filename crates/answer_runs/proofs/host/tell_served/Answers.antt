use Rattle.std.proofs.Common.{Err, Ok, []}
use Rattle.drvhost_devices.proofs.Doing.{goes_left}
use Rattle.answer_runs.specs.Served.{IsHostOf, IsUnhosted}
use Rattle.answer_runs.proofs.Readying.{served_host, unhosted_right, unserved_host}
use Rattle.answer_runs.proofs.RingsTold.{told_rightly}
use Rattle.answer_runs.proofs.Serving.{IsServedAs, served_right}
use Rattle.answer_runs.proofs.host.tell_served.Goals as goal

pub returns-in-Ok-Some-clause-goes : goal.returns-in-Ok-Some-clause-goes
returns-in-Ok-Some-clause-goes g c =
    λ workers set script is.
    let hosted = c.in-Ok-Some.hosted in
    let page = c.args.page.now in
    let served = rw (c.in-Ok-Some.is, c.in-Ok-Some.field-0-is) at is in
    let by = served.0 in
    let noted = served.1 in
    told_rightly (IsServedAs hosted page.ringed.items page.words.items) (IsHostOf workers set script)
    _ _ _ _ _ _
    (λ answer right. served_host set script workers hosted by answer
    (served_right by.accepted workers by.commands.items hosted page.ringed.items page.words.items
    by.hosts noted.ringed noted.tells answer right))
    c.tell_hosted.ensures.goes

pub returns-in-Ok-None-clause-goes : goal.returns-in-Ok-None-clause-goes
returns-in-Ok-None-clause-goes g c =
    λ workers set script is.
    let unserved = rw (c.in-Ok-None.is, c.in-Ok-None.field-0-is) at is in
    told_rightly (IsUnhosted set script) (IsHostOf workers set script) _ _ _ _ _ _
    (unhosted_right set script workers)
    (c.tell_refusal.ensures.goes set script unserved.0 unserved.1)

pub returns-in-Err-clause-goes : goal.returns-in-Err-clause-goes
returns-in-Err-clause-goes g c =
    λ workers set script is.
    goes_left (IsHostOf workers set script) _ _ c.args.page.now.lines [] c.in-Err.fault
    (unserved_host set script workers (g.O.Sink.contents c.args.out.now) c.args.page.now.lines
    (Err c.in-Err.fault) (rw c.in-Err.is at is))
