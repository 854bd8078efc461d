use Rattle.std.proofs.Common.{[], Err, List, None, Some, inl, refl, ℕ}
use Rattle.drvhost_devices.specs.Answer.{Answer}
use Rattle.drvhost_devices.proofs.Doing.{goes_left}
use Rattle.answer_runs.specs.Keeping.{IsKeptOf, IsKeptWith, IsServedWith, WithText}
use Rattle.answer_runs.specs.Served.{IsUnhosted}
use Rattle.answer_runs.proofs.Kept.{fault_leaves, served_kept, told_leaves, touches_rightly, unserved_kept}
use Rattle.answer_runs.proofs.RingsTold.{told_rightly}
use Rattle.answer_runs.proofs.keeping.keep_served.Goals as goal

pub returns-in-Ok-Some-clause-goes : goal.returns-in-Ok-Some-clause-goes
returns-in-Ok-Some-clause-goes g c =
    λ set script is.
    let n = c.args.workers in
    let hosted = c.in-Ok-Some.hosted in
    let served = rw (c.in-Ok-Some.is, c.in-Ok-Some.field-0-is) at is in
    let by = served.0 in
    told_rightly
    (λ (answer : Answer).
    (text : List ℕ) × IsServedWith n by.accepted by.commands.items text answer)
    (IsKeptOf n set script) _ _ _ _ _ _
    (λ answer right.
    (Some right.0, served_kept set script n hosted by (Some right.0) answer right.1))
    (c.tell_kept.ensures.goes by.accepted by.commands.items by.hosts served.1)

pub returns-in-Ok-Some-clause-touched : goal.returns-in-Ok-Some-clause-touched
returns-in-Ok-Some-clause-touched g c =
    λ set script is.
    let n = c.args.workers in
    let hosted = c.in-Ok-Some.hosted in
    let served = rw (c.in-Ok-Some.is, c.in-Ok-Some.field-0-is) at is in
    let by = served.0 in
    touches_rightly _ (WithText (IsServedWith n by.accepted by.commands.items))
    (IsKeptWith n set script) _ _ _ _ _ (served_kept set script n hosted by)
    (c.tell_kept.ensures.touched by.accepted by.commands.items by.hosts served.1)

pub returns-in-Ok-None-clause-goes : goal.returns-in-Ok-None-clause-goes
returns-in-Ok-None-clause-goes g c =
    λ set script is.
    let unserved = rw (c.in-Ok-None.is, c.in-Ok-None.field-0-is) at is in
    told_rightly (IsUnhosted set script) (IsKeptOf c.args.workers set script) _ _ _ _ _ _
    (λ answer right. (None, right))
    (c.tell_refusal.ensures.goes set script unserved.0 unserved.1)

pub returns-in-Ok-None-clause-touched : goal.returns-in-Ok-None-clause-touched
returns-in-Ok-None-clause-touched g c =
    λ set script is.
    let unserved = rw (c.in-Ok-None.is, c.in-Ok-None.field-0-is) at is in
    inl (
      refl,
      told_leaves (IsUnhosted set script) _ _ _ _
          (c.tell_refusal.ensures.goes set script unserved.0 unserved.1),
    )

pub returns-in-Err-clause-goes : goal.returns-in-Err-clause-goes
returns-in-Err-clause-goes g c =
    λ set script is.
    let n = c.args.workers in
    goes_left (IsKeptOf n set script) _ _ c.args.page.now.lines [] c.in-Err.fault
    (unserved_kept set script n (g.O.Sink.contents c.args.out.now) c.args.page.now.lines
    (Err c.in-Err.fault) (rw c.in-Err.is at is))

pub returns-in-Err-clause-touched : goal.returns-in-Err-clause-touched
returns-in-Err-clause-touched g c =
    λ set script is.
    inl (
      refl,
      fault_leaves (IsKeptWith c.args.workers set script None) _ _ c.in-Err.fault,
    )
