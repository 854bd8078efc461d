use Rattle.std.proofs.Common.{Err, List, Ok, subst, sym, ℕ}
use Rattle.std.specs.Io.KnownBytes.{Appends}
use Rattle.std.proofs.lemmas.Result.{err_from_is_err_and}
use Rattle.drvhost_devices.specs.Answer.{IsOfFile, IsTraced}
use Rattle.drvhost_devices.specs.Device.{Holds, TakesBeginning}
use Rattle.answer_scenarios.specs.Scenarios.{IsOfSources, IsPlayedOf, right_of}
use Rattle.answer_scenarios.proofs.Told.{tells_rightly, told_broken, told_written, unread, unread_held, untold}
use Rattle.answer_scenarios.proofs.schedule.write_told.Goals as goal

pub returns-in_err-bytes-clause-goes : goal.returns-in_err-bytes-clause-goes
returns-in_err-bytes-clause-goes g c =
    let p = err_from_is_err_and c.from_residual.result c.from_residual.ensures.1 in
    let R = IsOfSources (right_of c.args.plan.asked) c.args.plan.verification
    (g.S.Source.supply c.args.set.now) (g.P.Source.supply c.args.scenario.now) in
    rw (p.1, p.2)
    (unread R (g.O.Sink.contents c.args.out.now) c.in_err-bytes.field-0.0 c.in_err-bytes.ensures.fault)

pub returns-in_err-told-clause-unread : goal.returns-in_err-told-clause-unread
returns-in_err-told-clause-unread g c =
    let held = g.S.Source.supply c.args.set.now in
    let bytes = c.as_slice.result.now in
    let holds = subst (λ (bytes : List ℕ). Holds held bytes) (sym c.as_slice.ensures.value)
    c.in_ok-bytes.ensures.bytes in
    unread_held c.args.plan.verification held bytes holds c.in_err-told.ensures.unread

pub returns-in_err-told-clause-goes : goal.returns-in_err-told-clause-goes
returns-in_err-told-clause-goes g c =
    let p = err_from_is_err_and c.from_residual-in_err-told.result
    c.from_residual-in_err-told.ensures.1 in
    let held = g.S.Source.supply c.args.set.now in
    let scenario = g.P.Source.supply c.args.scenario.now in
    let bytes = c.as_slice.result.now in
    let holds = subst (λ (bytes : List ℕ). Holds held bytes) (sym c.as_slice.ensures.value)
    c.in_ok-bytes.ensures.bytes in
    let R = IsOfSources (right_of c.args.plan.asked) c.args.plan.verification held scenario in
    let Q = IsOfFile (IsTraced c.args.plan.verification
    (IsPlayedOf (right_of c.args.plan.asked) bytes scenario)) bytes in
    rw (p.1, p.2)
    (untold R (g.O.Sink.contents c.args.out.now) c.in_err-told.field-0.0
    (tells_rightly Q R (Err c.in_err-told.field-0.0) (λ answer right. (bytes, holds, right))
    c.in_err-told.ensures.tells))

pub returns-in_err-write_bytes-clause-unread : goal.returns-in_err-write_bytes-clause-unread
returns-in_err-write_bytes-clause-unread g c =
    let held = g.S.Source.supply c.args.set.now in
    let bytes = c.as_slice.result.now in
    let holds = subst (λ (bytes : List ℕ). Holds held bytes) (sym c.as_slice.ensures.value)
    c.in_ok-bytes.ensures.bytes in
    unread_held c.args.plan.verification held bytes holds c.in_ok-told.ensures.unread

pub returns-in_err-write_bytes-clause-goes : goal.returns-in_err-write_bytes-clause-goes
returns-in_err-write_bytes-clause-goes g c =
    let p = err_from_is_err_and c.from_residual-in_err-write_bytes.result
    c.from_residual-in_err-write_bytes.ensures.1 in
    let held = g.S.Source.supply c.args.set.now in
    let scenario = g.P.Source.supply c.args.scenario.now in
    let bytes = c.as_slice.result.now in
    let holds = subst (λ (bytes : List ℕ). Holds held bytes) (sym c.as_slice.ensures.value)
    c.in_ok-bytes.ensures.bytes in
    let R = IsOfSources (right_of c.args.plan.asked) c.args.plan.verification held scenario in
    let Q = IsOfFile (IsTraced c.args.plan.verification
    (IsPlayedOf (right_of c.args.plan.asked) bytes scenario)) bytes in
    let B : List ℕ → Type 0 = TakesBeginning (g.O.Sink.contents c.args.out.now)
    (g.O.Sink.contents c.write_bytes.new.sink) in
    rw (p.1, p.2, c.in_err-write_bytes.ensures.fault)
    (told_broken R (g.O.Sink.contents c.args.out.now) (g.O.Sink.contents c.write_bytes.new.sink)
    c.in_ok-told.told
    (tells_rightly Q R (Ok c.in_ok-told.told) (λ answer right. (bytes, holds, right))
    c.in_ok-told.ensures.tells)
    (subst B c.as_slice-2.ensures.value c.in_err-write_bytes.ensures.written))

pub returns-clause-unread : goal.returns-clause-unread
returns-clause-unread g c =
    let held = g.S.Source.supply c.args.set.now in
    let bytes = c.as_slice.result.now in
    let holds = subst (λ (bytes : List ℕ). Holds held bytes) (sym c.as_slice.ensures.value)
    c.in_ok-bytes.ensures.bytes in
    unread_held c.args.plan.verification held bytes holds c.in_ok-told.ensures.unread

pub returns-clause-goes : goal.returns-clause-goes
returns-clause-goes g c =
    let held = g.S.Source.supply c.args.set.now in
    let scenario = g.P.Source.supply c.args.scenario.now in
    let bytes = c.as_slice.result.now in
    let holds = subst (λ (bytes : List ℕ). Holds held bytes) (sym c.as_slice.ensures.value)
    c.in_ok-bytes.ensures.bytes in
    let R = IsOfSources (right_of c.args.plan.asked) c.args.plan.verification held scenario in
    let Q = IsOfFile (IsTraced c.args.plan.verification
    (IsPlayedOf (right_of c.args.plan.asked) bytes scenario)) bytes in
    let A : List ℕ → Type 0 = Appends (g.O.Sink.contents c.args.out.now)
    (g.O.Sink.contents c.write_bytes.new.sink) in
    told_written R (g.O.Sink.contents c.args.out.now) (g.O.Sink.contents c.write_bytes.new.sink)
    c.in_ok-told.told
    (tells_rightly Q R (Ok c.in_ok-told.told) (λ answer right. (bytes, holds, right))
    c.in_ok-told.ensures.tells)
    (subst A c.as_slice-2.ensures.value c.in_ok-write_bytes.ensures.written)
