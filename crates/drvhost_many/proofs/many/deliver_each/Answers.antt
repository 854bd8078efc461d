use Rattle.std.proofs.Common.{◌∙◌, ◌+◌, Err, IfOk, ap, arith, max, refl, subst}
use Rattle.std.proofs.lemmas.List.{take_all}
use Rattle.std.proofs.lemmas.Slice.Zip.{AllZip-long}
use Rattle.drvhost_devices.specs.Device.{SaysBehind}
use Rattle.drvhost_files.specs.Reading.{IsAnswered}
use Rattle.drvhost_many.specs.Held.{AreToldOf, IsToldOf}
use Rattle.drvhost_many.specs.One.{Delivers}
use Rattle.drvhost_many.proofs.Ending.{delivers_halt, delivers_none}
use Rattle.drvhost_many.proofs.Gathering.{all_out, gathers_apart, gathers_lost, gathers_one, gathers_same, gathers_written}
use Rattle.drvhost_many.proofs.Reading.{among_at, answered_at}
use Rattle.drvhost_many.proofs.many.deliver_each.Goals as goal
use Rattle.drvhost_many.proofs.many.deliver_each.Goals.{then-not-is_gathered+in_default-write_gathered-2+in_default-deliver, else-not-is_gathered}

pub returns-in-Err : goal.returns-in-Err
returns-in-Err g c = λ held zip.
    gathers_lost c.args.judging held c.loop-i.i c.loop-i.status c.loop-i.gathered.items _
    c.args.failures _ _ _ _ _ _ _ _ _ _ _ _ refl c.loop-i.invariant.0
    (c.loop-i.invariant.1 held zip) c.in-Err.ensures.lost

pub returns-in_default : goal.returns-in_default
returns-in_default g c = λ held zip.
    let judging = c.args.judging in
    let i = c.loop-i.i in
    let written = c.in_default-write_gathered.ensures.written in
    let now = gathers_written judging held i c.loop-i.status c.loop-i.gathered.items _
    c.args.failures _ _ _ _ _ _ _ _ _ refl (ap g.E.Sink.failures written.2)
    (ap g.E.Sink.contents written.2) (c.loop-i.invariant.1 held zip) written.1 in
    let one = answered_at judging held c.args.answered.now i c.index-answered-i.result zip
    c.loop-i-test.true c.index-answered-i.is in
    let among = among_at judging held i one.held now.first one.inside one.at now.answers in
    delivers_none judging held one.held now.first c.args.failures _ _ _ _ _ _ _ _ _ _
    c.of.result.name.now among (c.of.ensures.name ∙ one.answered.name_is)
    (written.0 ∙ c.loop-i.invariant.0) (all_out judging held i c.loop-i.status _ _ _ now) now.tells
    (rw (c.of.ensures.judging) at c.tell_no_memory.ensures)

pub returns-in-Err-write_gathered : goal.returns-in-Err-write_gathered
returns-in-Err-write_gathered g c = λ held zip.
    gathers_lost c.args.judging held c.loop-i.i c.loop-i.status c.loop-i.gathered.items _
    c.args.failures _ _ _ _ _ _ _ _ _ _ _ _ (c.if-not-is_gathered.ensures.apart refl)
    c.loop-i.invariant.0 (c.loop-i.invariant.1 held zip) c.in-Err-write_gathered.ensures.lost

pub returns-in-Err-deliver : goal.returns-in-Err-deliver
returns-in-Err-deliver g c = λ held zip.
    let judging = c.args.judging in
    let i = c.loop-i.i in
    let told = c.in-Ok.told in
    let written = c.in_default-write_gathered-2.ensures.written in
    let now = gathers_written judging held i c.loop-i.status c.loop-i.gathered.items _
    c.args.failures _ _ _ _ _ _ _ _ _ (c.if-not-is_gathered.ensures.apart refl)
    (ap g.E.Sink.failures written.2) (ap g.E.Sink.contents written.2)
    (c.loop-i.invariant.1 held zip) written.1 in
    let one = answered_at judging held c.args.answered.now i c.index-answered-i.result zip
    c.loop-i-test.true c.index-answered-i.is in
    let among = among_at judging held i one.held now.first one.inside one.at now.answers in
    let is : IsToldOf judging one.held told = subst (λ r. IfOk r (IsToldOf judging one.held)) c.in-Ok.is one.answered.answers in
    let came =
    subst (λ k. Delivers told k (g.O.Sink.failures c.deliver.new.out)
    (g.O.Sink.contents c.write_gathered-then-not-is_gathered.new.out) (g.O.Sink.contents c.deliver.new.out)
    (SaysBehind c.args.failures (g.E.Sink.failures c.write_gathered-then-not-is_gathered.new.err)
    (g.E.Sink.failures c.deliver.new.err) (g.E.Sink.contents c.write_gathered-then-not-is_gathered.new.err)
    (g.E.Sink.contents c.deliver.new.err)) (Err c.in-Err-deliver.halt))
    (written.0 ∙ c.loop-i.invariant.0) c.in-Err-deliver.ensures in
    delivers_halt judging held one.held now.first told c.args.failures _ _ _ _ _ _ _ _ _ _ _
    c.in-Err-deliver.halt among is (all_out judging held i c.loop-i.status _ _ _ now) now.tells came

pub loop-i-preserved : goal.loop-i-preserved
loop-i-preserved g c =
    let judging = c.args.judging in
    let i = c.loop-i.i in
    let told = c.in-Ok.told in
    let status = c.greater-status.ensures ∙ ap (λ s. max c.loop-i.status s) c.status.ensures in
    elim c.if-not-is_gathered.branch [
      | then-not-is_gathered+in_default-write_gathered-2+in_default-deliver w ↦
          let written = w.in_default-write_gathered-2.ensures.written in
          let came = w.in_default-deliver.ensures in (
            ap g.O.Sink.failures w.out-is ∙ came.1 ∙ written.0 ∙ c.loop-i.invariant.0,
            λ held zip.
                let one = answered_at judging held c.args.answered.now i c.index-answered-i.result zip
                c.loop-i-test.true c.index-answered-i.is in
                let is : IsToldOf judging one.held told = subst (λ r. IfOk r (IsToldOf judging one.held)) c.in-Ok.is one.answered.answers in
                let now = gathers_written judging held i c.loop-i.status c.loop-i.gathered.items _
                c.args.failures _ _ _ _ _ _ _ _ _ (w.if-not-is_gathered.ensures.apart refl)
                (ap g.E.Sink.failures written.2) (ap g.E.Sink.contents written.2)
                (c.loop-i.invariant.1 held zip) written.1 in
                let more = gathers_apart judging held i c.loop-i.status _ one.held told
                c.args.failures _ _ _ _ _ _ _ _ _ _ _ one.inside one.at is now came in
                gathers_same judging held (i + 1) _ _ _ _ c.args.failures _ _ _ _ _ _ _ _ _ status
                (ap (λ v. v.items) w.gathered-is ∙ w.in_default-write_gathered-2.ensures.gathered)
                (ap g.E.Sink.failures w.err-is) (ap g.O.Sink.contents w.out-is)
                (ap g.E.Sink.contents w.err-is) more,
          )
      | else-not-is_gathered w ↦ (
        ap g.O.Sink.failures w.out-is ∙ c.loop-i.invariant.0,
        λ held zip.
            let one = answered_at judging held c.args.answered.now i c.index-answered-i.result zip
            c.loop-i-test.true c.index-answered-i.is in
            let is : IsToldOf judging one.held told = subst (λ r. IfOk r (IsToldOf judging one.held)) c.in-Ok.is one.answered.answers in
            let added = w.if-not-is_gathered.ensures.gathered refl in
            let more = gathers_one judging held i c.loop-i.status one.held told
            c.loop-i.gathered.items _ _ _ one.inside one.at is added.0
            (c.loop-i.invariant.1 held zip) in
            gathers_same judging held (i + 1) _ _ _ _ c.args.failures _ _ _ _ _ _ _ _ _ status
            (ap (λ v. v.items) w.gathered-is ∙ added.1)
            (ap g.E.Sink.failures w.err-is) (ap g.O.Sink.contents w.out-is)
            (ap g.E.Sink.contents w.err-is) more,
      )
    ]

pub returns-in-Err-write_gathered-2 : goal.returns-in-Err-write_gathered-2
returns-in-Err-write_gathered-2 g c = λ held zip.
    gathers_lost c.args.judging held c.loop-i.i c.loop-i.status c.loop-i.gathered.items _
    c.args.failures _ _ _ _ _ _ _ _ _ _ _ _ refl c.loop-i.invariant.0
    (c.loop-i.invariant.1 held zip) c.in-Err-write_gathered-2.ensures.lost

pub returns : goal.returns
returns g c = λ held zip.
    let written = c.in_default-write_gathered-3.ensures.written in
    let now = gathers_written c.args.judging held c.loop-i.i c.loop-i.status
    c.loop-i.gathered.items _ c.args.failures _ _ _ _ _ _ _ _ _ refl
    (ap g.E.Sink.failures written.2) (ap g.E.Sink.contents written.2)
    (c.loop-i.invariant.1 held zip) written.1 in
    let long = AllZip-long (IsAnswered (IsToldOf c.args.judging)) held c.args.answered.now zip in
    let over = c.loop-i-test.false in (
      now.first,
      subst (λ l. AreToldOf c.args.judging l now.first)
          (take_all c.loop-i.i held (omega (arith, long, over))) now.answers,
      now.ended,
      written.0 ∙ c.loop-i.invariant.0,
      all_out c.args.judging held c.loop-i.i c.loop-i.status _ _ _ now,
      now.tells,
    )
