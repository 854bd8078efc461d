use Rattle.std.proofs.Common.{refl}
use Rattle.answer_views.proofs.ToldOn.{passed_once, seen_times}
use Rattle.answer_views.proofs.telling.Telling.tell_next.Goals as goal

pub returns-then-passed-clause-times : goal.returns-then-passed-clause-times
returns-then-passed-clause-times c =
    let seen = c.in_ok-passed.ensures.passed c.if-passed.true in rw seen.1 refl

pub returns-then-passed-clause-told : goal.returns-then-passed-clause-told
returns-then-passed-clause-told c =
    let seen = c.in_ok-passed.ensures.passed c.if-passed.true in
    λ threads events shows. passed_once c.args.self.now.page.detail c.args.self.now.page.number _
    c.see.new.self.happened.reply c.args.self.now.page.text.items seen.0 seen.1

pub returns-clause-told : goal.returns-clause-told
returns-clause-told c =
    seen_times c.args.self.now.page.detail c.args.self.now.page.number c.args.machine.now
    c.args.event.now c.see.new.self.happened _ c.args.self.now.page.text.items _
    (c.in_ok-passed.ensures.seen c.if-passed.false) c.in_ok-tell_times.ensures.told
