use Rattle.std.proofs.Common.{◌≡◌, ◌∙◌, ap, get_or, length, rules, subst, sym}
use Rattle.std.specs.List.{AllZip}
use Rattle.drvhost_devices.specs.Device.{Unknown}
use Rattle.drvhost_files.specs.Reading.{IsAnsweredFor, IsNamedSo}
use Rattle.drvhost_files.proofs.Holding.{answered_all, answered_same, written_over}
use Rattle.drvhost_files.proofs.reading.answer_files.Goals as goal

pub returns : goal.returns
returns g c =
    let names = c.args.names.now in
    let answered = c.in_ok-answered.answered.items in
    let old = c.as_mut_slice.result.now in
    let new = c.for_each_mut.new.s in
    let value = c.as_mut_slice.ensures.value in
    let same = c.for_each_mut.auto.s in
    let is_told = c.args.way.is_told in
    let Answers = g.A.Answering.answers c.args.answering.now in
    subst (λ l. AllZip (IsAnsweredFor is_told (λ _. Unknown) Answers) names l)
    (sym (written_over answered new c.in_ok-answered.answered.len
    (same ∙ ap (λ l. length l) value) c.in_ok-answered.answered.ok.0))
    (answered_all is_told Answers names old new
    (subst (λ l. AllZip IsNamedSo names l) (sym value) c.in_ok-answered.ensures) same
    (λ i d less.
    let k = (c.for_each_mut.ensures i d less).1 in
    let call = k.call in
    answered_same is_told Answers (get_or old i d) (get_or new i d) k.argument.now _ k.argument_is
    k.left (search rules)))
