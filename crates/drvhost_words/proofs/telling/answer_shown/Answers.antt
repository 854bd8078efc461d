use Rattle.std.proofs.Common.{◌≡◌, subst, sym}
use Rattle.answer_views.specs.Told.{IsTellOf}
use Rattle.drvhost_many.proofs.Colored.{shown_rightly}
use Rattle.drvhost_words.proofs.telling.answer_shown.Goals as goal

pub returns-clause-told : goal.returns-clause-told
returns-clause-told g c =
    let shown = c.args.shown in
    let told = c.in_ok-plain.plain in
    let Right = IsTellOf shown.verification shown.manner (g.S.Source.supply c.args.set.now)
    (g.P.Source.supply c.args.schedule.now) in
    shown_rightly (λ answer. answer ≡ told) Right shown.coloring c.in_ok-colored.field-0
    (λ answer same. subst Right (sym same) c.in_ok-plain.ensures.told) c.in_ok-colored.ensures
