use Rattle.std.proofs.Common.{◌≡◌, ◌∙◌, List, ap, inl, inr, refl, sym, ℕ}
use Rattle.answer_explain.specs.Explained.{hunt_line}
use Rattle.answer_explain.proofs.Explained.{with_words}
use Rattle.answer_explain.proofs.showing.WithHuntJob.answer.Goals as goal

pub returns-then-status-ne1 : goal.returns-then-status-ne1
returns-then-status-ne1 g c = (
  c.in_ok-told.told,
  c.in_ok-told.ensures,
  inr (λ one. c.if-status-ne1.true (c.status.ensures ∙ one), refl),
)

pub returns : goal.returns
returns g c =
    let told = c.in_ok-told.told in
    let command : c.as_slice.result.now ≡ hunt_line c.args.set.now.name.now =
    c.as_slice.ensures.value ∙ c.in_ok-command.ensures in (
      told,
      c.in_ok-told.ensures,
      inl (
        sym c.status.ensures ∙ c.if-status-ne1.false,
        c.in_ok-with_words.ensures ∙ ap (λ (words : List ℕ). with_words words told) command,
      ),
    )
