use Rattle.std.proofs.Common.{◌∙◌, ap, inl, inr, sym}
use Rattle.std.specs.Bool.{◌==◌}
use Rattle.scenario_together.proofs.Playing.{first_left, none_left}
use Rattle.scenario_together.proofs.play.first_or.Goals as goal

pub returns-then-is_empty : goal.returns-then-is_empty
returns-then-is_empty c =
    inl (none_left c.args.plays.items
    (ap (λ n. n == 0) (sym c.args.plays.ok.0) ∙ sym c.is_empty.ensures ∙ c.if-is_empty.true))

pub returns : goal.returns
returns c =
    inr (first_left c.args.plays.items c.swap_remove.result
    (ap (λ n. n == 0) (sym c.args.plays.ok.0) ∙ sym c.is_empty.ensures ∙ c.if-is_empty.false)
    c.swap_remove.ensures.value)
