use Rattle.std.proofs.Common.{◌≡◌, ◌∙◌, false, rules, sym}
use Rattle.std.specs.List.{list_any}
use Rattle.scenario_steps.specs.Judging.{expects_verdict}
use Rattle.answer_scenarios.proofs.Judging.{none_judged}
use Rattle.answer_scenarios.proofs.telling.play_judged.Goals as goal

pub returns-then-not-has : goal.returns-then-not-has
returns-then-not-has c =
    let none : list_any expects_verdict c.args.steps.now ≡ false =
    sym c.has.ensures ∙ search rules in
    none_judged c.args.playing c.args.steps.now c.play.result none c.play.ensures.plays
