use Rattle.std.proofs.Common.{◌∙◌, sym}
use Rattle.scenario_together.proofs.Plain.{all_alone}
use Rattle.scenario_together.proofs.Playing.{plain_ok}
use Rattle.scenario_together.proofs.play.play.Goals as goal

pub play_plainly-requires : goal.play_plainly-requires
play_plainly-requires c = all_alone c.args.steps.now (sym c.has.ensures ∙ c.if-has.false)

pub returns-then-has-clause-plain : goal.returns-then-has-clause-plain
returns-then-has-clause-plain c =
    plain_ok c.args.playing c.args.steps.now c.play_all.result c.play_all.ensures

pub returns-clause-plain : goal.returns-clause-plain
returns-clause-plain c =
    plain_ok c.args.playing c.args.steps.now c.play_plainly.result c.play_plainly.ensures
