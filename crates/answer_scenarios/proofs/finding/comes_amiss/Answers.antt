use Rattle.std.proofs.Common.{◌≡◌, ◌∙◌, None, rules, sym}
use Rattle.scenario_run.specs.Acting.{played}
use Rattle.answer_scenarios.proofs.Failing.{comes_if, none_failed}
use Rattle.answer_scenarios.proofs.finding.comes_amiss.Goals as goal

pub returns : goal.returns
returns c =
    let now = c.play.new.playing in
    let before = c.args.steps.now in
    let start = c.args.playing.now in
    let plays : record { now = now; failed = None } ≡ played start before =
    none_failed now c.in_ok-play.field-0 (played start before) c.in_ok-play.ensures
    (sym c.is_some.ensures ∙ c.if-is_some.false) in
    let happens : now.events ≡ c.args.events.now = c.in_ok-has_happened.ensures (search rules) in
    comes_if start now before c.args.events.now c.args.last.now c.is_amiss.result plays happens
    c.is_amiss.ensures
