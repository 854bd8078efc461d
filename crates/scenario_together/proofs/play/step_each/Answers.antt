use Rattle.std.proofs.Common.{◌∙◌, ◌<◌, [], List, arith, length, subst, sym}
use Rattle.std.proofs.lemmas.List.{take_all}
use Rattle.model.specs.Set.{Set}
use Rattle.model.specs.Sound.{IsSound}
use Rattle.scenario_run.specs.Playing.{Playing}
use Rattle.scenario_steps.specs.declared.scenario.Step.{Step}
use Rattle.scenario_together.specs.Joining.{Covers, Leaves}
use Rattle.scenario_together.proofs.Covering.{covers_begun}
use Rattle.scenario_together.proofs.Playing.{goes_on_there, stops_or}
use Rattle.scenario_together.proofs.play.step_each.Goals as goal

pub loop-place-init : goal.loop-place-init
loop-place-init c =
    subst (λ (xs : List Playing). Covers c.args.merges c.args.home.now [] xs)
    (sym c.requires.alone) (covers_begun c.args.merges c.args.home.now)

pub loop-place-preserved : goal.loop-place-preserved
loop-place-preserved c =
    let at = c.loop-place in
    let plays = at.plays.items in
    let next = c.step_all.new.plays.items in
    let over = c.in_ok-over.over in
    let inside : at.place < length c.args.steps.now =
    omega (arith, c.len-place-end.ensures, c.loop-place-test.true, at.auto.place-end) in
    let sound =
    subst (λ (s : Set). IsSound s) (c.set.ensures ∙ c.machine.ensures.set)
    c.devices-devices.ensures.sound in
    goes_on_there c.same_worlds_go_on_alike.ensures c.accepted_runs_show_no_disagreement.ensures
    c.args.merges c.args.home.now sound c.args.steps.now c.requires.merges at.place c.at.result
    inside plays next over at.invariant
    (subst (λ (x : Step). Leaves c.args.merges x plays next over) c.at.ensures
    c.in_ok-over.ensures) (sym c.is_some.ensures ∙ c.if-is_some.false)

pub returns-then-is_some : goal.returns-then-is_some
returns-then-is_some c =
    let at = c.loop-place in
    let plays = at.plays.items in
    let next = c.step_all.new.plays.items in
    let over = c.in_ok-over.over in
    let inside : at.place < length c.args.steps.now =
    omega (arith, c.len-place-end.ensures, c.loop-place-test.true, at.auto.place-end) in
    let sound =
    subst (λ (s : Set). IsSound s) (c.set.ensures ∙ c.machine.ensures.set)
    c.devices-devices.ensures.sound in
    stops_or c.same_worlds_go_on_alike.ensures c.accepted_runs_show_no_disagreement.ensures
    c.args.merges c.args.home.now sound c.args.steps.now c.requires.merges at.place c.at.result
    inside plays next over at.invariant
    (subst (λ (x : Step). Leaves c.args.merges x plays next over) c.at.ensures
    c.in_ok-over.ensures) (sym c.is_some.ensures ∙ c.if-is_some.true)

pub returns : goal.returns
returns c =
    let at = c.loop-place in
    let steps = c.args.steps.now in
    subst (λ (xs : List Step). Covers c.args.merges c.args.home.now xs at.plays.items)
    (take_all at.place steps (omega (arith, c.loop-place-test.false))) at.invariant
