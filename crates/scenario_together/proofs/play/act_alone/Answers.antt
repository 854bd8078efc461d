use Rattle.std.proofs.Common.{◌<◌, false, subst, sym}
use Rattle.scenario_together.proofs.Joining.{acted_in, acted_is, fails_inside, left_alone, left_one, over_by, taken_at}
use Rattle.scenario_together.proofs.play.act_alone.Goals as goal

pub swap_remove-requires : goal.swap_remove-requires
swap_remove-requires c =
    let place = c.in-Some.place in
    subst (λ n. place < n) (sym c.act_all.new.plays.ok.0)
    (fails_inside c.args.step.now c.args.plays.now.items c.act_all.new.plays.items place
    (acted_in c.args.step.now c.args.plays.now.items _ _ place c.in_ok-place.ensures
    c.in-Some.is))

pub returns-in-Some : goal.returns-in-Some
returns-in-Some c =
    λ merges.
    let step = c.args.step.now in
    let plays = c.args.plays.now.items in
    let next = c.act_all.new.plays.items in
    let place = c.in-Some.place in
    let fails = acted_in step plays next _ place c.in_ok-place.ensures c.in-Some.is in
    let at =
    taken_at next place c.swap_remove.result (fails_inside step plays next place fails)
    c.swap_remove.ensures.value in
    over_by step plays c.ended.result c.swap_remove.result false c.ended.ensures
    (left_one step plays next place c.swap_remove.result c.requires fails at)

pub returns-in-None : goal.returns-in-None
returns-in-None c =
    λ merges.
    left_alone merges c.args.step.now c.args.plays.now.items c.act_all.new.plays.items c.requires
    (acted_is c.args.step.now c.args.plays.now.items _ _ c.in_ok-place.ensures c.in-None.is)
