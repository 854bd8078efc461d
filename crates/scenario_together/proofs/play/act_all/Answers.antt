use Rattle.std.proofs.Common.{◌≡◌, ◌<◌, Some, arith, length, refl, rules, slice_get}
use Rattle.std.proofs.lemmas.Option.{slice_get_read}
use Rattle.scenario_together.proofs.Acting.{acts_all, acts_next}
use Rattle.scenario_together.proofs.play.act_all.Goals as goal

pub loop-place-preserved : goal.loop-place-preserved
loop-place-preserved c =
    let at = c.loop-place in
    let inside : at.place < length at.plays.items =
    omega (arith, c.len-place-end.ensures, c.loop-place-test.true, at.auto.place-end, at.invariant.long) in
    let there : slice_get at.plays.items at.place ≡ Some c.index_mut.result.now =
    slice_get_read at.plays.items _ at.place c.index_mut.result.now refl inside
    c.index_mut.ensures.value in
    acts_next c.args.step.now c.args.plays.now.items at.plays.items _ at.place
    c.index_mut.result.now c.act.new.playing c.in_ok-outcome.outcome at.invariant there refl
    c.in_ok-outcome.ensures (search rules)

pub returns : goal.returns
returns c =
    acts_all c.args.step.now c.args.plays.now.items c.loop-place.plays.items c.loop-place.place
    c.loop-place.invariant
    (omega (arith, c.len-place-end.ensures, c.loop-place-test.false, c.loop-place.auto.place-end))
