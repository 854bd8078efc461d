use Rattle.std.proofs.Common.{◌≡◌, arith, length}
use Rattle.scenario_run.proofs.Alike.{same_entries}
use Rattle.scenario_run.proofs.tops.same_tops.Goals as goal

pub returns : goal.returns
returns c =
    λ holds.
    let long : length c.args.ours.now.entries ≡ length c.args.its.now.entries =
    omega (arith, c.len.ensures.len, c.len-2.ensures.len, c.if-len.false) in
    same_entries c.args.ours.now.entries c.args.its.now.entries long
    (λ k low. c.loop-place.invariant k
    (omega (arith, low, c.loop-place-test.false, c.len-place-end.ensures.len, c.loop-place.auto.place-end)))
