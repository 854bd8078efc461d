use Rattle.std.proofs.Common.{arith}
use Rattle.std.proofs.lemmas.List.{same_lists}
use Rattle.hunt_worlds.proofs.same.same_all.Goals as goal

pub returns : goal.returns
returns g c =
    λ holds.
    same_lists c.args.ours.now c.args.others.now c.if-ours-others.false
    (λ k d low. c.loop-place.invariant k d (omega (arith, low, c.loop-place-test.false)))
