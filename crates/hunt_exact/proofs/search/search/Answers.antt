use Rattle.std.proofs.Common.{◌≡◌, arith}
use Rattle.hunt_exact.proofs.Ending.{counted_on, ended_at, ended_on}
use Rattle.hunt_exact.proofs.search.search.Goals as goal

pub loop-number-preserved : goal.loop-number-preserved
loop-number-preserved g c =
    λ begun.
    counted_on _ _ _ _ _ _ c.in_ok-visited.ensures c.in_default.is (c.loop-number.invariant begun)

pub returns-in-Some : goal.returns-in-Some
returns-in-Some g c =
    λ begun.
    ended_on _ _ _ _ _ _ _ c.in_ok-visited.ensures c.in-Some.is (c.loop-number.invariant begun)

pub returns : goal.returns
returns g c =
    λ begun.
    let all : c.loop-number.number ≡ c.args.limits.worlds =
    omega (arith, c.loop-number.auto.number-end, c.loop-number-test.false) in
    ended_at _ _ _ _ _ _ all c.standing_at-ended.ensures (c.loop-number.invariant begun)
