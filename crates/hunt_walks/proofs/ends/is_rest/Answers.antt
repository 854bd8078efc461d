use Rattle.std.proofs.Common.{arith, sym, ◌∙◌}
use Rattle.hunt_walks.proofs.Resting.{rest_not}
use Rattle.hunt_walks.proofs.ends.is_rest.Goals as goal

pub returns-then-may : goal.returns-then-may
returns-then-may g c home path stands =
    sym (rest_not (g.W.Walker.may home) path c.args.moves c.loop-number.number
    (omega (arith, c.loop-number-test.true))
    (sym (c.may-may.ensures home path stands) ∙ c.if-may.true))
