use Rattle.std.proofs.Common.{arith}
use Rattle.devqueue.proofs.Rows.{without_first}
use Rattle.devqueue.proofs.row.Row.pop_front.Goals as goal

pub invariant_of-self : goal.invariant_of-self
invariant_of-self c =
    without_first c.self.inside.numbers.items c.self.inside.gone _ c.self.inside.rising
    c.self.invariant (omega (arith, c.if-self-len.false, c.len.ensures))
