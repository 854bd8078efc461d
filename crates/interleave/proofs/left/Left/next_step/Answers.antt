use Rattle.std.proofs.Common.{arith}
use Rattle.interleave.proofs.Taking.{two_digits}
use Rattle.interleave.proofs.left.Left.next_step.Goals as goal

pub returns : goal.returns
returns c =
    rw (← c.self.view_is)
    (two_digits c.self.inside.rest.now c.in_ok-after_word.field-0.now
    c.in_ok-first.behind_first.now c.in_ok-second.behind_second.now
    c.in_ok-third.behind_third.now c.in_ok-first.first.now c.in_ok-second.second.now
    c.in_ok-third.third.now c.in_ok-digit.field-0 c.in_ok-thread-2.field-0
    c.in_ok-after_word.ensures c.in_ok-first.ensures.cases.0 c.in_ok-second.ensures.cases.0
    c.in_ok-third.ensures.cases.0 (omega (arith, c.if-third-ne10.false))
    c.in_ok-digit.ensures.0 c.in_ok-digit.ensures.1
    c.in_ok-thread-2.ensures.0 c.in_ok-thread-2.ensures.1)
