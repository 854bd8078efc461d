use Rattle.text.proofs.Digits.{two_digits}
use Rattle.text.proofs.head.short_number.Goals as goal

pub returns-in-Some-digit-clause-read : goal.returns-in-Some-digit-clause-read
returns-in-Some-digit-clause-read c =
    rw c.from-number.ensures
    (two_digits c.in_ok-first.ensures.cases.0 c.in-Some.ensures.cases.0 c.in_ok-digit_at_head.ensures.0
    c.in_ok-digit_at_head.ensures.1 c.in-Some-digit.ensures.0 c.in-Some-digit.ensures.1)
