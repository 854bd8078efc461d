use Rattle.std.proofs.Common.{◌+◌, arith}
use Rattle.report.proofs.Digits.{ready_other}
use Rattle.report.specs.Word.{word_text}
use Rattle.report.proofs.event_number.EventNumber.advance_by.Goals as goal

pub invariant_of-self : goal.invariant_of-self
invariant_of-self c = (
  omega arith,
  omega arith,
  ready_other c.self.inside.number (c.self.inside.number + c.from.result) c.self.inside.place
      (word_text c.self.inside.word) c.self.inside.line c.self.invariant.2
      (omega (arith, c.self.invariant.1)) (omega arith) (omega arith),
)

pub invariant_of-self-else-digit-lt10 : goal.invariant_of-self-else-digit-lt10
invariant_of-self-else-digit-lt10 c = (
  omega arith,
  omega arith,
  ready_other c.self.inside.number (c.self.inside.number + c.from-else-digit-lt10.result)
      c.self.inside.place (word_text c.self.inside.word) c.self.inside.line c.self.invariant.2
      (omega (arith, c.self.invariant.1)) (omega arith) (omega arith),
)
