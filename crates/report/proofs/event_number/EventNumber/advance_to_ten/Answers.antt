use Rattle.std.proofs.Common.{arith}
use Rattle.report.proofs.Digits.{ready_ten}
use Rattle.report.specs.Word.{word_text}
use Rattle.report.proofs.event_number.EventNumber.advance_to_ten.Goals as goal

pub invariant_of-self : goal.invariant_of-self
invariant_of-self c = (
  omega arith,
  omega arith,
  ready_ten c.self.inside.number c.self.inside.place (word_text c.self.inside.word) c.self.inside.line c.self.invariant.2
      (omega arith) (omega arith) c.if-place-gt0.true c.if-self-place-lt57.true,
)
