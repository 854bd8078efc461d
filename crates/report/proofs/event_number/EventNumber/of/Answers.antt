use Rattle.std.proofs.Common.{arith, refl}
use Rattle.std.proofs.lemmas.Fmt.{decimal_nonempty}
use Rattle.report.proofs.Digits.{ready_line}
use Rattle.report.specs.Word.{word_text}
use Rattle.report.proofs.event_number.EventNumber.of.Goals as goal

pub overflow_sub-result : goal.overflow_sub-result
overflow_sub-result c =
    rw (c.as_bytes-digits.ensures.value, c.format.ensures.text)
    (omega (arith, decimal_nonempty c.args.number (omega arith)))

pub invariant_of-result : goal.invariant_of-result
invariant_of-result c =
    let line = rw (c.as_bytes-digits.ensures.value, c.format.ensures.text) at c.line_of.ensures in (
      omega arith,
      refl,
      rw (c.as_bytes-digits.ensures.value, c.format.ensures.text)
          (ready_line c.args.number (word_text c.args.word) c.line_of.result (omega arith) line),
    )
