use Rattle.std.proofs.Common.{arith}
use Rattle.text.proofs.Digits.{digits_more, number_more}
use Rattle.text.proofs.head.number_at_head.Goals as goal

pub loop-i-preserved : goal.loop-i-preserved
loop-i-preserved c =
    let bytes = c.args.bytes.now in
    let i = c.loop-i.i in
    let digit = c.in-Some.digit in
    let is = c.in-Some.ensures in
    let before = c.loop-i.invariant in
    record {
      digits = digits_more bytes i digit (omega arith) is.0 is.1 before.digits;
      number = omega (
        arith,
        c.from.ensures,
        number_more bytes i digit c.loop-i.number (omega arith) is.0 is.1 before.number,
      );
    }
