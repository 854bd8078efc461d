use Rattle.std.proofs.Common.{arith, rules}
use Rattle.report.proofs.WordLines.{some_next, word_short}
use Rattle.report.proofs.word_lines.write_some.Goals as goal

pub loop-i-preserved : goal.loop-i-preserved
loop-i-preserved c =
    record {
      len = search rules;
      end = omega (arith, word_short c.args.word);
      lines = some_next c.args.word c.args.number.now c.loop-i.i c.last_digit-first.result _ _ _
          (rw c.line_with-line.ensures.same at c.last_digit-first.ensures) c.loop-i.invariant.lines
          (rw (c.line_with-line.ensures.line, ← c.length-length.ensures) at c.write_line.ensures.line);
    }
