use Rattle.std.proofs.Common.{arith, rules}
use Rattle.report.proofs.WordLines.{ten_next, word_short}
use Rattle.report.proofs.word_lines.write_ten.Goals as goal

pub loop-last_digit-preserved : goal.loop-last_digit-preserved
loop-last_digit-preserved c =
    record {
      len = search rules;
      end = omega (arith, word_short c.args.word);
      lines = ten_next c.args.word c.args.line.now.number c.loop-last_digit.last_digit _ _ _ c.requires.ten
          c.loop-last_digit.invariant.lines
          (rw (c.requires.word, ← c.length-length.ensures) at c.write_line.ensures.line);
    }
