use Rattle.std.proofs.Common.{◌≡◌, ◌≤◌, ◌+◌, ◌*◌, ◌++◌, length, take}
use Rattle.report.specs.Word.{word_lines}
use Rattle.report.proofs.word_lines.write_ten.Given as goal

abbrev pub invariant-loop-last_digit : goal.invariant-loop-last_digit
invariant-loop-last_digit l =
    record {
      len : length l.buffer ≡ length l.fn.buffer;
      end : l.at ≤ l.fn.start + 32 * l.last_digit;
      lines :
          take l.at l.buffer
          ≡ take l.fn.start l.fn.buffer ++ word_lines l.fn.word l.fn.line.number l.last_digit;
    }
