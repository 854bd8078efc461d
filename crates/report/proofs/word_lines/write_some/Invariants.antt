use Rattle.std.proofs.Common.{◌≡◌, ◌≤◌, ◌+◌, ◌*◌, ◌++◌, length, take}
use Rattle.report.specs.Word.{word_lines}
use Rattle.report.proofs.word_lines.write_some.Given as goal

abbrev pub invariant-loop-i : goal.invariant-loop-i
invariant-loop-i l =
    record {
      len : length l.buffer ≡ length l.fn.buffer;
      end : l.at ≤ l.fn.start + 32 * l.i;
      lines :
          take l.at l.buffer
          ≡ take l.fn.start l.fn.buffer ++ word_lines l.fn.word l.fn.number l.i;
    }
