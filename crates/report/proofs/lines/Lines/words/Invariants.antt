use Rattle.std.proofs.Common.{◌≡◌, ◌≤◌, ◌<◌, ◌+◌, ◌-◌, ◌++◌}
use Rattle.report.specs.Word.{word_lines}
use Rattle.report.proofs.lines.Lines.words.Given as goal

abbrev pub invariant-loop-told : goal.invariant-loop-told
invariant-loop-told l =
    record {
      some : 0 < l.told;
      most : l.told ≤ l.count;
      number : l.number ≡ l.fn.number + l.told;
      lines : l.self ≡ l.fn.self ++ word_lines l.fn.word l.fn.number l.told;
    }

abbrev pub decreases-loop-told : goal.decreases-loop-told
decreases-loop-told l = l.count - l.told
