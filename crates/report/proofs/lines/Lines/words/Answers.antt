use Rattle.std.proofs.Common.{arith}
use Rattle.report.proofs.WordLines.{told_more, words_split}
use Rattle.report.proofs.lines.Lines.words.Goals as goal

pub loop-told-preserved : goal.loop-told-preserved
loop-told-preserved c =
    record {
      some = omega arith;
      most = omega arith;
      number = omega arith;
      lines = told_more c.args.word c.args.number.now c.loop-told.told _ _ _ _ _ c.loop-told.invariant.number
          c.loop-told.invariant.lines c.some_words-told-in-loop-told.ensures.lines;
    }

pub returns-else-has_room-clause-left : goal.returns-else-has_room-clause-left
returns-else-has_room-clause-left c =
    rw c.loop-told.invariant.number
    (words_split c.args.word c.args.number.now c.args.count c.loop-told.told
    c.loop-told.invariant.most)

pub returns-after-loop-told-clause-left : goal.returns-after-loop-told-clause-left
returns-after-loop-told-clause-left c =
    rw c.loop-told.invariant.number
    (words_split c.args.word c.args.number.now c.args.count c.loop-told.told
    c.loop-told.invariant.most)
