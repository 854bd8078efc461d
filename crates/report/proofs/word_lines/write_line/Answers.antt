use Rattle.std.proofs.Common.{arith}
use Rattle.report.proofs.WordLines.{digits_first, placed, word_short}
use Rattle.report.proofs.word_lines.write_line.Goals as goal

pub returns-clause-line : goal.returns-clause-line
returns-clause-line c =
    placed c.args.at _ _ c.args.buffer.now c.write_block.new.block _ (omega arith) (omega arith)
    (omega (arith, word_short c.args.line.now.word)) c.write_block.ensures.line

pub returns-clause-digits : goal.returns-clause-digits
returns-clause-digits c =
    placed c.args.at _ _ c.args.buffer.now c.write_block.new.block _ (omega arith) (omega arith)
    (omega arith)
    (digits_first c.args.line.now.word _ _ c.write_block.new.block c.write_block.ensures.digits
    c.write_block.ensures.line)
