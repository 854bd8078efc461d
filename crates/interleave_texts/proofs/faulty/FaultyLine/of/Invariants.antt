use Rattle.std.proofs.Common.{length}
use Rattle.interleave_texts.proofs.faulty.FaultyLine.of.Given as goal

abbrev pub decreases-loop-raw : goal.decreases-loop-raw
decreases-loop-raw l = length l.left.left
