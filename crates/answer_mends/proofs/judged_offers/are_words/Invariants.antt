use Rattle.std.proofs.Common.{◌≡◌, length}
use Rattle.text.specs.Cut.{lines_of}
use Rattle.answer_mends.specs.Mend.{are_words}
use Rattle.answer_mends.proofs.judged_offers.are_words.Given as goal

-- the lines so far are fine
abbrev pub invariant-loop-line : goal.invariant-loop-line
invariant-loop-line l = are_words (lines_of l.fn.words) ≡ are_words l.left

abbrev pub decreases-loop-line : goal.decreases-loop-line
decreases-loop-line l = length l.left
