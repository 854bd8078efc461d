use Rattle.std.proofs.Common.{◌+◌, take}
use Rattle.verifier_words.specs.Faults.{refusals}
use Rattle.answer_explain.specs.Explained.{AreWordsOn}
use Rattle.answer_explain.proofs.explaining.one_by_one.Given as goal

abbrev pub invariant-loop-other : goal.invariant-loop-other
invariant-loop-other l = AreWordsOn (refusals (take (l.other-index + 1) l.all)) l.words.items
