use Rattle.std.proofs.Common.{◌≡◌, ◌++◌, ℕ, List, take}
use Rattle.verifier_words.specs.Faults.{refusals}
use Rattle.answer_explain.specs.Explain.{AreRefusalLines}
use Rattle.answer_explain.proofs.in_json.add_each.Given as goal

abbrev pub invariant-loop-told : goal.invariant-loop-told
invariant-loop-told l =
    (text : List ℕ)
    × AreRefusalLines l.file.name.now l.file.bytes.now l.set
    (take l.told-index (refusals l.told-items)) text
    × (l.lines ≡ l.fn.lines ++ text)
