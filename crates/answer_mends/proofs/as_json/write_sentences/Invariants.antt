use Rattle.std.proofs.Common.{◌≡◌, ◌++◌, drop}
use Rattle.json.specs.Tree.{items_tokens}
use Rattle.answer_mends.specs.Json.{sentences_json}
use Rattle.answer_mends.proofs.as_json.write_sentences.Given as goal

abbrev pub invariant-loop-sentence : goal.invariant-loop-sentence
invariant-loop-sentence l =
    (l.out.before ≡ l.fn.out.before)
    × (l.out.tokens ++ items_tokens (sentences_json (drop l.sentence-index l.sentences))
    ≡ l.fn.out.tokens ++ items_tokens (sentences_json l.sentences))
