use Rattle.std.proofs.Common.{◌∙◌, List, ap, subst, sym, ℕ}
use Rattle.answer_explain.specs.Explained.{AreWordsOf}
use Rattle.answer_explain.proofs.Explained.{with_words}
use Rattle.answer_explain.proofs.explaining.ExplainedTextForm.refused.Goals as goal

pub returns : goal.returns
returns c =
    let words = c.as_slice.result.now in
    let refused = c.in_ok-told.ensures in
    let Of : List ℕ → Type 0 = AreWordsOf c.args.self.now.extent c.args.set.now in (
      refused.refusal,
      words,
      refused.first,
      subst Of (sym c.as_slice.ensures.value) c.in_ok-words.ensures,
      c.in_ok-with_words.ensures ∙ ap (with_words words) refused.is,
    )
