use Rattle.std.proofs.Common.{◌∙◌, ap}
use Rattle.answer_explain.specs.Explained.{TellsLocks}
use Rattle.answer_explain.proofs.Explained.{with_words}
use Rattle.answer_explain.proofs.explaining.ExplainedTextForm.accepted.Goals as goal

pub returns : goal.returns
returns c =
    let set = c.args.accepted.now in
    let words = c.as_bytes.result.now in
    let told = c.in_ok-words.ensures {u = tt} in
    let tells : TellsLocks set words = rw c.as_bytes.ensures.value (told.orders, told.each) in
    let same = c.in_ok-with_words.ensures ∙ ap (with_words words) c.in_ok-told.ensures in
    (c.requires, (words, tells, same))
