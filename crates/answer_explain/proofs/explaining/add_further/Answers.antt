use Rattle.std.proofs.Common.{◌≡◌, ◌++◌, ◌∙◌, ap}
use Rattle.std.proofs.lemmas.Result.{on_ok_weaker}
use Rattle.report.specs.Verdict.{refusal_line}
use Rattle.answer_explain.proofs.Wording.{block_added}
use Rattle.answer_explain.proofs.explaining.add_further.Goals as goal

pub returns : goal.returns
returns c =
    let line = refusal_line c.args.refusal.now in
    let shown : c.bytes.result.now ≡ line =
    c.bytes.ensures ∙ c.refusal.ensures ∙ ap (λ x. x ++ line) c.clear.ensures in
    on_ok_weaker c.add_block.result
    (λ added. (
      added.0,
      added.1,
      block_added _ _ _ _ _ line added.0 c.in_ok-push.ensures.items
          c.in_ok-extend_from_slice.ensures.items
          shown added.2,
    ))
    c.add_block.ensures
