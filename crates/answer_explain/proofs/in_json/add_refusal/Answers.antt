use Rattle.answer_explain.proofs.InJson.{line_added}
use Rattle.answer_explain.proofs.in_json.add_refusal.Goals as goal

pub returns : goal.returns
returns c =
    line_added _ c.args.file.name.now c.args.file.bytes.now c.args.set.now c.args.refusal.now
    c.in_ok-shown.shown _ _ c.in_ok-shown.ensures c.add_shown.ensures
