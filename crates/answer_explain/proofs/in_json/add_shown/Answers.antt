use Rattle.answer_explain.proofs.InJson.{shown_added}
use Rattle.answer_explain.proofs.in_json.add_shown.Goals as goal

pub returns : goal.returns
returns c =
    shown_added _ c.args.file.name.now c.args.file.bytes.now c.args.refusal.now
    c.in_ok-region.region c.args.shown.now _ _ _ _ c.in_ok-region.ensures c.add.ensures.added
    c.as_slice-2.ensures c.in_ok-edits.ensures
