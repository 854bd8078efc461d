use Rattle.answer_logs.proofs.Explained.{shown_explained}
use Rattle.answer_logs.proofs.explaining.explain.Goals as goal

pub returns : goal.returns
returns c =
    shown_explained _ c.args.file.name.now c.args.file.bytes.now c.args.set.now c.args.refusal.now
    c.in_ok-shown.shown _ _ c.in_ok-shown.ensures c.in_ok-fix.ensures c.of_shown.ensures.result
    c.of_shown.ensures.message c.of_shown.ensures.path c.of_shown.ensures.other
    c.of_shown.ensures.fix c.of_shown.ensures.end
