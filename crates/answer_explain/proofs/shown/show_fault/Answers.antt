use Rattle.answer_explain.proofs.Evidenced.{fault_shown}
use Rattle.answer_explain.proofs.shown.show_fault.Goals as goal

pub returns : goal.returns
returns c =
    fault_shown _ c.args.bytes.now c.args.set.now c.args.refusal.now _ c.in_ok-evidence.ensures
    c.show.ensures
