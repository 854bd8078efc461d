use Rattle.report_json.proofs.Steps.{last}
use Rattle.report_json.proofs.event.write_system_cancel_lock.Goals as goal

pub returns-clause-tokens : goal.returns-clause-tokens
returns-clause-tokens c =
    let t = c.args.out.now.tokens in
    last _ t _ _ _ _ c.in_ok-put_text.ensures.tokens c.end_object.ensures.ok
