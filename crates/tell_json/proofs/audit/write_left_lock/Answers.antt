use Rattle.report_json.proofs.Steps.{last, more}
use Rattle.tell_json.proofs.audit.write_left_lock.Goals as goal

pub returns-clause-tokens : goal.returns-clause-tokens
returns-clause-tokens c =
    let t = c.args.out.now.tokens in
    let a = more t _ _ _ _ c.in_ok-begin_object.ensures.ok c.in_ok-put_number.ensures.tokens in
    let b = more t _ _ _ _ a c.in_ok-key.ensures.ok in
    let d = more t _ _ _ _ b c.in_ok-write_subject.ensures.tokens in
    last _ t _ _ _ _ d c.end_object.ensures.ok
