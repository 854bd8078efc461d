use Rattle.report_json.proofs.Steps.{last, more}
use Rattle.answer_stats.proofs.order.write_spin_lock.Goals as goal

pub returns-clause-tokens : goal.returns-clause-tokens
returns-clause-tokens c =
    let t = c.args.out.now.tokens in
    let begun = more t _ _ _ _ c.in_ok-begin_object.ensures.ok c.in_ok-put_text.ensures.tokens in
    let numbered = more t _ _ _ _ begun c.in_ok-put_number.ensures.tokens in
    last _ t _ _ _ _ numbered c.end_object.ensures.ok
