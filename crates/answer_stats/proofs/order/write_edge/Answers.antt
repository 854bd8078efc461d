use Rattle.report_json.proofs.Steps.{last, more}
use Rattle.answer_stats.proofs.order.write_edge.Goals as goal

pub returns-clause-tokens : goal.returns-clause-tokens
returns-clause-tokens c =
    let t = c.args.out.now.tokens in
    let begun = more t _ _ _ _ c.in_ok-begin_object.ensures.ok c.in_ok-put_number.ensures.tokens in
    let placed = more t _ _ _ _ begun c.in_ok-put_number-2.ensures.tokens in
    let named = more t _ _ _ _ placed c.in_ok-key.ensures.ok in
    let taken = more t _ _ _ _ named c.in_ok-write_lock.ensures.tokens in
    let u = c.write_lock.new.out.tokens in
    let held = more u _ _ _ _ c.in_ok-key-2.ensures.ok c.in_ok-write_lock-2.ensures.tokens in
    let rest = last _ u _ _ _ _ held c.end_object.ensures.ok in
    last _ t _ _ _ _ taken rest
