use Rattle.report_json.proofs.Steps.{last, more}
use Rattle.answer_hunts.proofs.as_json.put_bounds.Goals as goal

pub returns-clause-tokens : goal.returns-clause-tokens
returns-clause-tokens c =
    let t = c.args.out.now.tokens in
    let begun = more t _ _ _ _ c.in_ok-key.ensures.ok c.in_ok-begin_object.ensures.ok in
    let threads = more t _ _ _ _ begun c.in_ok-put_number.ensures.tokens in
    let packets = more t _ _ _ _ threads c.in_ok-put_number-2.ensures.tokens in
    let worlds = more t _ _ _ _ packets c.in_ok-put_number-3.ensures.tokens in
    let events = more t _ _ _ _ worlds c.in_ok-put_limit.ensures.tokens in
    let end = last _ c.put_limit-2.new.out.tokens _ _ _ _ c.in_ok-put_text.ensures.tokens
    c.end_object.ensures.ok in
    let argument = last _ c.put_limit.new.out.tokens _ _ _ _ c.in_ok-put_limit-2.ensures.tokens end
    in
    let done = last _ t _ _ _ _ events argument in
    rw c.goal_name.ensures at done
