use Rattle.report_json.proofs.Steps.{last, more}
use Rattle.answer_mends.proofs.as_json.write_left.Goals as goal

pub returns-clause-tokens : goal.returns-clause-tokens
returns-clause-tokens c =
    let t = c.args.out.now.tokens in
    let placed = more t _ _ _ _ c.in_ok-begin_object.ensures.ok c.in_ok-put_place.ensures.tokens in
    last _ t _ _ _ _ placed c.end_object.ensures.ok
