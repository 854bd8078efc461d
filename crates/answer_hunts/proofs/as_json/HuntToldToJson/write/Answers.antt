use Rattle.report_json.proofs.Steps.{last, more}
use Rattle.answer_hunts.proofs.as_json.HuntToldToJson.write.Goals as goal

pub returns-clause-tokens : goal.returns-clause-tokens
returns-clause-tokens c =
    let t = c.args.out.now.tokens in
    let way = more t _ _ _ _ c.in_ok-begin.ensures.tokens c.in_ok-put_text.ensures.tokens in
    let bounds = more t _ _ _ _ way c.in_ok-put_bounds.ensures.tokens in
    let u = c.put_bounds.new.out.tokens in
    let said = more u _ _ _ _ c.in_ok-put_text-2.ensures.tokens c.in_ok-put_text-3.ensures.tokens in
    let schedule = more u _ _ _ _ said c.in_ok-put_name.ensures.tokens in
    let end = last _ c.put_optional.new.out.tokens _ _ _ _ c.in_ok-put_optional-2.ensures.tokens
    c.end_object.ensures.ok in
    let worlds = last _ c.put_name.new.out.tokens _ _ _ _ c.in_ok-put_optional.ensures.tokens end in
    let rest = last _ u _ _ _ _ schedule worlds in
    let done = last _ t _ _ _ _ bounds rest in
    rw (c.way_name.ensures, c.outcome_name.ensures, c.worlds_told.ensures, c.events_told.ensures)
    at done
