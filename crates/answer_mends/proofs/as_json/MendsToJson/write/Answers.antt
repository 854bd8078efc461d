use Rattle.report_json.proofs.Steps.{last, more}
use Rattle.answer_mends.proofs.as_json.MendsToJson.write.Goals as goal

pub returns-clause-tokens : goal.returns-clause-tokens
returns-clause-tokens c =
    let t = c.args.out.now.tokens in
    let a = more t _ _ _ _ c.in_ok-begin.ensures.tokens c.in_ok-put_number.ensures.tokens in
    let b = more t _ _ _ _ a c.in_ok-put_text.ensures.tokens in
    let placed = more t _ _ _ _ b c.in_ok-put_place.ensures.tokens in
    let named = more t _ _ _ _ placed c.in_ok-key.ensures.ok in
    let opened = more t _ _ _ _ named c.in_ok-begin_array.ensures.ok in
    let listed = more t _ _ _ _ opened c.in_ok-write_offers.ensures.tokens in
    last _ t _ _ _ _ listed c.end_object.ensures.ok
