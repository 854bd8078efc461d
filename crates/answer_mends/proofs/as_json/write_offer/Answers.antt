use Rattle.report_json.proofs.Steps.{last, more}
use Rattle.answer_mends.proofs.as_json.write_offer.Goals as goal

pub returns-clause-tokens : goal.returns-clause-tokens
returns-clause-tokens c =
    let t = c.args.out.now.tokens in
    let mends = more t _ _ _ _ c.in_ok-begin_object.ensures.ok c.in_ok-put_text.ensures.tokens in
    let left = more t _ _ _ _ mends c.in_ok-put_left.ensures.tokens in
    let u = c.put_left.new.out.tokens in
    let standing = more u _ _ _ _ c.in_ok-put_text-2.ensures.tokens c.in_ok-put_sentences.ensures.tokens
    in
    let end = last _ c.put_sentences.new.out.tokens _ _ _ _ c.in_ok-put_text-3.ensures.tokens
    c.end_object.ensures.ok in
    let rest = last _ u _ _ _ _ standing end in
    let done = last _ t _ _ _ _ left rest in
    rw (c.extent_name.ensures, c.standing_name.ensures, c.as_bytes.ensures.value, c.as_slice.ensures.value, c.as_str.ensures.value)
    at done
