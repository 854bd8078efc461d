use Rattle.report_json.proofs.Steps.{more, last}
use Rattle.answer_explain.proofs.objects.ExplainedRefusalToJson.write.Goals as goal

pub returns-clause-tokens : goal.returns-clause-tokens
returns-clause-tokens c =
    let t = c.args.out.now.tokens in
    let a = more t _ _ _ _ c.in_ok-begin.ensures.tokens c.in_ok-put_text.ensures.tokens in
    let placed = more t _ _ _ _ a c.in_ok-put_place.ensures.tokens in
    let u = c.put_steps-2.new.out.tokens in
    let words = more u _ _ _ _ c.in_ok-put_text-2.ensures.tokens c.in_ok-put_text-3.ensures.tokens
    in
    let lesson = more u _ _ _ _ words c.in_ok-put_edits.ensures.tokens in
    let end = last _ u _ _ _ _ lesson c.end_object.ensures.ok in
    let other = last _ c.put_steps.new.out.tokens _ _ _ _ c.in_ok-put_steps-2.ensures.tokens end in
    let path = last _ c.put_region.new.out.tokens _ _ _ _ c.in_ok-put_steps.ensures.tokens other in
    let region = last _ c.put_place.new.out.tokens _ _ _ _ c.in_ok-put_region.ensures.tokens path in
    let done = last _ t _ _ _ _ placed region in
    rw (c.as_slice.ensures.value, c.as_slice-2.ensures.value) at done
