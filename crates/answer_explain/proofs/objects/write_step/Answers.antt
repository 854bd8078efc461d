use Rattle.report_json.proofs.Steps.{more, last}
use Rattle.answer_explain.proofs.objects.write_step.Goals as goal

pub returns-clause-tokens : goal.returns-clause-tokens
returns-clause-tokens c =
    let t = c.args.out.now.tokens in
    let a = more t _ _ _ _ c.in_ok-begin_object.ensures.ok c.in_ok-put_number.ensures.tokens in
    let placed = more t _ _ _ _ a c.in_ok-put_region.ensures.tokens in
    let u = c.put_region.new.out.tokens in
    let end = last _ u _ _ _ _ c.in_ok-put_text.ensures.tokens c.end_object.ensures.ok in
    let done = last _ t _ _ _ _ placed end in
    rw c.as_str.ensures.value at done
