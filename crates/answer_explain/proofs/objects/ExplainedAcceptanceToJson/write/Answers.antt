use Rattle.report_json.proofs.Steps.{more, last}
use Rattle.answer_explain.proofs.objects.ExplainedAcceptanceToJson.write.Goals as goal

pub returns-clause-tokens : goal.returns-clause-tokens
returns-clause-tokens c =
    let t = c.args.out.now.tokens in
    let a = more t _ _ _ _ c.in_ok-begin.ensures.tokens c.in_ok-put_text.ensures.tokens in
    let b = more t _ _ _ _ a c.in_ok-key.ensures.ok in
    let d = more t _ _ _ _ b c.in_ok-begin_array.ensures.ok in
    let listed = more t _ _ _ _ d c.in_ok-write_routines.ensures.tokens in
    let u = c.write_routines.new.out.tokens in
    let end = last _ u _ _ _ _ c.in_ok-put_text-2.ensures.tokens c.end_object.ensures.ok in
    last _ t _ _ _ _ listed end
