use Rattle.report_json.proofs.Steps.{more, last}
use Rattle.answer_explain.proofs.objects.write_region.Goals as goal

pub returns-clause-tokens : goal.returns-clause-tokens
returns-clause-tokens c =
    let t = c.args.out.now.tokens in
    let a = more t _ _ _ _ c.in_ok-begin_object.ensures.ok c.in_ok-put_number.ensures.tokens in
    let b = more t _ _ _ _ a c.in_ok-put_number-2.ensures.tokens in
    let d = more t _ _ _ _ b c.in_ok-put_number-3.ensures.tokens in
    last _ t _ _ _ _ d c.end_object.ensures.ok
