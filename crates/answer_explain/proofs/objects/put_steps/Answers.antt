use Rattle.report_json.proofs.Steps.{more, last}
use Rattle.answer_explain.proofs.objects.put_steps.Goals as goal

pub returns-clause-tokens : goal.returns-clause-tokens
returns-clause-tokens c =
    let t = c.args.out.now.tokens in
    let a = more t _ _ _ _ c.in_ok-key.ensures.ok c.in_ok-begin_array.ensures.ok in
    last _ t _ _ _ _ a c.write_steps.ensures.tokens
