use Rattle.report_json.proofs.Steps.{last, more}
use Rattle.answer.proofs.list.ListedToJson.write.Goals as goal

pub returns-clause-tokens : goal.returns-clause-tokens
returns-clause-tokens c =
    let t = c.args.out.now.tokens in
    let said = more t _ _ _ _ c.in_ok-begin.ensures.tokens c.in_ok-put_text.ensures.tokens in
    last _ t _ _ _ _ said c.end_object.ensures.ok
