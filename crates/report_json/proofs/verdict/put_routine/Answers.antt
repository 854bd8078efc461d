use Rattle.std.proofs.lemmas.Result.{on_ok_weaker}
use Rattle.report_json.proofs.Routines.{members_put}
use Rattle.report_json.proofs.Steps.{last, more}
use Rattle.report_json.proofs.verdict.put_routine.Goals as goal

pub returns-clause-tokens : goal.returns-clause-tokens
returns-clause-tokens c =
    let t = c.args.out.now.tokens in
    let a = more t _ _ _ _ c.in_ok-put_number.ensures.tokens c.in_ok-put_number-2.ensures.tokens in
    let named = more t _ _ _ _ a c.in_ok-put_name.ensures.tokens in
    let u = c.put_name.new.out.tokens in
    let sorted = rw c.as_str.ensures at c.in_ok-put_text.ensures.tokens in
    on_ok_weaker c.put_number-3.result
    (members_put c.args.routine.now t u c.put_number-3.new.out.tokens named)
    (last _ u _ _ _ _ sorted c.put_number-3.ensures.tokens)
