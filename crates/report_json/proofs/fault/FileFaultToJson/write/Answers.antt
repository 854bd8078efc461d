use Rattle.report_json.proofs.Steps.{more, last}
use Rattle.report_json.proofs.fault.FileFaultToJson.write.Goals as goal

pub returns-clause-tokens : goal.returns-clause-tokens
returns-clause-tokens c =
    let t = c.args.out.now.tokens in
    let a = more t _ _ _ _ c.in_ok-begin.ensures.tokens c.in_ok-put_text.ensures.tokens in
    let done = last _ t _ _ _ _ a c.write_fault.ensures.tokens in
    rw c.input_name.ensures at done
