use Rattle.report_json.proofs.Steps.{last, more}
use Rattle.report_json.proofs.served.ServedHistoryToJson.write.Goals as goal

pub returns-clause-tokens : goal.returns-clause-tokens
returns-clause-tokens c =
    let t = c.args.out.now.tokens in
    let a = more t _ _ _ _ c.in_ok-begin_object.ensures.ok c.in_ok-put_text.ensures.tokens in
    let b = more t _ _ _ _ a c.in_ok-put_number.ensures.tokens in
    let d = more t _ _ _ _ b c.in_ok-put_text-2.ensures.tokens in
    let e = more t _ _ _ _ d c.in_ok-key.ensures.ok in
    let f = more t _ _ _ _ e c.in_ok-begin_array.ensures.ok in
    let h = more t _ _ _ _ f c.in_ok-write_threads.ensures.tokens in
    last _ t _ _ _ _ h c.end_object.ensures.ok
