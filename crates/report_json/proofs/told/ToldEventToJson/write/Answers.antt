use Rattle.report_json.proofs.Steps.{last, more}
use Rattle.report_json.proofs.told.ToldEventToJson.write.Goals as goal

pub returns-clause-tokens : goal.returns-clause-tokens
returns-clause-tokens c =
    let t = c.args.out.now.tokens in
    let begun = more t _ _ _ _ c.in_ok-begin_object.ensures.ok c.in_ok-put_text.ensures.tokens in
    let numbered = more t _ _ _ _ begun c.in_ok-put_number.ensures.tokens in
    let threaded = more t _ _ _ _ numbered c.in_ok-put_optional.ensures.tokens in
    let said = last _ c.put_text-2.new.out.tokens _ _ _ _ c.in_ok-put_text-3.ensures.tokens
    c.write_reply.ensures.tokens in
    let changed = last _ c.put_optional-2.new.out.tokens _ _ _ _ c.in_ok-put_text-2.ensures.tokens said in
    let lined = last _ c.put_name.new.out.tokens _ _ _ _ c.in_ok-put_optional-2.ensures.tokens changed in
    let acting = last _ c.put_optional.new.out.tokens _ _ _ _ c.in_ok-put_name.ensures.tokens lined in
    let done = last _ t _ _ _ _ threaded acting in
    rw (c.reply_name.ensures, c.as_str.ensures.value) at done
