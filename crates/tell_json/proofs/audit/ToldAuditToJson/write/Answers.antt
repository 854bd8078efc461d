use Rattle.report_json.proofs.Steps.{last, more}
use Rattle.tell_json.proofs.audit.ToldAuditToJson.write.Goals as goal

pub returns-clause-tokens : goal.returns-clause-tokens
returns-clause-tokens c =
    let t = c.args.out.now.tokens in
    let begun = more t _ _ _ _ c.in_ok-begin_object.ensures.ok c.in_ok-put_text.ensures.tokens in
    let lost = more t _ _ _ _ begun c.in_ok-put_packets.ensures.tokens in
    let used = last _ c.put_packets-2.new.out.tokens _ _ _ _ c.in_ok-put_uses.ensures.tokens
    c.end_object.ensures.ok in
    let missed = last _ c.put_ringed.new.out.tokens _ _ _ _ c.in_ok-put_packets-2.ensures.tokens used in
    let ringed = last _ c.put_left.new.out.tokens _ _ _ _ c.in_ok-put_ringed.ensures.tokens missed in
    let left = last _ c.put_packets.new.out.tokens _ _ _ _ c.in_ok-put_left.ensures.tokens ringed in
    let done = last _ t _ _ _ _ lost left in
    rw (
      c.as_slice.ensures.value,
      c.as_slice-2.ensures.value,
      c.as_slice-3.ensures.value,
      c.as_slice-4.ensures.value,
      c.as_slice-5.ensures.value,
    ) at done
