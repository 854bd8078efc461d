use Rattle.report_json.proofs.Steps.{last, more}
use Rattle.answer_stats.proofs.as_json.put_sizes.Goals as goal

pub returns-clause-tokens : goal.returns-clause-tokens
returns-clause-tokens c =
    let t = c.args.out.now.tokens in
    let begun = more t _ _ _ _ c.in_ok-key.ensures.ok c.in_ok-begin_object.ensures.ok in
    let drivers = more t _ _ _ _ begun c.in_ok-put_number.ensures.tokens in
    let devices = more t _ _ _ _ drivers c.in_ok-put_number-2.ensures.tokens in
    let routines = more t _ _ _ _ devices c.in_ok-put_number-3.ensures.tokens in
    let instructions = more t _ _ _ _ routines c.in_ok-put_number-4.ensures.tokens in
    let locks = more t _ _ _ _ instructions c.in_ok-put_number-5.ensures.tokens in
    let input = more t _ _ _ _ locks c.in_ok-put_text.ensures.tokens in
    let bytes = more t _ _ _ _ input c.in_ok-put_number-6.ensures.tokens in
    let done = last _ t _ _ _ _ bytes c.end_object.ensures.ok in
    rw c.input_name.ensures at done
