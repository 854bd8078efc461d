use Rattle.report_json.proofs.Steps.{last, more}
use Rattle.answer_stats.proofs.order.write_order.Goals as goal

pub returns-clause-tokens : goal.returns-clause-tokens
returns-clause-tokens c =
    let t = c.args.out.now.tokens in
    let begun = more t _ _ _ _ c.in_ok-begin_object.ensures.ok c.in_ok-put_number.ensures.tokens in
    let named = more t _ _ _ _ begun c.in_ok-key.ensures.ok in
    let paired = more t _ _ _ _ named c.in_ok-write_paired.ensures.tokens in
    let u = c.write_paired.new.out.tokens in
    let opened = more u _ _ _ _ c.in_ok-key-2.ensures.ok c.in_ok-begin_array.ensures.ok in
    let edges = more u _ _ _ _ opened c.in_ok-write_edges.ensures.tokens in
    let rest = last _ u _ _ _ _ edges c.end_object.ensures.ok in
    let done = last _ t _ _ _ _ paired rest in
    rw c.edges_of.ensures at done
