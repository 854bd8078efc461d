use Rattle.report_json.proofs.Steps.{last, more}
use Rattle.answer_stats.proofs.as_json.StatsToJson.write.Goals as goal

pub returns-clause-tokens : goal.returns-clause-tokens
returns-clause-tokens c =
    let t = c.args.out.now.tokens in
    let named = more t _ _ _ _ c.in_ok-begin.ensures.tokens c.in_ok-key.ensures.ok in
    let opened = more t _ _ _ _ named c.in_ok-begin_array.ensures.ok in
    let routines = more t _ _ _ _ opened c.in_ok-write_routines.ensures.tokens in
    let u = c.write_routines.new.out.tokens in
    let next = more u _ _ _ _ c.in_ok-key-2.ensures.ok c.in_ok-begin_array-2.ensures.ok in
    let orders = more u _ _ _ _ next c.in_ok-write_orders.ensures.tokens in
    let end = last _ c.write_orders.new.out.tokens _ _ _ _ c.in_ok-put_sizes.ensures.tokens
    c.end_object.ensures.ok in
    let rest = last _ u _ _ _ _ orders end in
    last _ t _ _ _ _ routines rest
