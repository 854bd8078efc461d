use Rattle.std.proofs.Common.{refl, arith, ap, ◌∙◌, rules, ◌≡◌, length}
use Rattle.std.specs.Prelude.{vec_len}
use Rattle.machine_parts.proofs.Showing.{by_starts, is_list, is_unlisted, same_one, starts_more, waits_more}
use Rattle.machine_parts.proofs.device_lists.DeviceLists.start.Goals as goal

pub index-requires : goal.index-requires
index-requires c =
    let cs = c.self.inside.serving.items in
    let ls = c.self.inside.links.lists in
    let fits = c.self.invariant.1 in
    let there = by_starts cs ls fits c.args.device (rw (← c.self.view_is) at c.requires.device) in
    let len : vec_len c.self.inside.serving ≡ length cs = search rules in
    rw len there

pub push_back-requires-clause-list : goal.push_back-requires-clause-list
push_back-requires-clause-list c =
    let cs = c.self.inside.serving.items in
    let ls = c.self.inside.links.lists in
    let fits = c.self.invariant.1 in
    let there = by_starts cs ls fits c.args.device (rw (← c.self.view_is) at c.requires.device) in
    rw c.device_queue_of.ensures (is_list cs ls fits c.args.device there 5 (omega arith))

pub push_back-requires-clause-free : goal.push_back-requires-clause-free
push_back-requires-clause-free c =
    let cs = c.self.inside.serving.items in
    let ls = c.self.inside.links.lists in
    let fits = c.self.invariant.1 in
    is_unlisted cs ls fits c.args.device c.self.inside.links c.args.key refl
    (rw (← c.self.view_is) at c.requires.unqueued) (rw (← c.self.view_is) at c.requires.unstarted)

pub push_back-requires-else-index-clause-list : goal.push_back-requires-else-index-clause-list
push_back-requires-else-index-clause-list c =
    let cs = c.self.inside.serving.items in
    let ls = c.self.inside.links.lists in
    let fits = c.self.invariant.1 in
    let there = by_starts cs ls fits c.args.device (rw (← c.self.view_is) at c.requires.device) in
    rw c.start_list_of.ensures (is_list cs ls fits c.args.device there 4 (omega arith))

pub push_back-requires-else-index-clause-free : goal.push_back-requires-else-index-clause-free
push_back-requires-else-index-clause-free c =
    let cs = c.self.inside.serving.items in
    let ls = c.self.inside.links.lists in
    let fits = c.self.invariant.1 in
    is_unlisted cs ls fits c.args.device c.self.inside.links c.args.key refl
    (rw (← c.self.view_is) at c.requires.unqueued) (rw (← c.self.view_is) at c.requires.unstarted)

pub index_mut-requires : goal.index_mut-requires
index_mut-requires c =
    let cs = c.self.inside.serving.items in
    let ls = c.self.inside.links.lists in
    let fits = c.self.invariant.1 in
    let there = by_starts cs ls fits c.args.device (rw (← c.self.view_is) at c.requires.device) in
    let len : vec_len c.self.inside.serving ≡ length cs = search rules in
    rw len there

pub returns-then-index : goal.returns-then-index
returns-then-index c =
    let cs = c.self.inside.serving.items in
    let ls = c.self.inside.links.lists in
    let fits = c.self.invariant.1 in
    let there = by_starts cs ls fits c.args.device (rw (← c.self.view_is) at c.requires.device) in
    rw (← c.self.view_is)
    (waits_more cs ls fits c.args.device there c.index.result.now c.index.ensures
    c.device_queue_of.result c.args.key _ c.device_queue_of.ensures c.if-index.true
    (ap (λ links. links.lists) c.push_back.ensures))

pub returns-else-index : goal.returns-else-index
returns-else-index c =
    let cs = c.self.inside.serving.items in
    let ls = c.self.inside.links.lists in
    let fits = c.self.invariant.1 in
    let there = by_starts cs ls fits c.args.device (rw (← c.self.view_is) at c.requires.device) in
    let one =
    same_one cs c.args.device there c.index_mut.result.now c.index.result.now
    c.index_mut.ensures.value c.index.ensures in
    let free = ap (λ x. x.busy) one ∙ c.if-index.false in
    rw (← c.self.view_is)
    (starts_more cs ls fits c.args.device there c.index_mut.result.now c.index_mut.ensures.value
    c.start_list_of.result c.args.key _ c.start_list_of.ensures free
    (ap (λ links. links.lists) c.push_back-else-index.ensures))
