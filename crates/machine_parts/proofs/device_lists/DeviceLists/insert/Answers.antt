use Rattle.std.proofs.Common.{refl, ap, arith}
use Rattle.model.specs.Queues.{inserted}
use Rattle.machine_parts.proofs.Showing.{by_queues, is_list, is_unlisted, queue_left}
use Rattle.machine_parts.proofs.device_lists.DeviceLists.insert.Goals as goal

pub push_back-requires-clause-list : goal.push_back-requires-clause-list
push_back-requires-clause-list c =
    let cs = c.self.inside.serving.items in
    let ls = c.self.inside.links.lists in
    let fits = c.self.invariant.1 in
    let there = by_queues cs ls fits c.args.device (rw (← c.self.view_is) at c.requires.device) in
    rw c.queue_of.ensures
    (is_list cs ls fits c.args.device there c.args.queue (omega (arith, c.requires.queue)))

pub push_back-requires-clause-free : goal.push_back-requires-clause-free
push_back-requires-clause-free c =
    let cs = c.self.inside.serving.items in
    let ls = c.self.inside.links.lists in
    let fits = c.self.invariant.1 in
    is_unlisted cs ls fits c.args.device c.self.inside.links c.args.key refl
    (rw (← c.self.view_is) at c.requires.unqueued) (rw (← c.self.view_is) at c.requires.unstarted)

pub returns : goal.returns
returns c =
    let cs = c.self.inside.serving.items in
    let ls = c.self.inside.links.lists in
    let fits = c.self.invariant.1 in
    let there = by_queues cs ls fits c.args.device (rw (← c.self.view_is) at c.requires.device) in
    rw (← c.self.view_is)
    (queue_left cs ls fits c.args.device there c.args.queue c.queue_of.result c.requires.queue
    c.queue_of.ensures (λ entries. inserted entries c.args.key) _
    (ap (λ links. links.lists) c.push_back.ensures))
