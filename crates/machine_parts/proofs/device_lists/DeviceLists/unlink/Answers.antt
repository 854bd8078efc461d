use Rattle.std.proofs.Common.{ap}
use Rattle.model.specs.Queues.{unlinked}
use Rattle.machine_parts.proofs.Showing.{by_queues, queue_left, queue_seen}
use Rattle.machine_parts.proofs.device_lists.DeviceLists.unlink.Goals as goal

pub returns-clause-found : goal.returns-clause-found
returns-clause-found c =
    let cs = c.self.inside.serving.items in
    let ls = c.self.inside.links.lists in
    let fits = c.self.invariant.1 in
    let there = by_queues cs ls fits c.args.device (rw (← c.self.view_is) at c.requires.device) in
    let seen =
    queue_seen cs ls fits c.args.device there c.args.queue c.queue_of.result c.requires.queue
    c.queue_of.ensures in
    rw (← c.self.view_is, ← seen) c.unlink.ensures.found

pub returns-clause-rest : goal.returns-clause-rest
returns-clause-rest c =
    let cs = c.self.inside.serving.items in
    let ls = c.self.inside.links.lists in
    let fits = c.self.invariant.1 in
    let there = by_queues cs ls fits c.args.device (rw (← c.self.view_is) at c.requires.device) in
    rw (← c.self.view_is)
    (queue_left cs ls fits c.args.device there c.args.queue c.queue_of.result c.requires.queue
    c.queue_of.ensures (λ entries. unlinked entries c.args.key) _
    (ap (λ links. links.lists) c.unlink.ensures.rest))
