use Rattle.std.proofs.Common.{ap, slice_index_or}
use Rattle.machine_parts.proofs.Lists.{resting}
use Rattle.machine_parts.proofs.Showing.{by_starts, its_own, waiting_seen, waits_less}
use Rattle.machine_parts.proofs.device_lists.DeviceLists.dequeue.Goals as goal

pub returns-clause-found : goal.returns-clause-found
returns-clause-found c =
    let cs = c.self.inside.serving.items in
    let ls = c.self.inside.links.lists in
    let fits = c.self.invariant.1 in
    let there = by_starts cs ls fits c.args.device (rw (← c.self.view_is) at c.requires) in
    let x = slice_index_or cs c.args.device resting in
    let its = its_own cs ls fits c.args.device there in
    let seen =
    waiting_seen cs ls fits c.args.device there x its c.device_queue_of.result
    c.device_queue_of.ensures in
    rw (← c.self.view_is, ← seen) c.unlink.ensures.found

pub returns-clause-rest : goal.returns-clause-rest
returns-clause-rest c =
    let cs = c.self.inside.serving.items in
    let ls = c.self.inside.links.lists in
    let fits = c.self.invariant.1 in
    let there = by_starts cs ls fits c.args.device (rw (← c.self.view_is) at c.requires) in
    let x = slice_index_or cs c.args.device resting in
    let its = its_own cs ls fits c.args.device there in
    rw (← c.self.view_is)
    (waits_less cs ls fits c.args.device there x its c.device_queue_of.result
    c.device_queue_of.ensures c.args.key _ (ap (λ links. links.lists) c.unlink.ensures.rest))
