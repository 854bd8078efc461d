use Rattle.std.proofs.Common.{ap, arith, ◌≡◌, ◌∙◌, rules, Some}
use Rattle.model.specs.Queues.{without_head}
use Rattle.machine_parts.proofs.Showing.{by_queues, is_list, queue_left, queue_seen}
use Rattle.machine_parts.proofs.device_lists.DeviceLists.remove.Goals as goal

pub pop_front-requires : goal.pop_front-requires
pop_front-requires c =
    let cs = c.self.inside.serving.items in
    let ls = c.self.inside.links.lists in
    let fits = c.self.invariant.1 in
    let there = by_queues cs ls fits c.args.device (rw (← c.self.view_is) at c.requires.device) in
    rw c.queue_of.ensures
    (is_list cs ls fits c.args.device there c.args.queue (omega (arith, c.requires.queue)))

pub returns-in_err-key-clause-head : goal.returns-in_err-key-clause-head
returns-in_err-key-clause-head c =
    let cs = c.self.inside.serving.items in
    let ls = c.self.inside.links.lists in
    let fits = c.self.invariant.1 in
    let there = by_queues cs ls fits c.args.device (rw (← c.self.view_is) at c.requires.device) in
    let seen =
    queue_seen cs ls fits c.args.device there c.args.queue c.queue_of.result c.requires.queue
    c.queue_of.ensures in
    let same : c.from_residual.result ≡ c.pop_front.result = search rules in
    rw (← c.self.view_is, ← seen) (same ∙ c.pop_front.ensures.head)

pub returns-in_err-key-clause-rest : goal.returns-in_err-key-clause-rest
returns-in_err-key-clause-rest c =
    let cs = c.self.inside.serving.items in
    let ls = c.self.inside.links.lists in
    let fits = c.self.invariant.1 in
    let there = by_queues cs ls fits c.args.device (rw (← c.self.view_is) at c.requires.device) in
    rw (← c.self.view_is)
    (queue_left cs ls fits c.args.device there c.args.queue c.queue_of.result c.requires.queue
    c.queue_of.ensures (without_head) _ (ap (λ links. links.lists) c.pop_front.ensures.rest))

pub returns-clause-head : goal.returns-clause-head
returns-clause-head c =
    let cs = c.self.inside.serving.items in
    let ls = c.self.inside.links.lists in
    let fits = c.self.invariant.1 in
    let there = by_queues cs ls fits c.args.device (rw (← c.self.view_is) at c.requires.device) in
    let seen =
    queue_seen cs ls fits c.args.device there c.args.queue c.queue_of.result c.requires.queue
    c.queue_of.ensures in
    let same : Some c.in_ok-key.key ≡ c.pop_front.result = search rules in
    rw (← c.self.view_is, ← seen) (same ∙ c.pop_front.ensures.head)

pub returns-clause-rest : goal.returns-clause-rest
returns-clause-rest c =
    let cs = c.self.inside.serving.items in
    let ls = c.self.inside.links.lists in
    let fits = c.self.invariant.1 in
    let there = by_queues cs ls fits c.args.device (rw (← c.self.view_is) at c.requires.device) in
    rw (← c.self.view_is)
    (queue_left cs ls fits c.args.device there c.args.queue c.queue_of.result c.requires.queue
    c.queue_of.ensures (without_head) _ (ap (λ links. links.lists) c.pop_front.ensures.rest))
