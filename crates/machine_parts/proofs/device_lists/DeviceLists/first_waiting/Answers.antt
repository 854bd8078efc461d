use Rattle.std.proofs.Common.{slice_index_or, arith, ◌≡◌, ◌∙◌, rules, Some}
use Rattle.machine_parts.proofs.Lists.{resting}
use Rattle.machine_parts.proofs.Showing.{by_starts, is_list, its_own, waiting_seen}
use Rattle.machine_parts.proofs.device_lists.DeviceLists.first_waiting.Goals as goal

pub front-requires : goal.front-requires
front-requires c =
    let cs = c.self.inside.serving.items in
    let ls = c.self.inside.links.lists in
    let fits = c.self.invariant.1 in
    let there = by_starts cs ls fits c.args.device (rw (← c.self.view_is) at c.requires) in
    rw c.device_queue_of.ensures (is_list cs ls fits c.args.device there 5 (omega arith))

pub returns-in_err-key : goal.returns-in_err-key
returns-in_err-key c =
    let cs = c.self.inside.serving.items in
    let ls = c.self.inside.links.lists in
    let fits = c.self.invariant.1 in
    let there = by_starts cs ls fits c.args.device (rw (← c.self.view_is) at c.requires) in
    let x = slice_index_or cs c.args.device resting in
    let its = its_own cs ls fits c.args.device there in
    let seen =
    waiting_seen cs ls fits c.args.device there x its c.device_queue_of.result
    c.device_queue_of.ensures in
    let same : c.from_residual.result ≡ c.front.result = search rules in
    rw (← c.self.view_is, ← seen) (same ∙ c.front.ensures.head)

pub returns : goal.returns
returns c =
    let cs = c.self.inside.serving.items in
    let ls = c.self.inside.links.lists in
    let fits = c.self.invariant.1 in
    let there = by_starts cs ls fits c.args.device (rw (← c.self.view_is) at c.requires) in
    let x = slice_index_or cs c.args.device resting in
    let its = its_own cs ls fits c.args.device there in
    let seen =
    waiting_seen cs ls fits c.args.device there x its c.device_queue_of.result
    c.device_queue_of.ensures in
    let same : Some c.in_ok-key.key ≡ c.front.result = search rules in
    rw (← c.self.view_is, ← seen) (same ∙ c.front.ensures.head)
