use Rattle.std.proofs.Common.{slice_index_or, arith, ap, ◌≡◌, ◌∙◌, rules, Some}
use Rattle.machine_parts.proofs.Lists.{resting}
use Rattle.machine_parts.proofs.Showing.{by_starts, first_left, first_seen, is_list, its_own}
use Rattle.machine_parts.proofs.device_lists.DeviceLists.start_io.Goals as goal

pub pop_front-requires : goal.pop_front-requires
pop_front-requires c =
    let cs = c.self.inside.serving.items in
    let ls = c.self.inside.links.lists in
    let fits = c.self.invariant.1 in
    let there = by_starts cs ls fits c.args.device (rw (← c.self.view_is) at c.requires) in
    rw c.start_list_of.ensures (is_list cs ls fits c.args.device there 4 (omega arith))

pub returns-in_err-key-clause-first : goal.returns-in_err-key-clause-first
returns-in_err-key-clause-first c =
    let cs = c.self.inside.serving.items in
    let ls = c.self.inside.links.lists in
    let fits = c.self.invariant.1 in
    let there = by_starts cs ls fits c.args.device (rw (← c.self.view_is) at c.requires) in
    let x = slice_index_or cs c.args.device resting in
    let its = its_own cs ls fits c.args.device there in
    let seen =
    first_seen cs ls fits c.args.device there x its c.start_list_of.result
    c.start_list_of.ensures in
    let same : c.from_residual.result ≡ c.pop_front.result = search rules in
    rw (← c.self.view_is, ← seen) (same ∙ c.pop_front.ensures.head)

pub returns-in_err-key-clause-rest : goal.returns-in_err-key-clause-rest
returns-in_err-key-clause-rest c =
    let cs = c.self.inside.serving.items in
    let ls = c.self.inside.links.lists in
    let fits = c.self.invariant.1 in
    let there = by_starts cs ls fits c.args.device (rw (← c.self.view_is) at c.requires) in
    let x = slice_index_or cs c.args.device resting in
    let its = its_own cs ls fits c.args.device there in
    rw (← c.self.view_is)
    (first_left cs ls fits c.args.device there x its c.start_list_of.result
    c.start_list_of.ensures _
    (ap (λ links. links.lists) c.pop_front.ensures.rest))

pub returns-clause-first : goal.returns-clause-first
returns-clause-first c =
    let cs = c.self.inside.serving.items in
    let ls = c.self.inside.links.lists in
    let fits = c.self.invariant.1 in
    let there = by_starts cs ls fits c.args.device (rw (← c.self.view_is) at c.requires) in
    let x = slice_index_or cs c.args.device resting in
    let its = its_own cs ls fits c.args.device there in
    let seen =
    first_seen cs ls fits c.args.device there x its c.start_list_of.result
    c.start_list_of.ensures in
    let same : Some c.in_ok-key.key ≡ c.pop_front.result = search rules in
    rw (← c.self.view_is, ← seen) (same ∙ c.pop_front.ensures.head)

pub returns-clause-rest : goal.returns-clause-rest
returns-clause-rest c =
    let cs = c.self.inside.serving.items in
    let ls = c.self.inside.links.lists in
    let fits = c.self.invariant.1 in
    let there = by_starts cs ls fits c.args.device (rw (← c.self.view_is) at c.requires) in
    let x = slice_index_or cs c.args.device resting in
    let its = its_own cs ls fits c.args.device there in
    rw (← c.self.view_is)
    (first_left cs ls fits c.args.device there x its c.start_list_of.result
    c.start_list_of.ensures _
    (ap (λ links. links.lists) c.pop_front.ensures.rest))
