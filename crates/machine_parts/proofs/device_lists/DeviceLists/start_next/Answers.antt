use Rattle.std.proofs.Common.{slice_index_or, slice_set, arith, ap, ◌∙◌, sym, rules, ◌≡◌, length, subst, false}
use Rattle.std.specs.Prelude.{vec_len}
use Rattle.std.proofs.lemmas.List.{length-set}
use Rattle.model.specs.Queues.{next_started}
use Rattle.machine_parts.specs.declared.device_lists.Serving.{Serving}
use Rattle.machine_parts.specs.Lists.{DeviceLists, start_entries, with_start_entries}
use Rattle.machine_parts.proofs.Lists.{resting}
use Rattle.machine_parts.proofs.Showing.{by_starts, is_list, its_own, next_rests, next_starts, shown}
use Rattle.machine_parts.proofs.device_lists.DeviceLists.start_next.Goals as goal

pub pop_front-requires : goal.pop_front-requires
pop_front-requires c =
    let cs = c.self.inside.serving.items in
    let ls = c.self.inside.links.lists in
    let fits = c.self.invariant.1 in
    let there = by_starts cs ls fits c.args.device (rw (← c.self.view_is) at c.requires) in
    rw c.device_queue_of.ensures (is_list cs ls fits c.args.device there 5 (omega arith))

pub push_back-requires-clause-list : goal.push_back-requires-clause-list
push_back-requires-clause-list c =
    let cs = c.self.inside.serving.items in
    let ls = c.self.inside.links.lists in
    let fits = c.self.invariant.1 in
    let there = by_starts cs ls fits c.args.device (rw (← c.self.view_is) at c.requires) in
    let kept =
    ap (λ links. length links.lists) c.pop_front.ensures.rest
    ∙ length-set ls c.device_queue_of.result _ in
    rw (c.start_list_of.ensures, kept) (is_list cs ls fits c.args.device there 4 (omega arith))

pub index_mut-requires : goal.index_mut-requires
index_mut-requires c =
    let cs = c.self.inside.serving.items in
    let ls = c.self.inside.links.lists in
    let fits = c.self.invariant.1 in
    let there = by_starts cs ls fits c.args.device (rw (← c.self.view_is) at c.requires) in
    let len : vec_len c.self.inside.serving ≡ length cs = search rules in
    rw len there

pub returns-in-Some : goal.returns-in-Some
returns-in-Some c =
    let cs = c.self.inside.serving.items in
    let ls = c.self.inside.links.lists in
    let fits = c.self.invariant.1 in
    let there = by_starts cs ls fits c.args.device (rw (← c.self.view_is) at c.requires) in
    let x = slice_index_or cs c.args.device resting in
    let its = its_own cs ls fits c.args.device there in
    subst (λ (v : DeviceLists). shown cs c.push_back.new.self.lists
    ≡ with_start_entries v c.args.device (next_started (start_entries v c.args.device)))
    c.self.view_is
    (next_starts cs ls fits c.args.device there x its c.device_queue_of.result
    c.device_queue_of.ensures _ (ap (λ links. links.lists) c.pop_front.ensures.rest)
    c.start_list_of.result c.in-Some.key _ c.start_list_of.ensures
    (sym c.in-Some.is ∙ c.pop_front.ensures.head) (ap (λ links. links.lists) c.push_back.ensures))

pub returns-in-None : goal.returns-in-None
returns-in-None c =
    let cs = c.self.inside.serving.items in
    let ls = c.self.inside.links.lists in
    let fits = c.self.invariant.1 in
    let there = by_starts cs ls fits c.args.device (rw (← c.self.view_is) at c.requires) in
    let idle : Serving = record { busy = false; slot = c.index_mut.result.now.slot } in
    subst (λ (v : DeviceLists). shown (slice_set cs c.args.device idle) c.pop_front.new.self.lists
    ≡ with_start_entries v c.args.device (next_started (start_entries v c.args.device)))
    c.self.view_is
    (next_rests cs ls fits c.args.device there c.index_mut.result.now c.index_mut.ensures.value
    c.device_queue_of.result c.device_queue_of.ensures _
    (ap (λ links. links.lists) c.pop_front.ensures.rest)
    (sym c.in-None.is ∙ c.pop_front.ensures.head))
