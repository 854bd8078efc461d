use Rattle.std.proofs.Common.{None, ◌∙◌, rules, ◌≡◌, length}
use Rattle.std.specs.Prelude.{vec_len}
use Rattle.machine_parts.proofs.Showing.{by_starts, slot_left, slot_seen}
use Rattle.machine_parts.proofs.device_lists.DeviceLists.take.Goals as goal

pub index_mut-requires : goal.index_mut-requires
index_mut-requires c =
    let cs = c.self.inside.serving.items in
    let ls = c.self.inside.links.lists in
    let fits = c.self.invariant.1 in
    let there = by_starts cs ls fits c.args.device (rw (← c.self.view_is) at c.requires) in
    let len : vec_len c.self.inside.serving ≡ length cs = search rules in
    rw len there

pub returns-clause-current : goal.returns-clause-current
returns-clause-current c =
    let cs = c.self.inside.serving.items in
    let ls = c.self.inside.links.lists in
    let fits = c.self.invariant.1 in
    let there = by_starts cs ls fits c.args.device (rw (← c.self.view_is) at c.requires) in
    rw (← c.self.view_is)
    (c.take.ensures.value
    ∙ slot_seen cs ls fits c.args.device there c.index_mut.result.now c.index_mut.ensures.value)

pub returns-clause-empty : goal.returns-clause-empty
returns-clause-empty c =
    let cs = c.self.inside.serving.items in
    let ls = c.self.inside.links.lists in
    let fits = c.self.invariant.1 in
    let there = by_starts cs ls fits c.args.device (rw (← c.self.view_is) at c.requires) in
    rw (← c.self.view_is, c.take.ensures.after)
    (slot_left cs ls fits c.args.device there c.index_mut.result.now c.index_mut.ensures.value None)
