use Rattle.std.proofs.Common.{rules, ◌≡◌, length}
use Rattle.std.specs.Prelude.{vec_len}
use Rattle.machine_parts.proofs.Showing.{busy_seen, by_starts}
use Rattle.machine_parts.proofs.device_lists.DeviceLists.is_busy.Goals as goal

pub index-requires : goal.index-requires
index-requires c =
    let cs = c.self.inside.serving.items in
    let ls = c.self.inside.links.lists in
    let fits = c.self.invariant.1 in
    let there = by_starts cs ls fits c.args.device (rw (← c.self.view_is) at c.requires) in
    let len : vec_len c.self.inside.serving ≡ length cs = search rules in
    rw len there

pub returns : goal.returns
returns c =
    let cs = c.self.inside.serving.items in
    let ls = c.self.inside.links.lists in
    let fits = c.self.invariant.1 in
    let there = by_starts cs ls fits c.args.device (rw (← c.self.view_is) at c.requires) in
    rw (← c.self.view_is)
    (busy_seen cs ls fits c.args.device there c.index.result.now c.index.ensures)
