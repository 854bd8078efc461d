use Rattle.std.proofs.Common.{refl, rules}
use Rattle.machine_parts.proofs.Showing.{none_fits, none_shown}
use Rattle.machine_parts.proofs.device_lists.DeviceLists.new.Goals as goal

pub invariant_of-result : goal.invariant_of-result
invariant_of-result c =
    let serving = c.in_ok-vec.ensures.items_if_clones_equal (search rules) in
    rw (c.in_ok-new.ensures, serving) (refl, none_fits c.args.devices)

pub returns : goal.returns
returns c =
    let serving = c.in_ok-vec.ensures.items_if_clones_equal (search rules) in
    rw (c.in_ok-new.ensures, serving) (none_shown c.args.devices)
