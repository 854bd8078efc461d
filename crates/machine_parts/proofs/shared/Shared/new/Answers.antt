use Rattle.std.proofs.Common.{refl, rules}
use Rattle.machine_parts.proofs.shared.Shared.new.Goals as goal

pub returns : goal.returns
returns c =
    let cells = c.in_ok-vec.ensures.items_if_clones_equal (search rules) in
    let dpcs = c.in_ok-vec-2.ensures.items_if_clones_equal (search rules) in
    rw (
      c.in_ok-new.ensures,
      c.in_ok-new-2.ensures,
      cells,
      c.in_ok-new-3.ensures,
      dpcs,
    ) refl
