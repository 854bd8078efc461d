use Rattle.std.specs.Prelude.{string_bytes}
use Rattle.verifier_warnings.proofs.Warned.{all_warned}
use Rattle.verifier_warnings.proofs.warning.warnings.Goals as goal

pub returns : goal.returns
returns c =
    all_warned c.args.accepted.now c.in_ok-orders.orders.items
    (string_bytes c.add_warnings.new.lines) (c.in_ok-orders.ensures {u = tt}).each
    (rw c.as_slice.ensures.value at (c.in_ok-add_warnings.ensures {u = tt}))
