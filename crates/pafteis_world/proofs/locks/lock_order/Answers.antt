use Rattle.std.proofs.Common.{◌≡◌, ◌<◌, Some, arith, length, refl, rules, slice_get, subst}
use Rattle.std.proofs.lemmas.Option.{slice_get_read}
use Rattle.model.specs.Sound.{IsSound}
use Rattle.verifier_orders.specs.Orders.{IsLockOrder}
use Rattle.pafteis_world.proofs.Few.{short}
use Rattle.pafteis_world.proofs.locks.lock_order.Goals as goal

pub returns-then-place-drivers-clause-orders : goal.returns-then-place-drivers-clause-orders
returns-then-place-drivers-clause-orders c =
    let set = c.in-Ok.accepted in
    let driver = c.args.driver in
    let order = c.remove.result in
    let orders = c.in-Ok-orders_of.orders.items in
    let within : driver < length set.drivers = search rules in
    let lower : driver < length orders =
    omega (arith, within, c.in-Ok-orders_of.ensures.each.long) in
    let there : slice_get orders driver ≡ Some order =
    slice_get_read orders (length orders) driver order refl lower c.remove.ensures.value in
    let is : IsLockOrder set driver order = c.in-Ok-orders_of.ensures.each.each driver order there in
    let sound : IsSound set =
    subst IsSound c.set.ensures.same c.drivers.ensures.sound in
    record {
      set = set;
      names = c.in-Ok.ensures.accepted.0;
      typable = c.in-Ok.ensures.accepted.1;
      is = (within, is, short set c.in-Ok.ensures.accepted.1 sound driver order is);
    }
