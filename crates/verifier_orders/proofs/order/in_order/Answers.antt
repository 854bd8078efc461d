use Rattle.std.proofs.Common.{subst}
use Rattle.model.specs.Sound.{IsSound}
use Rattle.verifier_orders.specs.Edges.{place_in}
use Rattle.verifier_orders.proofs.Ordering.{ranked_order}
use Rattle.verifier_orders.proofs.Standing.{stands}
use Rattle.verifier_orders.proofs.order.in_order.Goals as goal

pub returns : goal.returns
returns c =
    record {
      place = place_in c.args.places.now;
      order = ranked_order c.args.accepted.now c.args.driver c.args.edges.now c.args.places.now
          c.requires.edges c.requires.ranked;
      nine = (c.in_ok-locks.ensures {u = tt}).long;
      placed = (c.in_ok-locks.ensures {u = tt}).each;
      has = stands c.args.accepted.now c.set.ensures.typable
          (subst IsSound c.set.ensures.same c.drivers-drivers.ensures.sound) c.args.driver
          c.args.edges.now c.args.places.now _ c.requires.edges c.requires.ranked
          (c.in_ok-locks.ensures {u = tt});
    }
