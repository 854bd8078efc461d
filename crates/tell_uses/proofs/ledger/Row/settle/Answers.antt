use Rattle.std.proofs.Common.{◌∙◌, ◌<◌, arith, length}
use Rattle.tell_uses.proofs.Settling.{reaches_next, settled_next}
use Rattle.tell_uses.proofs.ledger.Row.settle.Goals as goal

pub loop-place-preserved : goal.loop-place-preserved
loop-place-preserved c =
    let set = c.args.set.now in
    let uses = c.args.uses.now in
    let servers = c.loop-place.self in
    let frames = c.args.frames.now in
    let place = c.loop-place.place in
    let within : place < length frames = omega (arith, c.loop-place-test.true) in
    record {
      within =
          rw c.in_ok-settle_place.ensures
          (reaches_next set uses servers frames place within c.loop-place.invariant.within);
      settled =
          rw c.in_ok-settle_place.ensures
          (c.loop-place.invariant.settled
          ∙ settled_next set uses servers frames place within c.loop-place.invariant.within);
    }
