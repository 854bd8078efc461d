use Rattle.std.proofs.Common.{◌≡◌, ◌<◌, ◌+◌, ◌∙◌, [], ◌∷◌, None, ap, length, refl, arith, rules, length-append}
use Rattle.workers.proofs.Seats.{first_left, none_back, one_back, one_count, rest_left, still_long}
use Rattle.workers.proofs.seating.give_back.Goals as goal

pub loop-seats-init : goal.loop-seats-init
loop-seats-init c =
    rw c.new-counts.ensures (record {
      counted = omega arith;
      seats = c.requires.seats;
      counts = refl;
      back = none_back c.args.core.now;
      long = refl;
    })

pub loop-seats-preserved : goal.loop-seats-preserved
loop-seats-preserved c =
    let kept = c.loop-seats.invariant in
    let some : 0 < length c.loop-seats.seats.items = search rules in
    let here = first_left _ _ c.remove-seat.result kept.seats some c.remove-seat.ensures.value in
    let longer : length c.push.new.self.items ≡ length c.loop-seats.counts.items + 1 = ap length c.push.ensures.items ∙ length-append c.loop-seats.counts.items (c.give_back.result ∷ []) in
    let len : length c.remove-seat.new.self.items + 1 ≡ length c.loop-seats.seats.items = omega (arith, c.remove-seat.ensures.len) in
    record {
      counted = omega (arith, len, longer, kept.counted);
      seats = rw (longer, c.remove-seat.ensures.items) (rest_left _ _ kept.seats some);
      counts = rw (longer, c.push.ensures.items) (one_count _ _ _ _ _ kept.back kept.counts
          (rw here at c.give_back.ensures.counted));
      back = rw (longer, c.give_back.ensures.back, here) (one_back _ _ _ kept.back
          (omega (arith, some, kept.counted, kept.long, c.requires.core)));
      long = rw c.give_back.ensures.back (still_long c.loop-seats.core c.remove-seat.result None ∙ kept.long);
    }
