use Rattle.std.proofs.Common.{◌≡◌, ◌∙◌, ap, length, sym, arith}
use Rattle.std.proofs.lemmas.List.FromFn.{length-range_with_len}
use Rattle.workers.proofs.Seats.{none_given, one_given, range_next}
use Rattle.workers.proofs.seating.give_out.Goals as goal

pub unreachable-requires : goal.unreachable-requires
unreachable-requires c =
    let kept = c.loop-thread.invariant in
    c.in_default.ensures.none.0 (kept.given.others _ (omega arith) ∙ c.requires.free _ c.loop-thread-test.true)

pub push_reserved-requires : goal.push_reserved-requires
push_reserved-requires c =
    let kept = c.loop-thread.invariant in
    let long : length c.loop-thread.seats.items ≡ c.loop-thread.thread = ap length kept.seats ∙ length-range_with_len 0 c.loop-thread.thread in
    omega (arith, kept.room, c.loop-thread-test.true)

pub loop-thread-init : goal.loop-thread-init
loop-thread-init c =
    record { seats = c.requires.empty; given = none_given _; room = c.requires.room }

pub loop-thread-preserved : goal.loop-thread-preserved
loop-thread-preserved c =
    let kept = c.loop-thread.invariant in
    let given = c.in-Some.ensures.given in
    record {
      seats = rw (c.push_reserved.ensures.items, given.0, kept.seats)
          (sym (range_next c.loop-thread.thread));
      given = rw given.2 (one_given _ _ _ kept.given given.1);
      room = rw c.push_reserved.ensures.capacity kept.room;
    }
