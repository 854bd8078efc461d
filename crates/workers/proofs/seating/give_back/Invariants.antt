use Rattle.std.proofs.Common.{◌≡◌, ◌+◌, length, vec_len}
use Rattle.std.specs.List.{range_with_len}
use Rattle.workers.specs.Kept.{AreBack, counts_of}
use Rattle.workers.proofs.seating.give_back.Given as goal

abbrev pub invariant-loop-seats : goal.invariant-loop-seats
invariant-loop-seats l =
    record {
      counted : length l.counts.items + length l.seats.items ≡ length l.fn.seats.items;
      seats : l.seats.items ≡ range_with_len (length l.counts.items) (length l.seats.items);
      counts : l.counts.items ≡ counts_of l.fn.core (length l.counts.items);
      back : AreBack (length l.counts.items) l.fn.core l.core;
      long : length l.core.seats ≡ length l.fn.core.seats;
    }

abbrev pub decreases-loop-seats : goal.decreases-loop-seats
decreases-loop-seats l = vec_len l.seats
