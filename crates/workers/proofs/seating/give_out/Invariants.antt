use Rattle.std.proofs.Common.{◌≡◌, ◌≤◌}
use Rattle.std.specs.List.{range_with_len}
use Rattle.std.specs.Vec.{vec_capacity}
use Rattle.workers.specs.Kept.{AreGiven}
use Rattle.workers.proofs.seating.give_out.Given as goal

abbrev pub invariant-loop-thread : goal.invariant-loop-thread
invariant-loop-thread l =
    record {
      seats : l.seats.items ≡ range_with_len 0 l.thread;
      given : AreGiven l.thread l.fn.core l.core;
      room : l.count ≤ vec_capacity l.seats;
    }
