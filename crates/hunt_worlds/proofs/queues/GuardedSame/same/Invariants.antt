use Rattle.std.proofs.Common.{◌≡◌, ◌<◌, ℕ, length, slice_get}
use Rattle.hunt_worlds.proofs.queues.GuardedSame.same.Given as goal

abbrev pub invariant-loop-place : goal.invariant-loop-place
invariant-loop-place l =
    record {
      long : length l.self ≡ length l.other;
      end : l.place-end ≡ length l.self;
      same : (k : ℕ) → k < l.place → slice_get l.self k ≡ slice_get l.other k;
    }
