use Rattle.std.proofs.Common.{◌≡◌, ◌<◌, ℕ, length, slice_get}
use Rattle.hunt_worlds.proofs.packets.same_locations.Given as goal

abbrev pub invariant-loop-place : goal.invariant-loop-place
invariant-loop-place l =
    record {
      long : length l.ours.locations.items ≡ length l.its.locations.items;
      end : l.place-end ≡ length l.ours.locations.items;
      same : (k : ℕ) → k < l.place
          → slice_get l.ours.locations.items k ≡ slice_get l.its.locations.items k;
    }
