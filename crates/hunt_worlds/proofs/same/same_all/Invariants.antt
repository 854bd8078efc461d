use Rattle.std.proofs.Common.{◌≡◌, ◌<◌, ℕ, get_or}
use Rattle.hunt_worlds.proofs.same.same_all.Given as goal

abbrev pub invariant-loop-place : goal.invariant-loop-place
invariant-loop-place g l =
    (k : ℕ) (d : _) → k < l.place → get_or l.ours k d ≡ get_or l.others k d
