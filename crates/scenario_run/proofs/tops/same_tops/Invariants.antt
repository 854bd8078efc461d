use Rattle.std.proofs.Common.{◌≡◌, ◌<◌, ℕ, slice_get}
use Rattle.scenario_run.proofs.tops.same_tops.Given as goal

-- the first of them are the same
abbrev pub invariant-loop-place : goal.invariant-loop-place
invariant-loop-place l =
    (k : ℕ) → k < l.place → slice_get l.ours.entries k ≡ slice_get l.its.entries k
