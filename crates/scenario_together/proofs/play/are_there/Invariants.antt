use Rattle.std.proofs.Common.{◌≡◌, ◌<◌, ◌≤◌, ℕ, false}
use Rattle.scenario_together.specs.Interleaving.{is_named}
use Rattle.scenario_together.proofs.play.are_there.Given as goal

-- up to here none is named that isn't there
abbrev pub invariant-loop-thread : goal.invariant-loop-thread
invariant-loop-thread l =
    (t : ℕ) → l.playing.threads ≤ t → t < l.thread → is_named l.named t ≡ false
