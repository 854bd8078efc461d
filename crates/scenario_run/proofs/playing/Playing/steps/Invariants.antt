use Rattle.std.proofs.Common.{◌≡◌}
use Rattle.scenario_run.specs.Playing.{stepping}
use Rattle.scenario_run.proofs.playing.Playing.steps.Given as goal

-- what is left goes as all did
abbrev pub invariant-loop-left : goal.invariant-loop-left
invariant-loop-left l = stepping l.thread l.left l.self ≡ stepping l.thread l.count l.fn.self

abbrev pub decreases-loop-left : goal.decreases-loop-left
decreases-loop-left l = l.left
