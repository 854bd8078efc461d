use Rattle.std.proofs.Common.{◌≡◌}
use Rattle.scenario_run.specs.Playing.{running_to}
use Rattle.scenario_run.proofs.playing.Playing.run_up_to.Given as goal

-- what is left goes as all did
abbrev pub invariant-loop-left : goal.invariant-loop-left
invariant-loop-left l =
    running_to l.thread l.until l.left l.self ≡ running_to l.thread l.until l.most l.fn.self

abbrev pub decreases-loop-left : goal.decreases-loop-left
decreases-loop-left l = l.left
