use Rattle.std.proofs.Common.{◌≡◌, ◌++◌, take}
use Rattle.scenario_together.specs.Interleaving.{steps_of}
use Rattle.scenario_together.proofs.interleaving.add_steps.Given as goal

-- so many of them are added
abbrev pub invariant-loop-thread : goal.invariant-loop-thread
invariant-loop-thread l =
    l.events.items ≡ l.initial.events.items ++ steps_of (take l.thread-index l.threads)
