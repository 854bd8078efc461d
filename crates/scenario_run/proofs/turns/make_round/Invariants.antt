use Rattle.std.proofs.Common.{drop}
use Rattle.scenario_run.proofs.Rounds.{Rounding}
use Rattle.scenario_run.proofs.turns.make_round.Given as goal

abbrev pub invariant-loop-thread : goal.invariant-loop-thread
invariant-loop-thread l =
    Rounding l.goers l.initial.playing l.thread-index (drop l.thread-index l.goers.threads.items)
    l.playing l.made
