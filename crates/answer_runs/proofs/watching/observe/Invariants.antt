use Rattle.std.proofs.Common.{◌≤◌, length}
use Rattle.std.specs.Prelude.{IfSome}
use Rattle.answer_runs.specs.Repeats.{awaited}
use Rattle.answer_runs.proofs.Observing.{Observed}
use Rattle.answer_runs.proofs.watching.observe.Given as goal

abbrev pub invariant-loop-event : goal.invariant-loop-event
invariant-loop-event g l =
    record {
      some : IfSome l.rest (λ run. 1 ≤ run.count);
      observed :
          Observed g.M.Machine.set_of g.M.Machine.shows g.W.Observer.tells
          (g.M.Machine.set_of l.initial.machine) l.schedule.threads l.schedule.events
          l.initial.observer l.machine l.observer (awaited l.rest l.upcoming);
    }

abbrev pub decreases-loop-event : goal.decreases-loop-event
decreases-loop-event g l = length (awaited l.rest l.upcoming)
