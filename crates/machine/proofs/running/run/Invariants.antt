use Rattle.std.proofs.Common.{◌≡◌}
use Rattle.laws_slots.specs.WordStep.{top_frame}
use Rattle.machine.specs.GoingOn.{Goes}
use Rattle.machine.proofs.running.run.Given as goal

abbrev pub invariant-loop-made : goal.invariant-loop-made
invariant-loop-made l =
    Goes l.fn.set l.fn.shared l.fn.thread (top_frame l.fn.below) l.fn.a l.made l.a
    × (l.a.driver ≡ l.fn.a.driver) × (l.a.routine ≡ l.fn.a.routine)
