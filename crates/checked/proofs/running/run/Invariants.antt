use Rattle.std.proofs.Common.{◌≡◌}
use Rattle.checked.specs.GoingOn.{RoutineGoes}
use Rattle.checked.proofs.running.run.Given as goal

abbrev pub invariant-loop-made : goal.invariant-loop-made
invariant-loop-made l =
    RoutineGoes l.fn.until l.fn.set l.fn.a l.made l.a
    × (l.a.driver ≡ l.fn.a.driver) × (l.a.routine ≡ l.fn.a.routine)
