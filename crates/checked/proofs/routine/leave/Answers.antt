use Rattle.model.specs.declared.world.Frame.TheVariants.{Routine}
use Rattle.checked.proofs.routine.leave.Goals as goal

pub returns-in-Propagate-Stop : goal.returns-in-Propagate-Stop
returns-in-Propagate-Stop c =
    rw (← c.sort.ensures, c.in-Propagate-Stop.is-0, c.in-Propagate-Stop.is-1)
    (λ r. c.stop.ensures r (Routine c.args.a.now))

pub returns-in-Hold-Stop : goal.returns-in-Hold-Stop
returns-in-Hold-Stop c =
    rw (← c.sort.ensures, c.in-Hold-Stop.is-0, c.in-Hold-Stop.is-1)
    (λ r. c.stop-in-Hold-Stop.ensures r (Routine c.args.a.now))
