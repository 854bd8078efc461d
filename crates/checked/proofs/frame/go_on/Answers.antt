use Rattle.checked.specs.GoingOn.{frame_rests, frame_runs}
use Rattle.checked.proofs.NoFurther.{frame_far}
use Rattle.checked.proofs.frame.go_on.Goals as goal

pub returns-then-is_some-clause-goes : goal.returns-then-is_some-clause-goes
returns-then-is_some-clause-goes c = frame_rests

pub returns-clause-goes : goal.returns-clause-goes
returns-clause-goes c =
    frame_runs c.activation_mut.result.now c.run.new.a c.run.result
    c.activation_mut.ensures.activation c.run.ensures.goes

pub returns-clause-far : goal.returns-clause-far
returns-clause-far c = λ short.
    frame_far c.args.until.now c.args.set.now c.run.new.a (c.run.ensures.far short)
