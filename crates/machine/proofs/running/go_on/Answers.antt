use Rattle.machine.specs.GoingOn.{frame_rests, frame_runs}
use Rattle.machine.proofs.running.go_on.Goals as goal

pub returns-then-is_some-clause-goes : goal.returns-then-is_some-clause-goes
returns-then-is_some-clause-goes c = frame_rests

pub returns-clause-goes : goal.returns-clause-goes
returns-clause-goes c =
    frame_runs c.activation_mut.result.now c.run.new.a c.run.result c.activation_mut.ensures.activation c.run.ensures.goes
