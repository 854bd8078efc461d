use Rattle.std.proofs.Common.{Some}
use Rattle.checked.proofs.GoingOn.{steps_up_to}
use Rattle.checked.specs.Step.{machine_of}
use Rattle.checked.proofs.machine.Checked.go_up_to.Goals as goal

pub returns-clause-goes : goal.returns-clause-goes
returns-clause-goes c =
    rw (← c.self.view_is)
    (steps_up_to (Some c.args.place) c.args.thread
    (machine_of c.self.inside.driver_set c.self.inside.state) c.go_on.result
    (machine_of c.self.inside.driver_set c.go_on.new.self) c.go_on.ensures.goes)
