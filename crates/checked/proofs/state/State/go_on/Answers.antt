use Rattle.std.proofs.Common.{inr}
use Rattle.checked.specs.GoingOn.{here}
use Rattle.checked.proofs.GoingOn.{goes_state}
use Rattle.checked.proofs.state.State.go_on.Goals as goal

pub returns-then-self-clause-goes : goal.returns-then-self-clause-goes
returns-then-self-clause-goes c = here

pub returns-clause-goes : goal.returns-clause-goes
returns-clause-goes c =
    rw (← c.self.view_is, c.if-self.false)
    (goes_state c.the_past_tells_of_the_world.ensures c.owning_tells.ensures c.args.until.now c.args.set.now
    c.requires c.self.inside.current c.args.thread c.go_on.result c.go_on.new.self
    c.go_on.ensures.goes)

pub returns-clause-far : goal.returns-clause-far
returns-clause-far c = λ short. inr (c.go_on.ensures.far short)
