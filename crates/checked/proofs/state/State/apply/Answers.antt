use Rattle.checked.proofs.Runs.{applies}
use Rattle.checked.proofs.state.State.apply.Goals as goal

pub returns : goal.returns
returns c =
    applies c.the_past_tells_of_the_world.ensures c.owning_tells.ensures c.args.set.now
    c.args.self.now c.advance.new.self c.requires c.args.event.now c.advance.result
    c.advance.ensures
