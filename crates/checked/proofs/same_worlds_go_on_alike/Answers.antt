use Rattle.checked.proofs.SameWorlds.{same_go_on}
use Rattle.checked.proofs.same_worlds_go_on_alike.Goals as goal

pub returns : goal.returns
returns c = same_go_on c.the_past_tells_of_the_world.ensures c.owning_tells.ensures
