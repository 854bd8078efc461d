use Rattle.std.proofs.Common.{◌≡◌, ◌∷◌, [], ◌++◌, List}
use Rattle.laws_runs.proofs.Lists.{last_of}
use Rattle.model.specs.declared.world.Frame.{Frame}
use Rattle.checked.proofs.Stacks.{told_on_top}
use Rattle.checked.proofs.thread.tell.Goals as goal

pub returns : goal.returns
returns c =
    let below : List Frame = c.in-Some.below.now in
    let f : Frame = c.in-Some.caller.now in
    let items : List Frame = c.args.frames.now in
    let split : items ≡ below ++ f ∷ [] = c.in-Some.ensures.cases.0 in
    rw (c.tell.ensures, split, last_of below f) (told_on_top c.args.set.now below f c.args.status)
