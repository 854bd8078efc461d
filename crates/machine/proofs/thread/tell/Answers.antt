use Rattle.std.proofs.Common.{◌≡◌, ◌∷◌, [], ◌++◌, List}
use Rattle.laws_runs.proofs.Lists.{last_of}
use Rattle.laws_slots.specs.Words.{WordFrame}
use Rattle.machine.proofs.Stacks.{told_on_top}
use Rattle.machine.proofs.thread.tell.Goals as goal

pub returns : goal.returns
returns c =
    let below : List WordFrame = c.in-Some.below.now in
    let f : WordFrame = c.in-Some.caller.now in
    let items : List WordFrame = c.args.frames.now in
    let split : items ≡ below ++ f ∷ [] = c.in-Some.ensures.cases.0 in
    rw (c.tell.ensures, split, last_of below f) (told_on_top c.args.set.now below f c.args.status)
