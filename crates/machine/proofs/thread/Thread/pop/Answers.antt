use Rattle.std.proofs.Common.{ap}
use Rattle.laws_slots.specs.Words.{WordThread}
use Rattle.machine.proofs.Stacks.{less_deep, one_less, with_items}
use Rattle.machine.proofs.thread.Thread.pop.Goals as goal

pub invariant_of-self : goal.invariant_of-self
invariant_of-self c =
    rw (c.below_top-self-inside.ensures, ← c.self.view_is)
    (less_deep c.self.inside.depth _ c.self.inside.places c.self.invariant)

pub returns : goal.returns
returns c =
    let thread : WordThread =
    record { root = c.self.inside.root; frames = c.self.inside.places } in
    rw (c.below_top-self-inside.ensures, ← c.self.view_is)
    (ap (with_items thread) (one_less c.self.inside.depth c.self.inside.places))
