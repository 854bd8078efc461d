use Rattle.std.proofs.Common.{rules, ℕ, ◌≡◌, Some}
use Rattle.model.specs.Shown.{Shown}
use Rattle.pafteis_world.specs.Batch.{AppliesFirst, Ended}
use Rattle.pafteis_world.specs.Driven.{world_in}
use Rattle.pafteis_world.proofs.Deeds.{does}
use Rattle.pafteis_world.proofs.batch.apply_all.Goals as goal

pub returns : goal.returns
returns c =
    let at : world_in c.args.handle.now ≡ Some c.in_ok-world.world.value = search rules in
    let e = rw c.deref_mut.ensures.value at c.apply_first-count.ensures in (
      does
          (λ (m : Shown) (k : ℕ) (n : Shown).
          AppliesFirst c.args.events.now m c.args.replies.now c.apply_first-count.new.replies k n
          × Ended c.args.events.now c.args.replies.now k) _ _ _ c.in_ok-world.world.value
          c.apply_first-count.new.world c.apply_first-count.result at c.of.ensures.live
          c.of.ensures.world (e.applies, e.ended),
      λ empty. search rules,
    )
