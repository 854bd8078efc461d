use Rattle.std.proofs.Common.{refl}
use Rattle.asm.proofs.draft.Draft.new.Goals as goal

pub returns : goal.returns
returns c =
    rw (
      c.new.ensures.empty,
      c.new-2.ensures.items,
      c.new-3.ensures.empty,
      c.new-4.ensures.items,
      c.new-5.ensures.empty,
      c.new-6.ensures.items,
      c.new-7.ensures.items,
      c.new-8.ensures.items,
      c.new-9.ensures.empty,
      c.new-10.ensures.items,
      c.new-11.ensures.items,
      c.new-12.ensures.empty,
      c.new-13.ensures.items,
      c.new-14.ensures.empty,
    ) refl
