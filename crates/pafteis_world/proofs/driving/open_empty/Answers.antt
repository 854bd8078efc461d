use Rattle.std.proofs.Common.{◌≡◌, ◌∙◌, false, sym}
use Rattle.pafteis_world.proofs.Deeds.{opens_free}
use Rattle.pafteis_world.proofs.driving.open_empty.Goals as goal

pub returns : goal.returns
returns c =
    let none : c.args.handle.now.live ≡ false = sym c.stands.ensures.is ∙ c.if-stands.false in (
      none,
      c.open.ensures.judged,
      opens_free c.args.bytes.now c.args.threads c.open.result c.stands.new.handle
          c.open.new.handle (c.stands.ensures.live ∙ none) c.open.ensures.opens,
    )
