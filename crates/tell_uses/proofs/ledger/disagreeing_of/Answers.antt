use Rattle.std.proofs.Common.{◌++◌, ◌+◌, ◌∙◌, ap, drop, sym}
use Rattle.tell_uses.specs.Uses.{disagreeing_from}
use Rattle.tell_uses.proofs.Disagreeing.{disagreeing_next}
use Rattle.tell_uses.proofs.ledger.disagreeing_of.Goals as goal

pub loop-number-preserved : goal.loop-number-preserved
loop-number-preserved c =
    let notes = c.args.notes.now in
    let number = c.loop-number.number in
    ap (λ found. found ++ disagreeing_from (number + 1) (drop (number + 1) notes))
    c.in_ok-add_disagreeing.ensures
    ∙ sym (disagreeing_next notes c.loop-number.found.items number)
    ∙ c.loop-number.invariant
