use Rattle.std.proofs.Common.{◌≡◌, ◌∙◌, length, arith, None, slice_index_or, sym, subst, ap, List}
use Rattle.verifier.specs.declared.loops.Place.{Place}
use Rattle.verifier.specs.Survey.{AreShallow, round_next}
use Rattle.verifier.proofs.Scans.{first_within}
use Rattle.verifier.proofs.Places.{placed_more, placed_shallow}
use Rattle.verifier.proofs.loops.place_all.Goals as goal

pub round_next-requires-clause-before : goal.round_next-requires-clause-before
round_next-requires-clause-before c =
    let long : length c.deref.result.now ≡ c.loop-at.at =
    ap (λ (places : List Place). length places) c.deref.ensures.value ∙ c.loop-at.invariant.long
    in
    first_within c.args.code.now c.loop-at.at (length c.deref.result.now)
    (slice_index_or c.args.opened.now c.loop-at.at None)
    (c.requires.opened.each c.loop-at.at c.loop-at-test.true) (omega arith)

pub round_next-requires-clause-shallow : goal.round_next-requires-clause-shallow
round_next-requires-clause-shallow c =
    subst (λ (places : List Place). AreShallow places) (sym c.deref.ensures.value)
    (placed_shallow c.args.code.now c.loop-at.at c.loop-at.places.items c.loop-at.invariant)

pub loop-at-preserved : goal.loop-at-preserved
loop-at-preserved c =
    placed_more c.args.code.now c.loop-at.at c.args.opened.now c.args.unclosed.now
    c.loop-at.places.items c.push.new.self.items c.round_next.result
    c.requires.opened c.requires.unclosed c.loop-at.invariant c.loop-at-test.true
    (subst (λ (places : List Place). c.round_next.result
    ≡ round_next (slice_index_or c.args.opened.now c.loop-at.at None) c.args.unclosed.now
    places)
    c.deref.ensures.value c.round_next.ensures)
    (c.in_ok-push.ensures {u = tt}).items
