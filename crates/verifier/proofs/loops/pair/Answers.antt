use Rattle.std.proofs.Common.{ℕ, ◌≡◌, ◌<◌, ◌≤◌, length, arith, IfSome, sym, subst, List}
use Rattle.verifier.specs.declared.loops.Place.{Place}
use Rattle.verifier.specs.Survey.{ArePaired, round_after}
use Rattle.model.specs.Set.{flow_of}
use Rattle.verifier.proofs.Pairs.{paired_more, paired_within, paired_shallow, paired_placed}
use Rattle.verifier.proofs.loops.pair.Goals as goal

pub round_after-next-requires-clause-before : goal.round_after-next-requires-clause-before
round_after-next-requires-clause-before c =
    subst (λ (places : List Place). IfSome c.loop-at.round.innermost (λ q. q < length places))
    (sym c.deref.ensures.value)
    (paired_within c.args.code.now c.loop-at.at c.loop-at.places.items c.loop-at.round
    c.loop-at.invariant)

pub round_after-next-requires-clause-shallow : goal.round_after-next-requires-clause-shallow
round_after-next-requires-clause-shallow c =
    subst (λ (places : List Place). c.loop-at.round.depth ≤ length places)
    (sym c.deref.ensures.value)
    (paired_shallow c.args.code.now c.loop-at.at c.loop-at.places.items c.loop-at.round
    c.loop-at.invariant)

pub loop-at-preserved : goal.loop-at-preserved
loop-at-preserved c =
    paired_more c.args.code.now c.loop-at.at c.index-code-at.result c.loop-at.places.items
    c.push.new.self.items c.loop-at.round c.round_after-next.result
    c.loop-at.invariant c.loop-at-test.true c.index-code-at.is
    (subst (λ (places : List Place). c.round_after-next.result
    ≡ round_after (flow_of c.index-code-at.result) c.loop-at.at c.loop-at.round places)
    c.deref.ensures.value c.round_after-next.ensures)
    (c.in_ok-push.ensures {u = tt}).items

pub returns : goal.returns
returns c none =
    paired_placed c.args.code.now c.loop-at.places.items c.loop-at.round
    (let end : c.loop-at.at ≡ length c.args.code.now = omega arith in
    subst (λ (n : ℕ). ArePaired c.args.code.now n c.loop-at.places.items c.loop-at.round) end
    c.loop-at.invariant)
    none
