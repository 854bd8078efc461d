use Rattle.std.proofs.Common.{◌≡◌, ◌∙◌, ◌<◌, ◌+◌, length, arith, sym}
use Rattle.verifier.proofs.Lookups.{inner_below, inner_none, inner_turns, sums_short}
use Rattle.verifier.proofs.certificate.turns_at.Goals as goal

pub turns_within-requires-clause-within : goal.turns_within-requires-clause-within
turns_within-requires-clause-within c =
    let low : c.in-Some.q < c.args.at =
    (inner_below c.args.code.now c.args.places.now c.args.at c.in-Some.q _ c.requires.placed
    c.requires.within c.in-Some.is).0 in
    let within : c.args.at < length c.args.code.now = c.requires.within in
    omega arith

pub turns_within-requires-clause-summed : goal.turns_within-requires-clause-summed
turns_within-requires-clause-summed c =
    let low : c.in-Some.q < c.args.at =
    (inner_below c.args.code.now c.args.places.now c.args.at c.in-Some.q _ c.requires.placed
    c.requires.within c.in-Some.is).0 in
    let within : c.args.at < length c.args.code.now = c.requires.within in
    let long : length c.args.sums.now ≡ length c.args.code.now + 1 = c.requires.summed.long in
    omega arith

pub turns_within-requires-clause-grown : goal.turns_within-requires-clause-grown
turns_within-requires-clause-grown c =
    (sums_short c.args.code.now c.args.sums.now c.args.at c.in-Some.q c.requires.summed
    (inner_below c.args.code.now c.args.places.now c.args.at c.in-Some.q _ c.requires.placed
    c.requires.within c.in-Some.is).0).0

pub turns_within-requires-clause-short : goal.turns_within-requires-clause-short
turns_within-requires-clause-short c =
    (sums_short c.args.code.now c.args.sums.now c.args.at c.in-Some.q c.requires.summed
    (inner_below c.args.code.now c.args.places.now c.args.at c.in-Some.q _ c.requires.placed
    c.requires.within c.in-Some.is).0).1

pub returns-in-None-clause-turns : goal.returns-in-None-clause-turns
returns-in-None-clause-turns c =
    sym (inner_none c.args.code.now c.args.places.now c.args.at _ c.requires.placed
    c.requires.within c.in-None.is)

pub returns-in-Some-clause-turns : goal.returns-in-Some-clause-turns
returns-in-Some-clause-turns c =
    c.turns_within.ensures.turns
    ∙ inner_turns c.args.code.now c.args.places.now c.args.sums.now c.args.at c.in-Some.q _
    c.requires.placed c.requires.summed c.requires.within c.in-Some.is
