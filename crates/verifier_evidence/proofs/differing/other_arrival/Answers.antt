use Rattle.std.proofs.Common.{◌<◌, ◌≤◌, rules, arith}
use Rattle.verifier_evidence.proofs.Others.{others_more}
use Rattle.verifier_evidence.proofs.differing.other_arrival.Goals as goal

pub other_from-requires-clause-formed : goal.other_from-requires-clause-formed
other_from-requires-clause-formed c =
    (c.requires.fine c.loop-from.from c.loop-from-test.true).formed

pub loop-from-preserved : goal.loop-from-preserved
loop-from-preserved c =
    others_more c.args.arrivals.now.subject c.args.arrivals.now.table.items c.args.at
    c.args.state.now c.loop-from.from c.loop-from.invariant
    (c.other_from.ensures.none c.in_default.is)

pub returns-clause-none : goal.returns-clause-none
returns-clause-none c = λ none q s low h.
    let least : c.args.at ≤ c.loop-from.from = search rules in
    let under : q < c.args.at = low in
    c.loop-from.invariant q s (omega arith) h
