use Rattle.std.proofs.Common.{arith}
use Rattle.answer_explain.proofs.Wording.{words_on_all, words_on_first, words_on_next, words_on_none}
use Rattle.answer_explain.proofs.explaining.one_by_one.Goals as goal

pub returns-in_default : goal.returns-in_default
returns-in_default c = words_on_none c.args.all.now _ c.in_default.ensures.cases c.new.ensures.items

pub loop-other-init : goal.loop-other-init
loop-other-init c =
    words_on_first c.args.all.now c.in-Some.others.now c.in-Some.first.now _
    c.in-Some.ensures.cases.0 c.in_ok-words.ensures

pub loop-other-preserved : goal.loop-other-preserved
loop-other-preserved c =
    let added = c.in_ok-add_further.ensures in
    words_on_next c.args.all.now c.in-Some.others.now c.in-Some.first.now c.other-item.result
    c.loop-other.other-index _ added.0 _ c.in-Some.ensures.cases.0 c.loop-other-test.true
    c.other-item.is c.loop-other.invariant added.1 added.2

pub returns : goal.returns
returns c =
    words_on_all c.args.all.now _ _
    (omega (arith, c.in-Some.ensures.cases.1, c.loop-other-test.false)) c.loop-other.invariant
