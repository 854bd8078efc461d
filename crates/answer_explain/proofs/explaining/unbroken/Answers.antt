use Rattle.answer_explain.proofs.Breaks.{block_taken, block_whole}
use Rattle.answer_explain.proofs.explaining.unbroken.Goals as goal

pub returns-then-next-eq10 : goal.returns-then-next-eq10
returns-then-next-eq10 c =
    block_taken c.args.words.now c.loop-end.end c.loop-end-test.true
    c.if-words-end-eq10.true c.loop-end.invariant

pub returns : goal.returns
returns c =
    block_whole c.args.words.now c.loop-end.end c.loop-end-test.false c.loop-end.invariant
