use Rattle.std.proofs.Common.{◌-◌, ◌∙◌, ap, Some, arith}
use Rattle.text.specs.Cut.{lines_of}
use Rattle.answer_explain.proofs.Placing.{at_next, none_at, some_at}
use Rattle.answer_explain.proofs.region.region_at.Goals as goal

pub returns-in_err-next : goal.returns-in_err-next
returns-in_err-next c =
    c.from_residual.ensures
    ∙ none_at c.args.text.now c.loop.left (c.args.number - c.loop.counter) c.args.number
    c.loop.invariant c.in_err-next.ensures.0

pub loop-preserved : goal.loop-preserved
loop-preserved c =
    at_next (lines_of c.args.text.now) c.loop.left c.next.new.self c.in_ok-next.field-0.now
    c.loop.counter c.args.number (c.args.number - 1) c.loop.invariant c.in_ok-next.ensures
    c.loop-test.true

pub returns-in_err-raw : goal.returns-in_err-raw
returns-in_err-raw c =
    c.from_residual-in_err-raw.ensures
    ∙ none_at c.args.text.now c.loop.left (c.args.number - c.loop.counter) c.args.number
    c.loop.invariant c.in_err-raw.ensures.0

pub returns : goal.returns
returns c =
    ap Some c.region_on.ensures
    ∙ some_at c.args.text.now c.loop.left c.next-2.new.self c.in_ok-raw.raw.now
    (c.args.number - c.loop.counter) c.args.number c.loop.invariant
    (omega (arith, c.loop-test.false)) c.in_ok-raw.ensures
