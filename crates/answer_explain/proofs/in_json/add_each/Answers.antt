use Rattle.std.proofs.Common.{arith}
use Rattle.answer_explain.proofs.EachFault.{fault_at}
use Rattle.answer_explain.proofs.InJson.{told_all, told_next}
use Rattle.answer_explain.proofs.in_json.add_each.Goals as goal

pub add_refusal-requires-clause-fault : goal.add_refusal-requires-clause-fault
add_refusal-requires-clause-fault c =
    fault_at c.args.set.now c.as_slice-told-items.result.now c.loop-told.told-index
    c.told-item.result c.loop-told-test.true c.told-item.is
    (rw c.as_slice-told-items.ensures.value c.in_ok-all.ensures)

pub loop-told-preserved : goal.loop-told-preserved
loop-told-preserved c =
    told_next c.args.file.name.now c.args.file.bytes.now c.args.set.now
    c.as_slice-told-items.result.now c.loop-told.told-index c.told-item.result c.args.lines.now
    c.loop-told.lines _ c.loop-told-test.true c.told-item.is c.loop-told.invariant
    c.in_ok-add_refusal.ensures

pub returns : goal.returns
returns c =
    told_all c.args.file.name.now c.args.file.bytes.now c.args.set.now
    c.as_slice-told-items.result.now c.loop-told.told-index c.args.lines.now c.loop-told.lines
    (omega (arith, c.loop-told-test.false)) (rw c.as_slice-told-items.ensures.value c.in_ok-all.ensures)
    c.loop-told.invariant
