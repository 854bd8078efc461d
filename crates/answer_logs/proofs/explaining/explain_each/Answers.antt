use Rattle.std.proofs.Common.{arith}
use Rattle.verifier_words.specs.Faults.{refusals}
use Rattle.answer_explain.proofs.EachFault.{fault_at}
use Rattle.answer_logs.specs.Found.{IsExplained}
use Rattle.answer_logs.proofs.Explained.{told_all, told_next}
use Rattle.answer_logs.proofs.explaining.explain_each.Goals as goal

pub explain-requires-clause-fault : goal.explain-requires-clause-fault
explain-requires-clause-fault c =
    fault_at c.args.set.now c.as_slice-told-items.result.now c.loop-told.told-index
    c.told-item.result c.loop-told-test.true c.told-item.is
    (rw c.as_slice-told-items.ensures.value c.in_ok-all.ensures)

pub loop-told-preserved : goal.loop-told-preserved
loop-told-preserved c =
    rw c.in_ok-push.ensures.items
    (told_next (IsExplained c.args.file.name.now c.args.file.bytes.now c.args.set.now)
    c.args.set.now c.as_slice-told-items.result.now c.loop-told.told-index c.told-item.result
    c.loop-told.findings.items c.in_ok-finding.finding c.loop-told-test.true c.told-item.is
    c.loop-told.invariant c.in_ok-finding.ensures)

pub returns : goal.returns
returns c =
    let all = c.as_slice-told-items.result.now in (
      refusals all,
      rw c.as_slice-told-items.ensures.value c.in_ok-all.ensures,
      told_all (IsExplained c.args.file.name.now c.args.file.bytes.now c.args.set.now)
          c.args.set.now all c.loop-told.told-index c.loop-told.findings.items
          (omega (arith, c.loop-told-test.false)) c.loop-told.invariant,
    )
