use Rattle.std.proofs.Common.{take}
use Rattle.std.specs.List.{AllZip}
use Rattle.verifier_words.specs.Faults.{refusals}
use Rattle.answer_logs.specs.Found.{IsExplained}
use Rattle.answer_logs.proofs.explaining.explain_each.Given as goal

abbrev pub invariant-loop-told : goal.invariant-loop-told
invariant-loop-told l =
    AllZip (IsExplained l.file.name.now l.file.bytes.now l.set)
    (take l.told-index (refusals l.told-items)) l.findings.items
