use Rattle.std.proofs.Common.{◌≡◌, inl, inr, refl}
use Rattle.report.specs.Fault.{image_fault_line, text_fault_line}
use Rattle.drvhost_devices.specs.Answer.{faulty}
use Rattle.drvhost_tests.specs.Reports.{alone}
use Rattle.drvhost_tests.specs.Tests.{AreJudgedBy, AreOfBytes, marked}
use Rattle.drvhost_tests.specs.Told.{asked_of}
use Rattle.drvhost_tests.proofs.Gathering.{gathers_none, gathers_rightly, image_faulty, set_named, text_faulty}
use Rattle.drvhost_tests.proofs.set.test_bytes.Goals as goal

pub returns-in-Ok-clause-gathers : goal.returns-in-Ok-clause-gathers
returns-in-Ok-clause-gathers g c =
    let supply = g.F.Files.supply c.args.files.now in
    let bytes = c.args.bytes.now in
    let asked = asked_of c.args.suite.tests in
    let names = c.args.suite.names.now in
    gathers_rightly (AreJudgedBy asked.verification asked names supply bytes c.in-Ok.set)
    (AreOfBytes asked names supply bytes) _ _ _ _ c.test_judged.result
    (λ n k a right. inl (c.in-Ok.set, set_named bytes c.in-Ok.set c.in-Ok.ensures.set, right))
    c.test_judged.ensures.gathers

pub returns-in-Err-Text-clause-gathers : goal.returns-in-Err-Text-clause-gathers
returns-in-Err-Text-clause-gathers g c =
    let supply = g.F.Files.supply c.args.files.now in
    let bytes = c.args.bytes.now in
    let asked = asked_of c.args.suite.tests in
    let names = c.args.suite.names.now in
    let fault = c.in-Err-Text.fault in
    let line = faulty (marked asked.set (text_fault_line fault)) in
    gathers_none (λ told. told ≡ alone asked.report asked.set line) (AreOfBytes asked names supply bytes) _ _
    c.tell_text_fault.result
    (λ a is. inr (
      refl,
      refl,
      (
        line,
        text_faulty asked.set bytes fault
            (rw c.in-Err-Text.field-0-is at c.in-Err-Text.ensures.set),
        is,
      ),
    )) c.tell_text_fault.ensures

pub returns-in-Err-Image-clause-gathers : goal.returns-in-Err-Image-clause-gathers
returns-in-Err-Image-clause-gathers g c =
    let supply = g.F.Files.supply c.args.files.now in
    let bytes = c.args.bytes.now in
    let asked = asked_of c.args.suite.tests in
    let names = c.args.suite.names.now in
    let fault = c.in-Err-Image.fault in
    let line = faulty (marked asked.set (image_fault_line fault)) in
    gathers_none (λ told. told ≡ alone asked.report asked.set line) (AreOfBytes asked names supply bytes) _ _
    c.tell_image_fault.result
    (λ a is. inr (
      refl,
      refl,
      (
        line,
        image_faulty asked.set bytes fault
            (rw c.in-Err-Image.field-0-is at c.in-Err-Image.ensures.set),
        is,
      ),
    )) c.tell_image_fault.ensures
