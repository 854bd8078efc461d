use Rattle.std.proofs.Common.{◌≡◌, arith, inl, inr, refl}
use Rattle.drvhost_tests.specs.Reports.{alone}
use Rattle.drvhost_tests.specs.Tests.{AreOfBytes, AreOfFile, unread}
use Rattle.drvhost_tests.specs.Told.{asked_of}
use Rattle.drvhost_tests.proofs.Gathering.{gathers_more, gathers_unread, held_as}
use Rattle.drvhost_tests.proofs.set.test_set.Goals as goal

pub returns-in-Ok-clause-gathers : goal.returns-in-Ok-clause-gathers
returns-in-Ok-clause-gathers g c =
    let supply = g.F.Files.supply c.args.files.now in
    let asked = asked_of c.args.suite.tests in
    let names = c.args.suite.names.now in
    let bytes = c.in-Ok.bytes.items in
    let holds =
    held_as (supply asked.set) _ bytes c.open-file.ensures.supply
    (rw c.in-Ok.is at c.read_whole-read.ensures.bytes) in
    let reads = rw c.in-Ok.is at c.read_whole-read.ensures.reads in
    gathers_more (AreOfBytes asked names supply bytes) (AreOfFile asked names supply) _ _ _ _ _ _
    c.test_bytes.result c.close.ensures.opened
    (omega (arith, c.close.ensures.failures, reads, c.open-file.ensures.unread))
    (λ n j a right. inl (n, refl, (bytes, holds, right)))
    (rw (c.close.ensures.supply, c.as_slice.ensures.value) at c.test_bytes.ensures.gathers)

pub returns-in-Err-clause-gathers : goal.returns-in-Err-clause-gathers
returns-in-Err-clause-gathers g c =
    let supply = g.F.Files.supply c.args.files.now in
    let asked = asked_of c.args.suite.tests in
    let names = c.args.suite.names.now in
    let reads = rw c.in-Err.is at c.read_whole-read.ensures.reads in
    gathers_unread (λ told. told ≡ alone asked.report asked.set (unread asked.set))
    (AreOfFile asked names supply) _ _ _ _ c.in-Err.fault c.tell_unread_set.result
    c.close.ensures.opened
    (omega (arith, c.close.ensures.failures, reads, c.open-file.ensures.unread))
    (λ a is. inr (refl, refl, is)) c.tell_unread_set.ensures
