use Rattle.drvhost_tests.specs.Tests.{AreOfFile, AreOfPaths}
use Rattle.drvhost_tests.specs.Told.{asked_of}
use Rattle.drvhost_tests.proofs.Gathering.{gathers_none, gathers_rightly}
use Rattle.drvhost_tests.proofs.test.test_paths.Goals as goal

pub returns-in-Ok-clause-gathers : goal.returns-in-Ok-clause-gathers
returns-in-Ok-clause-gathers g c =
    let asked = asked_of c.args.tests in
    let supply = g.F.Files.supply c.args.files.now in
    let stands = g.F.Files.stands c.args.files.now in
    let names = c.in-Ok.names.items in
    gathers_rightly (AreOfFile asked names supply) (AreOfPaths asked stands supply) _ _ _ _
    c.test_set.result (λ n k a right. (names, c.in-Ok.ensures, right))
    (rw c.as_slice.ensures.value at c.test_set.ensures.gathers)

pub returns-in-Err-clause-gathers : goal.returns-in-Err-clause-gathers
returns-in-Err-clause-gathers g c =
    let asked = asked_of c.args.tests in
    let supply = g.F.Files.supply c.args.files.now in
    let stands = g.F.Files.stands c.args.files.now in
    gathers_none (AreOfPaths asked stands supply 0 0) (AreOfPaths asked stands supply) _ _ _
    (λ a right. right) tt
