use Rattle.drvhost_tests.specs.Tests.{AreTested}
use Rattle.drvhost_tests.specs.Told.{asked_of, tested_of}
use Rattle.drvhost_tests.proofs.Gathering.{all_told, gathers_lost}
use Rattle.drvhost_tests.proofs.set.test_all.Goals as goal

pub returns-in_default-clause-gathers : goal.returns-in_default-clause-gathers
returns-in_default-clause-gathers g c =
    gathers_lost (AreTested (asked_of c.args.suite.tests) c.args.suite.names.now
    (g.F.Files.supply c.args.files.now) (tested_of c.args.subject)) _ _ _ _ _ _ _
    c.read_each.ensures.read

pub returns-clause-gathers : goal.returns-clause-gathers
returns-clause-gathers g c =
    all_told (asked_of c.args.suite.tests) c.args.suite.names.now (g.F.Files.supply c.args.files.now)
    (tested_of c.args.subject) c.in-Ok.held.items _ _ _ _ c.tell_held.result c.in-Ok.ensures.read
    (rw c.as_slice.ensures.value at c.tell_held.ensures)
