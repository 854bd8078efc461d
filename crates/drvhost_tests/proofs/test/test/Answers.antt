use Rattle.drvhost_tests.specs.Tests.{AreOfPaths}
use Rattle.drvhost_tests.specs.Told.{asked_of}
use Rattle.drvhost_tests.proofs.Gathering.{tests_end, tests_unmade}
use Rattle.drvhost_tests.proofs.test.test.Goals as goal

pub returns-in-Ok-clause-answers : goal.returns-in-Ok-clause-answers
returns-in-Ok-clause-answers g c =
    tests_end
    (AreOfPaths (asked_of c.args.tests) (g.F.Files.stands c.args.files.now)
    (g.F.Files.supply c.args.files.now)) _ _ _ _ _ _ _ _
    _ _ c.in-Ok.told c.in-Ok.ensures.gathers (c.deliver.ensures 0)

pub returns-in-Err-clause-answers : goal.returns-in-Err-clause-answers
returns-in-Err-clause-answers g c =
    tests_unmade
    (AreOfPaths (asked_of c.args.tests) (g.F.Files.stands c.args.files.now)
    (g.F.Files.supply c.args.files.now)) _ _ _ _ _ _ _
    _ _ _ _ _ c.test_paths.ensures.gathers c.no_memory.ensures.status c.no_memory.ensures.told
