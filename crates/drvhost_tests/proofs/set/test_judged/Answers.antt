use Rattle.drvhost_tests.proofs.set.test_judged.Goals as goal

pub returns-in-Required-clause-gathers : goal.returns-in-Required-clause-gathers
returns-in-Required-clause-gathers g c = rw c.in-Required.is c.test_verified.ensures.gathers

pub returns-in-Skipped-clause-gathers : goal.returns-in-Skipped-clause-gathers
returns-in-Skipped-clause-gathers g c = rw c.in-Skipped.is c.test_all.ensures.gathers
