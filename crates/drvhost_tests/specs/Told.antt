-- What tests ask, and what is tested.
use Rattle.drvhost_tests.specs.declared.scenario.Subject.{Subject}
use Rattle.drvhost_tests.specs.declared.test.Tests.{Tests}
use Rattle.drvhost_tests.specs.Tests.{Asked, Tested}

abbrev pub asked_of : Tests → Asked
asked_of tests =
    record {
      set = tests.set.now;
      paths = tests.scenarios.now;
      verification = tests.verification;
      report = tests.report;
      verbosity = tests.verbosity;
    }

abbrev pub tested_of : Subject → Tested
tested_of subject =
    record { bytes = subject.bytes.now; set = subject.set.now; refusal = subject.refusal }
