use Rattle.std.proofs.Common.{◌≡◌, ◌++◌, drop, false, string_bytes, take, []}
use Rattle.drvhost_tests.specs.Counts.{AreCounted}
use Rattle.drvhost_tests.specs.Reports.{test_cases}
use Rattle.drvhost_tests.proofs.junit.add_cases.Given as goal

-- the names of the tests before are counted, and the test cases of these were added
abbrev pub invariant-loop-case : goal.invariant-loop-case
invariant-loop-case l =
    record {
      counted : AreCounted l.counts (take l.case-index l.cases);
      added :
          l.words.lacks ≡ false
          → (l.initial.words.lacks ≡ false)
          × (string_bytes l.words.text
          ++ test_cases l.set (take l.case-index l.cases) (drop l.case-index l.cases)
          ≡ string_bytes l.initial.words.text ++ test_cases l.set [] l.cases);
    }
