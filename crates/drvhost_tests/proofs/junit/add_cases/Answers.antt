use Rattle.std.proofs.Common.{◌≡◌, ◌∙◌, ◌+◌, ℕ, Some, bytes_eq, drop, string_bytes, subst, take, []}
use Rattle.indexmap.specs.IndexMap.{Updates}
use Rattle.drvhost_tests.specs.Counts.{times_in}
use Rattle.drvhost_tests.specs.Reports.{test_case, test_cases, times}
use Rattle.drvhost_tests.proofs.Counting.{case_added, cases_more, counted_more, turn_is}
use Rattle.drvhost_tests.proofs.junit.add_cases.Goals as goal

pub loop-case-preserved : goal.loop-case-preserved
loop-case-preserved c =
    let set = c.args.set.now in
    let tests = c.args.cases.now in
    let i = c.loop-case.case-index in
    let test = c.case-item.result in
    let before = c.loop-case.counts in
    let after = c.count.new.counts in
    let n = c.in_ok-times.times in
    let inside = c.loop-case-test.true in
    let is = c.case-item.is in
    let are = c.loop-case.invariant.counted in
    let said : (n ≡ times_in before test.name + 1) × Updates bytes_eq before after test.name (Some n) =
    rw c.name.ensures at c.in_ok-times.ensures in
    let turn = said.0 ∙ turn_is tests i test inside is before are in
    record {
      counted = counted_more tests i test inside is before are after
          (subst (λ (k : ℕ). Updates bytes_eq before after test.name (Some k)) said.0 said.1);
      added = λ whole.
          let added = c.add_case.ensures whole in
          let so = c.loop-case.invariant.added added.0 in (
            so.0,
            case_added (string_bytes c.args.words.now.text) (string_bytes c.loop-case.words.text)
                (string_bytes c.add_case.new.words.text)
                (test_case set (times test.name (take (i + 1) tests)) test)
                (test_cases set (take (i + 1) tests) (drop (i + 1) tests))
                (test_cases set (take i tests) (drop i tests)) (test_cases set [] tests)
                (rw turn at added.1) (cases_more tests i test inside is set) so.1,
          );
    }
