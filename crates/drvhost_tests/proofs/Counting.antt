-- Names that are counted, and the test cases that have their turns.
use Rattle.std.proofs.Common.{◌≡◌, ◌∙◌, ◌+◌, ◌<◌, ◌++◌, ℕ, Bool, true, false, List, Option, Some, ap, append_assoc, bytes_eq, cond, drop, get_or, length, refl, sym, take}
use Rattle.std.proofs.lemmas.List.{drop_more, take_more}
use Rattle.std.proofs.lemmas.List.Sums.{count_by_more_no, count_by_more_yes}
use Rattle.std.proofs.lemmas.Slice.Eq.{bytes_eq-Decides}
use Rattle.std.specs.Option.{unwrap_or}
use Rattle.indexmap.specs.IndexMap.{IndexMap, Updates, get}
use Rattle.drvhost_tests.specs.Counts.{AreCounted, times_in}
use Rattle.drvhost_tests.specs.Reports.{test_case, test_cases, times}
use Rattle.drvhost_tests.specs.Test.{Test}

module _ (tests : List Test) (i : ℕ) (test : Test) (inside : i < length tests)
    (is : test ≡ get_or tests i test) where
  -- the next test has this name, or another one
  times_same : (name : List ℕ) → bytes_eq test.name name ≡ true
      → times name (take (i + 1) tests) ≡ times name (take i tests) + 1
  times_same name same =
      count_by_more_yes (λ (t : Test). bytes_eq t.name name) tests i test inside
      (ap (λ (t : Test). bytes_eq t.name name) (sym is) ∙ same)

  times_other : (name : List ℕ) → bytes_eq test.name name ≡ false
      → times name (take (i + 1) tests) ≡ times name (take i tests)
  times_other name other =
      count_by_more_no (λ (t : Test). bytes_eq t.name name) tests i test inside
      (ap (λ (t : Test). bytes_eq t.name name) (sym is) ∙ other)

  -- its test case is next
  pub cases_more : (set : List ℕ) → test_cases set (take i tests) (drop i tests)
      ≡ test_case set (times test.name (take (i + 1) tests)) test
      ++ test_cases set (take (i + 1) tests) (drop (i + 1) tests)
  cases_more set =
      let one : Test = get_or tests i test in
      let behind : List Test = drop (i + 1) tests in
      ap (λ (ts : List Test). test_cases set (take i tests) ts) (drop_more tests i test inside)
      ∙ ap (λ (ts : List Test). test_case set (times one.name ts) one ++ test_cases set ts behind)
      (sym (take_more tests i test inside))
      ∙ ap (λ (t : Test). test_case set (times t.name (take (i + 1) tests)) t
      ++ test_cases set (take (i + 1) tests) behind) (sym is)

  -- with a map that counts the tests before it
  module _ {S : Type 0} (before : IndexMap (List ℕ) ℕ S) (are : AreCounted before (take i tests)) where
    -- its turn
    pub turn_is : times_in before test.name + 1 ≡ times test.name (take (i + 1) tests)
    turn_is =
        ap (λ (n : ℕ). n + 1) (are test.name)
        ∙ sym (times_same test.name ((bytes_eq-Decides test.name test.name).1 refl))

    -- it is counted
    pub counted_more : (after : IndexMap (List ℕ) ℕ S)
        → Updates bytes_eq before after test.name (Some (times_in before test.name + 1))
        → AreCounted after (take (i + 1) tests)
    counted_more after updated name =
        ap (λ (o : Option ℕ). unwrap_or o 0) (updated.0 name) ∙ by (bytes_eq test.name name) refl
      where
        by : (b : Bool) → bytes_eq test.name name ≡ b
            → unwrap_or (cond b (Some (times_in before test.name + 1)) (get bytes_eq before name)) 0
            ≡ times name (take (i + 1) tests)
        by true same =
            ap (λ (n : ℕ). n + 1)
            (ap (λ (of : List ℕ). times_in before of) ((bytes_eq-Decides test.name name).0 same) ∙ are name)
            ∙ sym (times_same name same)
        by false other = are name ∙ sym (times_other name other)

-- one test case was added, and the rest is left
pub case_added : (start text next one rest all whole : List ℕ) → next ≡ text ++ one
    → all ≡ one ++ rest → text ++ all ≡ start ++ whole → next ++ rest ≡ start ++ whole
case_added start text next one rest all whole added parts so =
    ap (λ (t : List ℕ). t ++ rest) added
    ∙ append_assoc text one rest
    ∙ ap (λ (t : List ℕ). text ++ t) (sym parts)
    ∙ so
