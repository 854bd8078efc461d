-- How often the names of tests have come.
use Rattle.std.specs.Prelude.{ℕ, ◌≡◌, List, bytes_eq}
use Rattle.std.specs.Map.{count_at}
use Rattle.indexmap.specs.IndexMap.{IndexMap, get}
use Rattle.drvhost_tests.specs.Reports.{times}
use Rattle.drvhost_tests.specs.Test.{Test}

-- how often a name has come, by a map of those that have
abbrev pub times_in : {S : Type 0} → IndexMap (List ℕ) ℕ S → List ℕ → ℕ
times_in counts name = count_at (get bytes_eq counts) name

-- a map that says it of these tests
abbrev pub AreCounted : {S : Type 0} → IndexMap (List ℕ) ℕ S → List Test → Type 0
AreCounted counts tests = (name : List ℕ) → times_in counts name ≡ times name tests
