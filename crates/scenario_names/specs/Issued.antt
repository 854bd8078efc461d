-- The packets that lines issue, found by their names.
use Rattle.std.specs.Prelude.{ℕ, ◌≡◌, List, bytes_eq}
use Rattle.indexmap.specs.IndexMap.{IndexMap, get}
use Rattle.scenario_names.specs.Operands.{last_named}

-- a map has the place of the last packet of each name
abbrev pub IsIndex : {S : Type 0} → IndexMap (List ℕ) ℕ S → List (List ℕ) → Type 0
IsIndex places packets = (name : List ℕ) → get bytes_eq places name ≡ last_named packets name
