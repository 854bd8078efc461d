-- Lists of slots, by the numbers of the lists.
use Rattle.std.specs.Prelude.{ℕ, Bool, not, List, [], slice_index_or, slice_set}
use Rattle.std.specs.List.{list_any}
use Rattle.model.specs.Queues.{is_linked}

-- how many slots there are, and for the number of each list the slots in it, the first one first
pub record Lists : Type 0 where
  pub slots : ℕ
  pub lists : List (List ℕ)

-- the slots in a list
abbrev pub entries_of : Lists → ℕ → List ℕ
entries_of links list = slice_index_or links.lists list []

-- the same with other slots in a list
abbrev pub with_entries : Lists → ℕ → List ℕ → Lists
with_entries links list entries = record links { lists = slice_set links.lists list entries }

-- a slot is in no list
abbrev pub is_free : Lists → ℕ → Bool
is_free links slot = not (list_any (λ entries. is_linked entries slot) links.lists)
