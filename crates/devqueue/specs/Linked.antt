-- How rings of nodes and the list of each slot show lists of slots.
use Rattle.std.specs.Prelude.{◌≡◌, ◌<◌, ◌+◌, ◌-◌, ◌^◌, ⊤, ℕ, zero, suc, Bool, false, List, [], ◌∷◌, length, nat_eq, nat_lt, Option, None, Some, slice_index_or, if◌then◌else◌}
use Rattle.model.specs.Queues.{is_linked}
use Rattle.devqueue.specs.Rings.{after}

-- the slots, each below a bound, that come after a node, at most so many
unfoldable pub walk : (ℕ → ℕ) → ℕ → ℕ → ℕ → List ℕ
walk next slots zero node = []
walk next slots (suc most) node =
    if nat_lt (next node) slots then next node ∷ walk next slots most (next node) else []

-- those after so many nodes from one on
unfoldable pub walks : (ℕ → ℕ) → ℕ → ℕ → ℕ → List (List ℕ)
walks next slots zero node = []
walks next slots (suc count) node =
    walk next slots slots node ∷ walks next slots count (suc node)

-- the lists: each has a node of its own after the slots, from which its ring begins
unfoldable pub lists_shown : List ℕ → List (Option ℕ) → List (List ℕ)
lists_shown nodes list_of =
    walks (after nodes) (length list_of) (length nodes - length list_of) (length list_of)

-- what follows one node up to another
abbrev pub Path : (ℕ → ℕ) → ℕ → List ℕ → ℕ → Type 0
Path next from [] to = next from ≡ to
Path next from (n ∷ between) to = (next from ≡ n) × Path next n between to

-- a slot's list is this one
abbrev pub is_list : ℕ → Option ℕ → Bool
is_list list None = false
is_list list (Some other) = nat_eq other list

-- no slot stands twice
abbrev pub IsOnce : List ℕ → Type 0
IsOnce [] = ⊤
IsOnce (n ∷ entries) = (is_linked entries n ≡ false) × IsOnce entries

-- the rings and the list of each slot agree with the lists
pub record AreLinked (nodes : List ℕ) (list_of : List (Option ℕ)) (lists : List (List ℕ))
    : Type 0 where
  pub count : length nodes ≡ length list_of + length lists
  pub fits : length nodes < 2 ^ 32
  pub free : (slot : ℕ) → slice_index_or list_of slot None ≡ None → slot < length list_of
      → after nodes slot ≡ slot
  pub paths : (list : ℕ) → list < length lists
      → Path (after nodes) (length list_of + list) (slice_index_or lists list [])
      (length list_of + list)
  pub listed : (list slot : ℕ) → is_linked (slice_index_or lists list []) slot
      ≡ is_list list (slice_index_or list_of slot None)
  pub once : (list : ℕ) → IsOnce (slice_index_or lists list [])
