-- How the entries of an index are linked: those of one slot to each other, from the last to the first.
use Rattle.std.specs.Prelude.{ℕ, ◌≡◌, ◌<◌, ◌≤◌, ◌-◌, ◌%◌, Bool, true, List, None, Some, drop, get_or, length, nat_eq, slice_get, take}
use Rattle.std.specs.List.{find}

module _ {K V : Type 0} (number : K → ℕ) (slots : ℕ) where
  abbrev pub slot_of : K × V → ℕ
  slot_of e = number e.0 % slots

  abbrev pub is_in : ℕ → K × V → Bool
  is_in slot e = nat_eq (slot_of e) slot

  -- the last entry of a slot stands before this place, or there is none and this is 0
  pub record IsEnd (slot : ℕ) (entries : List (K × V)) (end : ℕ) : Type 0 where
    pub within : end ≤ length entries
    pub rest : find (is_in slot) (drop end entries) ≡ None
    pub stands : (e : K × V) → 0 < end → slice_get entries (end - 1) ≡ Some e
        → is_in slot e ≡ true

  pub record IsLinked (heads nexts : List ℕ) (entries : List (K × V)) : Type 0 where
    pub long : length nexts ≡ length entries
    pub ends : (slot : ℕ) → IsEnd slot entries (get_or heads slot 0)
    pub links : (place : ℕ) (e : K × V) → slice_get entries place ≡ Some e
        → IsEnd (slot_of e) (take place entries) (get_or nexts place 0)
