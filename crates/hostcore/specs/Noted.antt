-- What contracts see of an index.
use Rattle.std.specs.Prelude.{ℕ, Bool, List, Option, option_map}
use Rattle.std.specs.List.{find}

-- what was noted, in order, and how much can be noted in all
abbrev pub Noted : Type 0 → Type 0 → Type 0
Noted K V = List (K × V) × ℕ

module _ {K V : Type 0} where
  abbrev pub noted : Noted K V → List (K × V)
  noted index = index.0

  abbrev pub room : Noted K V → ℕ
  room index = index.1

  -- what was noted of a key first
  abbrev pub first_of : (K → K → Bool) → List (K × V) → K → Option V
  first_of eq entries key = option_map (λ (e : K × V). e.1) (find (λ (e : K × V). eq e.0 key) entries)

  abbrev pub get : (K → K → Bool) → Noted K V → K → Option V
  get eq index key = first_of eq (noted index) key
