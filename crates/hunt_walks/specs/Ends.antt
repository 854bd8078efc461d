-- Where walks come to their ends: no move may be made there.
use Rattle.std.specs.Prelude.{ℕ, ◌≡◌, ◌&&◌, not, zero, suc, Bool, true, false, List, Option, None, Some}

-- none of so many moves may be made behind a walk
abbrev pub is_rest : (List ℕ → ℕ → Bool) → List ℕ → ℕ → Bool
is_rest may path zero = true
is_rest may path (suc m) = is_rest may path m && not (may path m)

-- who stands behind it, if so
abbrev pub IsAtEnd : {W : Type 0} → (List ℕ → ℕ → Bool) → (List ℕ → W → Type 0) → ℕ → List ℕ
    → Option W → Type 0
IsAtEnd may stands moves path None = is_rest may path moves ≡ false
IsAtEnd may stands moves path (Some place) =
    (is_rest may path moves ≡ true) × stands path place
