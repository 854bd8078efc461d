-- Numbers of places, as they are kept.
use Rattle.std.specs.Prelude.{ℕ, zero, suc, List, [], ◌∷◌}

-- the number of a place for which this is kept: its own for 0, one less for any other
abbrev pub number_kept : ℕ → ℕ → ℕ
number_kept place zero = place
number_kept place (suc number) = number

-- those of the places from one on
unfoldable pub numbers_kept : ℕ → List ℕ → List ℕ
numbers_kept place [] = []
numbers_kept place (kept ∷ others) = number_kept place kept ∷ numbers_kept (suc place) others
