-- Packet numbers in a row, behind some that were taken off its front.
use Rattle.std.specs.Prelude.{ℕ, ◌≡◌, ◌+◌, ◌*◌, ◌<◌, ◌≤◌, AllPairs, Bool, true, List, drop, length}
use Rattle.model.specs.declared.limits.TheConstants.{MAX_ENTRIES}

-- how many places a row has, for numbers that are in it and for those that were taken off
abbrev pub row_places : ℕ
row_places = 2 * MAX_ENTRIES

-- each number is greater than all before it
abbrev pub IsRising : List ℕ → Type 0
IsRising entries = AllPairs (λ x y. x < y) entries

-- of these numbers so many were taken off the front, the others are few enough, all have their
-- places, and the others rise where they are said to
pub record IsRow (numbers : List ℕ) (gone capacity : ℕ) (rising : Bool) : Type 0 where
  pub within : gone ≤ length numbers
  pub few : length numbers ≤ gone + MAX_ENTRIES
  pub placed : length numbers ≤ row_places
  pub room : row_places ≤ capacity
  pub rises : rising ≡ true → IsRising (drop gone numbers)
