-- Places of lines in a text.
use Rattle.std.specs.Prelude.{ℕ, ◌≡◌, ◌+◌, ◌-◌, List, [], ◌∷◌, length, map, take}
use Rattle.text.specs.Cut.{lines_of}
use Rattle.text.specs.declared.spot.Spot.{Spot}

-- the bytes of lines, each with its LF
abbrev pub bytes_of : List (List ℕ) → ℕ
bytes_of [] = 0
bytes_of (line ∷ lines) = length line + 1 + bytes_of lines

-- how many bytes stand in a text before the line of an index, from 0
abbrev pub bytes_before : List ℕ → ℕ → ℕ
bytes_before text index = bytes_of (take index (lines_of text))

-- this is where the line of its number stands in a text before which so many lines stand, so that
-- its first has the number behind them
pub record IsIn (skipped : ℕ) (text : List ℕ) (spot : Spot) : Type 0 where
  pub start : spot.start ≡ bytes_before text (spot.number - skipped - 1)
  pub before : spot.before ≡ bytes_before text (spot.number - skipped - 2)
  pub earlier : spot.earlier ≡ bytes_before text (spot.number - skipped - 3)

-- the numbers of lines
abbrev pub numbers : List Spot → List ℕ
numbers spots = map (λ spot. spot.number) spots

-- a text that is read line by line: so many lines stand before it, so many of its own were taken,
-- and these are left
pub record Reading : Type 0 where
  pub text : List ℕ
  pub skipped : ℕ
  pub taken : ℕ
  pub left : List (List ℕ)
