-- Numbers in decimal digits at the head of bytes.
use Rattle.std.specs.Prelude.{◌≡◌, ℕ, ◌<◌, ◌≤◌, List, [], ◌∷◌, ◌++◌, length}
use Rattle.std.specs.Str.Parse.{digits_value}

-- each byte is a decimal digit
abbrev pub Digits : List ℕ → Type 0
Digits [] = Unit {0}
Digits (b ∷ bytes) = (48 ≤ b) × (b ≤ 57) × Digits bytes

-- the bytes begin with so many digits at most that write the number, and the rest stands after them
pub record BeginsWith (most : ℕ) (bytes : List ℕ) (number : ℕ) (rest : List ℕ) : Type 0 where
  pub digits : List ℕ
  pub some : 0 < length digits
  pub few : length digits ≤ most
  pub all : Digits digits
  pub writes : number ≡ digits_value 10 digits
  pub parts : bytes ≡ digits ++ rest
