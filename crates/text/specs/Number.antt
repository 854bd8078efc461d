-- Tokens read as numbers.
use Rattle.std.specs.Prelude.{ℕ, ◌^◌, nat_eq, nat_lt, List, [], ◌∷◌, if◌then◌else◌, drop}
use Rattle.std.specs.Str.Parse.{digits_value}
use Rattle.text.specs.declared.number.Numeral.{Numeral}
use Rattle.text.specs.declared.number.Numeral.TheVariants.{Other, TooLarge, Number}
use Rattle.text.specs.Class.{is_number, is_numeral, is_prefixed}

-- a number, or that it is too large for 64 bits
abbrev pub sized : ℕ → Numeral
sized n = if nat_lt n (2 ^ 64) then Number n else TooLarge

-- what the digits of a number write: decimal, or hexadecimal after `0x`
abbrev pub number_value : List ℕ → ℕ
number_value token =
    if is_prefixed token then digits_value 16 (drop 2 token) else digits_value 10 token

-- a token read as a number
abbrev pub number_in : List ℕ → Numeral
number_in token = if is_number token then sized (number_value token) else Other

-- digits in this radix read as a number
abbrev pub numeral_in : ℕ → List ℕ → Numeral
numeral_in radix ds = if is_numeral radix ds then sized (digits_value radix ds) else Other

-- the letter, then decimal digits
abbrev pub numbered_in : ℕ → List ℕ → Numeral
numbered_in letter [] = Other
numbered_in letter (b ∷ bs) = if nat_eq b letter then numeral_in 10 bs else Other
