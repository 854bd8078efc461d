-- Words that each stand after one space.
use Rattle.std.specs.Prelude.{◌≡◌, ℕ, Bool, true, false, nat_eq, not, ◌&&◌, List, [], ◌∷◌, ◌++◌, length}
use Rattle.std.specs.List.{list_all}
use Rattle.text.specs.Class.{is_token}
use Rattle.text.specs.Cut.{is_blank, is_written}

-- a byte that may stand in a line, parts no tokens and begins no comment
abbrev pub is_inner : ℕ → Bool
is_inner b = not (nat_eq b 59) && not (is_blank b) && is_written b

-- a token, apart from where it stands
pub record IsPlain (word : List ℕ) : Type 0 where
  pub some : nat_eq (length word) 0 ≡ false
  pub inner : list_all is_inner word ≡ true
  pub token : is_token word ≡ true

abbrev pub ArePlain : List (List ℕ) → Type 0
ArePlain [] = Unit {0}
ArePlain (word ∷ words) = IsPlain word × ArePlain words

-- each word after a space
abbrev pub spaced : List (List ℕ) → List ℕ
spaced [] = []
spaced (word ∷ words) = 32 ∷ word ++ spaced words
