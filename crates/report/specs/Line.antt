-- A line of output.
use Rattle.std.specs.Prelude.{ℕ, List, [], ◌∷◌, ◌++◌}

-- words with one space between them, and an LF at the end
abbrev pub line_of : List (List ℕ) → List ℕ
line_of [] = 10 ∷ []
line_of (word ∷ []) = word ++ 10 ∷ []
line_of (word ∷ words) = word ++ 32 ∷ line_of words
