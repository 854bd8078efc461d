-- A text cut into lines, and a line into tokens.
use Rattle.std.specs.Prelude.{ℕ, Bool, nat_eq, ◌||◌, List, [], ◌∷◌, ◌++◌, if◌then◌else◌, Option, Some, None, take, position}
use Rattle.std.specs.Int.{is_in_range}
use Rattle.std.specs.List.{list_all}

-- what is held when a piece ends: the piece, or nothing where it has no byte
abbrev pub closed : List ℕ → List (List ℕ)
closed [] = []
closed (b ∷ bs) = (b ∷ bs) ∷ []

-- the lines of a text of which the bytes held have been read since the last LF
abbrev pub lines_from : List ℕ → List ℕ → List (List ℕ)
lines_from held [] = closed held
lines_from held (b ∷ bs) =
    if nat_eq b 10 then held ∷ lines_from [] bs else lines_from (held ++ b ∷ []) bs

-- the lines of a text, each without its LF
abbrev pub lines_of : List ℕ → List (List ℕ)
lines_of text = lines_from [] text

-- tab, CR and space part tokens
abbrev pub is_blank : ℕ → Bool
is_blank b = nat_eq b 9 || nat_eq b 13 || nat_eq b 32

-- what stands between blanks, where the bytes held have been read since the last of them
abbrev pub parts_from : List ℕ → List ℕ → List (List ℕ)
parts_from held [] = closed held
parts_from held (b ∷ bs) =
    if is_blank b then closed held ++ parts_from [] bs else parts_from (held ++ b ∷ []) bs

-- what stands before an index, or all where there is none
abbrev pub before : Option ℕ → List ℕ → List ℕ
before None line = line
before (Some n) line = take n line

-- where the comment begins: at the first `;`
abbrev pub comment_at : List ℕ → Option ℕ
comment_at line = position (λ b. nat_eq b 59) line

-- what stands before the comment
abbrev pub code_of : List ℕ → List ℕ
code_of line = before (comment_at line) line

-- the tokens of a line
abbrev pub tokens_of : List ℕ → List (List ℕ)
tokens_of line = parts_from [] (code_of line)

-- tab, CR, and space to tilde may stand in a line
abbrev pub is_written : ℕ → Bool
is_written b = nat_eq b 9 || nat_eq b 13 || is_in_range 32 126 b

-- each byte of the line may stand there
abbrev pub is_clean : List ℕ → Bool
is_clean line = list_all is_written line
