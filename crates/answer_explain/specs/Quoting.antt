-- How a command names a file, so that a shell reads its name (POSIX, Shell Command Language, 2.2).
use Rattle.std.specs.Prelude.{ℕ, ◌≡◌, ◌++◌, ◌||◌, Bool, false, codes, if◌then◌else◌, List, []}
use Rattle.std.specs.Prelude.{◌∷◌, nat_eq, Option, Some, None}
use Rattle.std.specs.Char.{is_ascii_alphanumeric}
use Rattle.std.specs.Int.{is_in_range}
use Rattle.std.specs.List.{list_all}

-- a byte that a shell takes as it stands: a letter, a digit, or one of `%+,-./:=@_`
abbrev pub is_plain : ℕ → Bool
is_plain b =
    is_ascii_alphanumeric b || (nat_eq b 37 || (is_in_range 43 47 b || (nat_eq b 58
    || (nat_eq b 61 || (nat_eq b 64 || nat_eq b 95)))))

-- some bytes, each of which it takes so
abbrev pub is_bare : List ℕ → Bool
is_bare [] = false
is_bare (b ∷ bs) = list_all is_plain (b ∷ bs)

-- a byte between single quotes, where each stands for itself but a quote: they are closed before
-- one, it stands behind a backslash, and they are opened again
abbrev pub between : ℕ → List ℕ
between b = if nat_eq b 39 then 39 ∷ 92 ∷ 39 ∷ 39 ∷ [] else b ∷ []

abbrev pub all_between : List ℕ → List ℕ
all_between [] = []
all_between (b ∷ bs) = between b ++ all_between bs

-- what a shell reads as these bytes
abbrev pub quoted : List ℕ → List ℕ
quoted bytes = if is_bare bytes then bytes else 39 ∷ (all_between bytes ++ 39 ∷ [])

-- a name that begins with a dash would be an option: it is looked for in the folder where the
-- command runs; `-` alone is the standard input
abbrev pub head_of : List ℕ → List ℕ
head_of [] = []
head_of (b ∷ []) = []
head_of (b ∷ c ∷ bs) = if nat_eq b 45 then codes "./" else []

-- the word by which a command names the file of a name
abbrev pub word_of : List ℕ → List ℕ
word_of name = head_of name ++ quoted name

-- where in a word a shell reads: outside of quotes, behind a backslash there, or between quotes
pub data Reading : Type 0 where
  Outside : Reading
  Escaped : Reading
  Quoted : Reading

-- a byte before what is read of the others
abbrev pub read_on : ℕ → Option (List ℕ) → Option (List ℕ)
read_on b None = None
read_on b (Some bs) = Some (b ∷ bs)

-- what a shell reads a word as: outside of quotes a byte that it takes as it stands is itself, a
-- backslash lets the next one stand for itself, but takes a line feed away, and a single quote
-- begins what is quoted (2.2.1, 2.2.2); between them each byte is itself up to the next quote. Of
-- other words nothing is said
abbrev pub read : Reading → List ℕ → Option (List ℕ)
read Outside [] = Some []
read Outside (b ∷ bs) =
    if is_plain b then read_on b (read Outside bs) else
    (if nat_eq b 92 then read Escaped bs else (if nat_eq b 39 then read Quoted bs else None))
read Escaped [] = None
read Escaped (b ∷ bs) =
    if nat_eq b 10 then read Outside bs else read_on b (read Outside bs)
read Quoted [] = None
read Quoted (b ∷ bs) = if nat_eq b 39 then read Outside bs else read_on b (read Quoted bs)

-- a shell reads the word that names a file as its name, behind the folder where the command runs
-- if it would be an option
abbrev pub WordsAreRead : Type 0
WordsAreRead = (name : List ℕ) → read Outside (word_of name) ≡ Some (head_of name ++ name)
