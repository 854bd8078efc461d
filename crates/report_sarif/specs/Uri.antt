-- The name of a file as a relative reference (RFC 3986): what is no unreserved character and no `/`
-- is escaped, byte by byte. Slashes that stand together are one: two at the start would begin the
-- name of a host (4.2), and between two others there would be a part without a name (3.3).
use Rattle.std.specs.Prelude.{ℕ, ◌/◌, ◌%◌, ◌+◌, ◌&&◌, ◌||◌, Bool, false, nat_eq, nat_lt, List, [], ◌∷◌, ◌++◌, if◌then◌else◌}
use Rattle.std.specs.Char.{is_ascii_alphanumeric}

-- a byte that stands for itself: a letter, a digit, or one of `-`, `.`, `_`, `~` and `/`
abbrev pub is_plain : ℕ → Bool
is_plain b =
    is_ascii_alphanumeric b || (nat_eq b 45 || (nat_eq b 46 || (nat_eq b 95
    || (nat_eq b 126 || nat_eq b 47))))

-- a hexadecimal digit in capitals
abbrev pub hexadecimal : ℕ → ℕ
hexadecimal digit = if nat_lt digit 10 then 48 + digit else 55 + digit

-- a byte, escaped or not
abbrev pub escaped : ℕ → List ℕ
escaped b =
    if is_plain b then b ∷ []
    else 37 ∷ hexadecimal (b / 16) ∷ hexadecimal (b % 16) ∷ []

-- what parts the names of a path
abbrev pub is_slash : ℕ → Bool
is_slash b = nat_eq b 47

-- a byte behind a slash, or behind another byte
abbrev pub behind : Bool → ℕ → List ℕ
behind slashed b = if slashed && is_slash b then [] else escaped b

abbrev pub all_behind : Bool → List ℕ → List ℕ
all_behind slashed [] = []
all_behind slashed (b ∷ bs) = behind slashed b ++ all_behind (is_slash b) bs

-- all bytes of a name
abbrev pub uri_of : List ℕ → List ℕ
uri_of name = all_behind false name
