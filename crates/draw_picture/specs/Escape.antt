-- Bytes as the text of an element of a picture.
use Rattle.std.specs.Prelude.{ℕ, Bool, ◌&&◌, nat_eq, nat_le, List, [], ◌∷◌, codes, flat_map, if◌then◌else◌}

-- what can be read: a blank and what ASCII has behind it, but for the last code, which is none
abbrev pub is_printable : ℕ → Bool
is_printable b = nat_le 32 b && nat_le b 126

-- a byte: markup as its entity, and what can't be read as a question mark
abbrev pub escaped_byte : ℕ → List ℕ
escaped_byte b =
    if nat_eq b 60 then codes "&lt;" else (if nat_eq b 62 then codes "&gt;" else (if nat_eq b 38
    then codes "&amp;" else (if nat_eq b 34 then codes "&quot;" else (if is_printable b then b ∷ []
    else codes "?"))))

-- bytes, each by itself
abbrev pub escaped : List ℕ → List ℕ
escaped bytes = flat_map escaped_byte bytes
