-- The forms of a token.
use Rattle.std.specs.Prelude.{ℕ, ◌-◌, Bool, false, nat_eq, nat_le, not, ◌&&◌, ◌||◌, List, [], ◌∷◌, length, take, drop, slice_index, if◌then◌else◌, Option, Some, None, is_some}
use Rattle.std.specs.Char.{is_ascii_digit, is_ascii_lowercase, is_ascii_uppercase, is_digit}
use Rattle.std.specs.List.{list_all, starts_with}
use Rattle.text.specs.declared.class.TheConstants.{MAX_NAME}

-- a small letter or `_`
abbrev pub is_name_start : ℕ → Bool
is_name_start b = is_ascii_lowercase b || nat_eq b 95

-- a small letter, a digit or `_`
abbrev pub is_name_byte : ℕ → Bool
is_name_byte b = is_name_start b || is_ascii_digit b

-- a capital letter or `_`
abbrev pub is_word_byte : ℕ → Bool
is_word_byte b = is_ascii_uppercase b || nat_eq b 95

-- the first byte may begin a name
abbrev pub begins_name : List ℕ → Bool
begins_name [] = false
begins_name (b ∷ bs) = is_name_start b

-- a name: not too long, and it begins with no digit
abbrev pub is_name : List ℕ → Bool
is_name token = begins_name token && nat_le (length token) MAX_NAME && list_all is_name_byte token

-- a word in capitals and underscores
abbrev pub is_word : List ℕ → Bool
is_word token = not (nat_eq (length token) 0) && list_all is_word_byte token

-- digits in this radix, at least one
abbrev pub is_numeral : ℕ → List ℕ → Bool
is_numeral radix ds = not (nat_eq (length ds) 0) && list_all (λ b. is_digit b radix) ds

-- `0x`, after which a number is hexadecimal
abbrev pub is_prefixed : List ℕ → Bool
is_prefixed token = starts_with nat_eq token (48 ∷ 120 ∷ [])

-- a number: decimal digits, or `0x` and hexadecimal digits
abbrev pub is_number : List ℕ → Bool
is_number token = if is_prefixed token then is_numeral 16 (drop 2 token) else is_numeral 10 token

-- the bytes before the last one, where that is a colon and they are a name
abbrev pub label_name : List ℕ → Option (List ℕ)
label_name token =
    let name = take (length token - 1) token in
    if nat_eq (slice_index token (length token - 1)) 58 && is_name name then Some name else None

-- one of the four forms
abbrev pub is_token : List ℕ → Bool
is_token token = is_name token || is_word token || is_number token || is_some (label_name token)
