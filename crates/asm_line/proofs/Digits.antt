-- The digits of decimal numbers, and names and operands that end in them.
use Rattle.std.proofs.Common.{◌≡◌, ℕ, suc, ◌-◌, ◌≤◌, ◌<◌, ◌^◌, Bool, true, false, not, ◌||◌, List, [], ◌∷◌, ◌++◌, length, refl, ap, ◌∙◌, arith}
use Rattle.std.proofs.Math.Bool.{and-false, or-true}
use Rattle.std.specs.Prelude.{nat_eq, nat_le, nat_lt, drop, take, Some, is_some, slice_index}
use Rattle.std.specs.Char.{is_digit}
use Rattle.std.specs.Fmt.{decimal}
use Rattle.std.specs.List.{list_all}
use Rattle.std.specs.Str.Parse.{digits_value, AllDigits}
use Rattle.std.proofs.Math.Dec.{eqb-suc-zero}
use Rattle.std.proofs.Math.Seq.{get_or-append_seam, take-append_seam}
use Rattle.std.proofs.lemmas.List.{length-append}
use Rattle.std.proofs.lemmas.Bool.{le-leb, or_left}
use Rattle.std.proofs.lemmas.Bool.Decides.{nat_tests}
use Rattle.std.proofs.lemmas.Fmt.{decimal_injective, decimal_is_IsNumeral, decimal_nonempty, length-decimal-le}
use Rattle.std.proofs.lemmas.Str.Parse.{tells_digits}
use Rattle.text.specs.Class.{is_name, is_name_byte, is_number, is_numeral, is_prefixed, is_name_start, is_token, is_word, label_name}
use Rattle.text.specs.Number.{number_in, numeral_in, sized}
use Rattle.text.specs.declared.number.Numeral.TheVariants.{Number}
use Rattle.asm_line.specs.ListedWords.{numbered}

-- a number of 64 bits
abbrev pub IsSmall : ℕ → Type 0
IsSmall n = n < 2 ^ 64

-- what holds of each digit holds of the digits of a number
digits_pass : (p : ℕ → Bool) → ((b : ℕ) → 48 ≤ b → b ≤ 57 → p b ≡ true)
    → (ds : List ℕ) → AllDigits 10 ds → list_all p ds ≡ true
digits_pass p each [] h = refl
digits_pass p each (d ∷ ds) h =
    let range = (tells_digits.parts d ds h).0 in
    rw (each d range.0 range.1) (digits_pass p each ds h.1)

pub decimal_passes : (p : ℕ → Bool) → ((b : ℕ) → 48 ≤ b → b ≤ 57 → p b ≡ true)
    → (n : ℕ) → IsSmall n → list_all p (decimal n) ≡ true
decimal_passes p each n small = digits_pass p each (decimal n) (decimal_is_IsNumeral n small).0.1

digit_is_digit : (b : ℕ) → 48 ≤ b → b ≤ 57 → is_digit b 10 ≡ true
digit_is_digit b low high = grind (arith, nat_tests)

digit_is_name : (b : ℕ) → 48 ≤ b → b ≤ 57 → is_name_byte b ≡ true
digit_is_name b low high = grind (arith, nat_tests)

not_empty : (ds : List ℕ) → 0 < length ds → not (nat_eq (length ds) 0) ≡ true
not_empty [] some = absurd (omega (arith, some))
not_empty (d ∷ ds) some = ap (λ (b : Bool). not b) (eqb-suc-zero (length ds))

-- digits have no prefix
no_prefix : (ds : List ℕ) → AllDigits 10 ds → is_prefixed ds ≡ false
no_prefix [] h = refl
no_prefix (d ∷ []) h = and-false (nat_eq 48 d)
no_prefix (d ∷ e ∷ ds) h =
    let range = (tells_digits.parts e ds h.1).0 in
    grind (arith, nat_tests, range.0, range.1)

-- the digits of a number are a numeral, which is read back as the number
pub is_decimal : (n : ℕ) → IsSmall n → is_numeral 10 (decimal n) ≡ true
is_decimal n small =
    rw (
      not_empty (decimal n) (decimal_nonempty n small),
      decimal_passes (λ b. is_digit b 10) digit_is_digit n small,
    ) refl

numeral_sized : (n : ℕ) → IsSmall n → sized (digits_value 10 (decimal n)) ≡ Number n
numeral_sized n small =
    let fits : nat_lt n (2 ^ 64) ≡ true = grind (arith, nat_tests) in
    ap (λ (m : ℕ). sized m) (decimal_is_IsNumeral n small).1 ∙ rw fits refl

pub numeral_back : (n : ℕ) → IsSmall n → numeral_in 10 (decimal n) ≡ Number n
numeral_back n small =
    rw (is_decimal n small) (numeral_sized n small)

pub number_back : (n : ℕ) → IsSmall n → number_in (decimal n) ≡ Number n
number_back n small =
    let plain = no_prefix (decimal n) (decimal_is_IsNumeral n small).0.1 in
    rw (plain, is_decimal n small) (numeral_sized n small)

-- a number is a token
pub number_token : (n : ℕ) → IsSmall n → is_token (decimal n) ≡ true
number_token n small =
    let plain = no_prefix (decimal n) (decimal_is_IsNumeral n small).0.1 in
    let number : is_number (decimal n) ≡ true = rw plain (is_decimal n small) in
    rw number (or_left _ (is_some (label_name (decimal n)))
    (or-true (is_name (decimal n) || is_word (decimal n))))

-- a small letter and a number are a name
pub named : (letter n : ℕ) → is_name_start letter ≡ true → IsSmall n
    → is_name (numbered letter n) ≡ true
named letter n start small =
    let few = length-decimal-le 20 n (omega arith) (omega arith) small in
    let short : nat_le (suc (length (decimal n))) 32 ≡ true =
    le-leb (suc (length (decimal n))) 32 (omega (arith, few)) in
    let all = decimal_passes is_name_byte digit_is_name n small in
    rw (start, short, all) refl

-- two of them with the same letter are the same where their numbers are
pub same_number : (letter m n : ℕ) → IsSmall m → IsSmall n
    → numbered letter m ≡ numbered letter n → m ≡ n
same_number letter m n first second is =
    decimal_injective m n first second (ap (λ (t : List ℕ). drop 1 t) is)

last_place : (xs : List ℕ) (x : ℕ) → length (xs ++ x ∷ []) - 1 ≡ length xs
last_place xs x = let long = length-append xs (x ∷ []) in omega (arith, long)

-- the name of a label is what stands before the colon
last_is : (xs : List ℕ) (x : ℕ) → slice_index (xs ++ x ∷ []) (length (xs ++ x ∷ []) - 1) ≡ x
last_is xs x = rw (last_place xs x) (get_or-append_seam xs x [] 0)

front_is : (xs : List ℕ) (x : ℕ) → take (length (xs ++ x ∷ []) - 1) (xs ++ x ∷ []) ≡ xs
front_is xs x = rw (last_place xs x) (take-append_seam xs (x ∷ []))

pub label_back : (xs : List ℕ) → is_name xs ≡ true → label_name (xs ++ 58 ∷ []) ≡ Some xs
label_back xs name = rw (last_is xs 58, front_is xs 58, name) refl
