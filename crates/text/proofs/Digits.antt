-- Decimal digits write a number, and are a token.
use Rattle.std.proofs.Common.{◌≡◌, ℕ, ◌+◌, ◌*◌, ◌<◌, ◌≤◌, ◌^◌, nat_eq, true, false, Bool, ◌||◌, ◌&&◌, List, [], ◌∷◌, ◌++◌, length, get_or, take, drop, is_some, refl, sym, arith}
use Rattle.std.proofs.lemmas.Int.Digits.{digits_value_more}
use Rattle.std.proofs.lemmas.List.{take-append-drop, take_more}
use Rattle.std.proofs.lemmas.Bool.{ne_eqb, lt-ltb}
use Rattle.std.proofs.lemmas.Bool.Decides.{nat_tests}
use Rattle.std.specs.Char.{is_digit, digit_value}
use Rattle.std.specs.List.{list_all}
use Rattle.std.specs.Str.Parse.{digits_value}
use Rattle.text.specs.Class.{is_name, is_word, is_number, is_prefixed, label_name}
use Rattle.text.specs.Digits.{BeginsWith, Digits}
use Rattle.text.specs.Number.{number_in}
use Rattle.text.specs.Spaced.{is_inner, IsPlain}
use Rattle.text.specs.declared.number.Numeral.TheVariants.{Number}

-- a word and what stands behind it
pub parted : (bytes : List ℕ) (i : ℕ) → bytes ≡ take i bytes ++ drop i bytes
parted bytes i = sym (take-append-drop i bytes)

-- what the reading asks of a digit
plain_digit : (b : ℕ) → 48 ≤ b → b ≤ 57 → (is_inner b ≡ true) × (is_digit b 10 ≡ true)
    × (nat_eq 120 b ≡ false)
plain_digit b low high =
    (grind (arith, nat_tests), grind (arith, nat_tests), grind (arith, nat_tests))

pub all_inner : (ds : List ℕ) → Digits ds → list_all is_inner ds ≡ true
all_inner [] digits = refl
all_inner (d ∷ ds) (low, high, digits) =
    let is = plain_digit d low high in rw (is.0) (all_inner ds digits)

pub all_digits : (ds : List ℕ) → Digits ds → list_all (λ b. is_digit b 10) ds ≡ true
all_digits [] digits = refl
all_digits (d ∷ ds) (low, high, digits) =
    let is = plain_digit d low high in rw (is.1) (all_digits ds digits)

-- digits are a number and a token
and_no : (a : Bool) → (a && false) ≡ false
and_no true = refl
and_no false = refl

not_prefixed : (ds : List ℕ) → Digits ds → is_prefixed ds ≡ false
not_prefixed [] digits = refl
not_prefixed (d ∷ []) digits = and_no (nat_eq 48 d)
not_prefixed (d ∷ e ∷ ds) (low, high, (below, above, digits)) =
    let is = plain_digit e below above in rw (is.2) (and_no (nat_eq 48 d))

pub some_bytes : (ds : List ℕ) → 0 < length ds → nat_eq (length ds) 0 ≡ false
some_bytes ds some = ne_eqb (length ds) 0 (λ e. omega (arith, e))

pub digits_form : (ds : List ℕ) → 0 < length ds → Digits ds → is_number ds ≡ true
digits_form ds some digits =
    rw (not_prefixed ds digits, all_digits ds digits, some_bytes ds some) refl

or_third : (a b c e : Bool) → c ≡ true → (a || b || c || e) ≡ true
or_third true b c e is = refl
or_third false true c e is = refl
or_third false false c e is = rw is refl

pub digits_plain : (ds : List ℕ) → 0 < length ds → Digits ds → IsPlain ds
digits_plain ds some digits = record {
  some = some_bytes ds some;
  inner = all_inner ds digits;
  token = or_third (is_name ds) (is_word ds) (is_number ds) (is_some (label_name ds))
      (digits_form ds some digits);
}

pub digits_number : (ds : List ℕ) (n : ℕ) → 0 < length ds → Digits ds → n ≡ digits_value 10 ds
    → n < 2 ^ 64 → number_in ds ≡ Number n
digits_number ds n some digits writes small =
    rw (
      digits_form ds some digits,
      not_prefixed ds digits,
      sym writes,
      lt-ltb n (2 ^ 64) small,
    ) refl

-- one digit, two digits
digit_is : (digit : ℕ) → digit < 10 → digit_value (48 + digit) ≡ digit
digit_is digit few = grind (arith, nat_tests)

pub one_digit : {bytes rest : List ℕ} {b d : ℕ} → bytes ≡ b ∷ rest → d < 10 → b ≡ 48 + d
    → BeginsWith 2 bytes d rest
one_digit {bytes} {rest} {b} {d} parts few is = record {
  digits = b ∷ [];
  some = omega arith;
  few = omega arith;
  all = (omega arith, omega arith, tt);
  writes = rw (is, digit_is d few) (omega arith);
  parts = parts;
}

pub two_digits : {bytes more rest : List ℕ} {b c d e : ℕ} → bytes ≡ b ∷ more → more ≡ c ∷ rest
    → d < 10 → b ≡ 48 + d → e < 10 → c ≡ 48 + e → BeginsWith 2 bytes (d * 10 + e) rest
two_digits {bytes} {more} {rest} {b} {c} {d} {e} parts then few is low unit = record {
  digits = b ∷ c ∷ [];
  some = omega arith;
  few = omega arith;
  all = (omega arith, omega arith, (omega arith, omega arith, tt));
  writes = rw (is, unit, digit_is d few, digit_is e low) (omega arith);
  parts = rw (parts, then) refl;
}

-- one more digit
digits_push : (ds : List ℕ) (b : ℕ) → Digits ds → 48 ≤ b → b ≤ 57 → Digits (ds ++ b ∷ [])
digits_push [] b digits low high = (low, high, tt)
digits_push (d ∷ ds) b (below, above, digits) low high =
    (below, above, digits_push ds b digits low high)

pub digits_more : (bytes : List ℕ) (i digit : ℕ) → i < length bytes → digit < 10
    → get_or bytes i 0 ≡ 48 + digit → Digits (take i bytes) → Digits (take (i + 1) bytes)
digits_more bytes i digit inside few is digits =
    rw (take_more bytes i 0 inside)
    (digits_push (take i bytes) (get_or bytes i 0) digits (omega arith) (omega arith))

pub number_more : (bytes : List ℕ) (i digit number : ℕ) → i < length bytes → digit < 10
    → get_or bytes i 0 ≡ 48 + digit → number ≡ digits_value 10 (take i bytes)
    → number * 10 + digit ≡ digits_value 10 (take (i + 1) bytes)
number_more bytes i digit number inside few byte is =
    rw (digits_value_more 10 bytes i inside, byte, digit_is digit few, is) refl
