-- Names and words of a status are tokens.
use Rattle.std.proofs.Common.{◌≡◌, ℕ, nat_eq, nat_le, true, false, Bool, ◌&&◌, ◌||◌, not, List, [], ◌∷◌, length, is_some, refl, arith}
use Rattle.std.proofs.lemmas.Bool.{and_from, and_parts, ne_eqb}
use Rattle.std.proofs.lemmas.Bool.Decides.{nat_tests}
use Rattle.std.specs.List.{list_all}
use Rattle.text.specs.Class.{begins_name, is_name, is_name_byte, is_number, is_word, is_word_byte, label_name}
use Rattle.text.specs.Spaced.{is_inner, IsPlain}
use Rattle.text.specs.declared.class.TheConstants.{MAX_NAME}
use Rattle.text.proofs.Spaced.{not_true}

-- a name
some_name : (name : List ℕ) → is_name name ≡ true → nat_eq (length name) 0 ≡ false
some_name [] is = cc
some_name (b ∷ bs) is = ne_eqb (length (b ∷ bs)) 0 (λ e. omega (arith, e))

name_inner : (bs : List ℕ) → list_all is_name_byte bs ≡ true → list_all is_inner bs ≡ true
name_inner [] is = refl
name_inner (b ∷ bs) is =
    let parts = and_parts (is_name_byte b) (list_all is_name_byte bs) is in
    let first : is_inner b ≡ true = grind (arith, nat_tests) in
    and_from (is_inner b) (list_all is_inner bs) first (name_inner bs parts.1)

pub name_plain : (name : List ℕ) → is_name name ≡ true → IsPlain name
name_plain name is =
    let parts = and_parts (begins_name name && nat_le (length name) MAX_NAME)
    (list_all is_name_byte name) is in
    record { some = some_name name is; inner = name_inner name parts.1; token = rw is refl }

-- a word in capitals
word_inner : (bs : List ℕ) → list_all is_word_byte bs ≡ true → list_all is_inner bs ≡ true
word_inner [] is = refl
word_inner (b ∷ bs) is =
    let parts = and_parts (is_word_byte b) (list_all is_word_byte bs) is in
    let first : is_inner b ≡ true = grind (arith, nat_tests) in
    and_from (is_inner b) (list_all is_inner bs) first (word_inner bs parts.1)

or_second : (a b c e : Bool) → b ≡ true → (a || b || c || e) ≡ true
or_second true b c e is = refl
or_second false b c e is = rw is refl

pub word_plain : (word : List ℕ) → is_word word ≡ true → IsPlain word
word_plain word is =
    let parts = and_parts (not (nat_eq (length word) 0)) (list_all is_word_byte word) is in
    record {
      some = not_true (nat_eq (length word) 0) parts.0;
      inner = word_inner word parts.1;
      token = or_second (is_name word) (is_word word) (is_number word)
          (is_some (label_name word)) is;
    }
