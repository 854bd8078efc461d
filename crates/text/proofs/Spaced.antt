-- Words that each stand after one space are the tokens of their line.
use Rattle.std.proofs.Common.{◌≡◌, ℕ, nat_eq, nat_lt, true, false, Bool, ◌&&◌, not, List, [], ◌∷◌, ◌++◌, length, refl, sym, ◌∙◌, arith, append_assoc}
use Rattle.std.proofs.lemmas.List.{append-nil}
use Rattle.std.proofs.lemmas.Bool.{and_parts}
use Rattle.std.proofs.lemmas.Bool.Decides.{nat_tests}
use Rattle.std.specs.List.{list_all, prefix_len}
use Rattle.text.specs.Class.{is_token}
use Rattle.text.specs.Cut.{closed, parts_from, code_of, is_blank, is_clean, is_written, lines_from, tokens_of}
use Rattle.text.specs.Lexical.{is_lexical}
use Rattle.text.specs.Spaced.{is_inner, spaced, ArePlain, IsPlain}

-- a token by its tests
pub plain_word : (word : List ℕ) → nat_eq (length word) 0 ≡ false
    → list_all is_inner word ≡ true → is_token word ≡ true → IsPlain word
plain_word word some inner token = record { some = some; inner = inner; token = token }

-- what the reading asks of a byte of a token
pub record Inner (b : ℕ) : Type 0 where
  pub code : nat_eq b 59 ≡ false
  pub held : is_blank b ≡ false
  pub written : is_written b ≡ true

pub not_true : (b : Bool) → not b ≡ true → b ≡ false
not_true false is = refl
not_true true is = sym is

inner : (b : ℕ) → is_inner b ≡ true → Inner b
inner b is =
    let parts = and_parts (not (nat_eq b 59) && not (is_blank b)) (is_written b) is in
    let more = and_parts (not (nat_eq b 59)) (not (is_blank b)) parts.0 in
    record {
      code = not_true (nat_eq b 59) more.0;
      held = not_true (is_blank b) more.1;
      written = parts.1;
    }

-- the first byte of a token, and the others
pub first_inner : (b : ℕ) (bs : List ℕ) → list_all is_inner (b ∷ bs) ≡ true
    → Inner b × (list_all is_inner bs ≡ true)
first_inner b bs is =
    let parts = and_parts (is_inner b) (list_all is_inner bs) is in (inner b parts.0, parts.1)

-- a token holds no comment
abbrev IsCode : List ℕ → Type 0
IsCode line = prefix_len (λ b. not (nat_eq b 59)) line ≡ length line

code_on : (word rest : List ℕ) → list_all is_inner word ≡ true → IsCode rest
    → IsCode (word ++ rest)
code_on [] rest is later = later
code_on (b ∷ bs) rest is later =
    let first = first_inner b bs is in
    let after = code_on bs rest first.1 later in
    rw (first.0.code) (omega (arith, after))

-- a token is held up to its end
part_on : (held word rest : List ℕ) → list_all is_inner word ≡ true
    → parts_from held (word ++ rest) ≡ parts_from (held ++ word) rest
part_on held [] rest is = rw (append-nil held) refl
part_on held (b ∷ bs) rest is =
    let first = first_inner b bs is in
    rw (
      first.0.held,
      part_on (held ++ b ∷ []) bs rest first.1,
      append_assoc held (b ∷ []) bs,
    ) refl

clean_on : (word rest : List ℕ) → list_all is_inner word ≡ true → is_clean rest ≡ true
    → is_clean (word ++ rest) ≡ true
clean_on [] rest is later = later
clean_on (b ∷ bs) rest is later =
    let first = first_inner b bs is in rw (first.0.written) (clean_on bs rest first.1 later)

closed_some : (word : List ℕ) → nat_eq (length word) 0 ≡ false → closed word ≡ word ∷ []
closed_some [] some = cc
closed_some (b ∷ bs) some = refl

-- words that each stand after a space
spaced_code : (words : List (List ℕ)) → ArePlain words → IsCode (spaced words)
spaced_code [] are = refl
spaced_code (word ∷ words) (is, are) =
    let after = code_on word (spaced words) is.inner (spaced_code words are) in omega (arith, after)

spaced_clean : (words : List (List ℕ)) → ArePlain words → is_clean (spaced words) ≡ true
spaced_clean [] are = refl
spaced_clean (word ∷ words) (is, are) =
    clean_on word (spaced words) is.inner (spaced_clean words are)

spaced_parts : (word : List ℕ) (words : List (List ℕ)) → nat_eq (length word) 0 ≡ false
    → ArePlain words → parts_from word (spaced words) ≡ word ∷ words
spaced_parts word [] some are = closed_some word some
spaced_parts word (next ∷ words) some (is, are) =
    rw (
      closed_some word some,
      part_on [] next (spaced words) is.inner,
      spaced_parts next words is.some are,
    ) refl

all_tokens : (words : List (List ℕ)) → ArePlain words → list_all is_token words ≡ true
all_tokens [] are = refl
all_tokens (word ∷ words) (is, are) = rw (is.token) (all_tokens words are)

-- no byte begins a comment
all_code : (line : List ℕ) → IsCode line → code_of line ≡ line
all_code line none =
    let no : nat_lt (length line) (length line) ≡ false = grind (arith, nat_tests) in
    rw (none, no) refl

-- a word and words after it are the tokens of the line
pub plain_tokens : (word : List ℕ) (words : List (List ℕ)) → IsPlain word → ArePlain words
    → tokens_of (word ++ spaced words) ≡ word ∷ words
plain_tokens word words is are =
    let line = word ++ spaced words in
    let code : code_of line ≡ line =
    all_code line (code_on word (spaced words) is.inner (spaced_code words are)) in
    let parts : parts_from [] line ≡ word ∷ words =
    part_on [] word (spaced words) is.inner ∙ spaced_parts word words is.some are in
    rw code parts

-- its bytes and its tokens are all of a form
pub plain_clean : (word : List ℕ) (words : List (List ℕ)) → IsPlain word → ArePlain words
    → is_clean (word ++ spaced words) ≡ true
plain_clean word words is are = clean_on word (spaced words) is.inner (spaced_clean words are)

-- the same where the second word is of no form of a token, as `=` is
module _ (word next : List ℕ) (words : List (List ℕ)) (is : IsPlain word)
    (some : nat_eq (length next) 0 ≡ false) (held : list_all is_inner next ≡ true)
    (are : ArePlain words) where
  abbrev behind : List ℕ
  behind = next ++ spaced words

  pub formless_tokens : tokens_of (word ++ 32 ∷ behind) ≡ word ∷ next ∷ words
  formless_tokens =
      let later : IsCode behind = code_on next (spaced words) held (spaced_code words are) in
      let rest : IsCode (32 ∷ behind) = omega (arith, later) in
      let code = all_code (word ++ 32 ∷ behind) (code_on word (32 ∷ behind) is.inner rest) in
      rw (
        code,
        part_on [] word (32 ∷ behind) is.inner,
        closed_some word is.some,
        part_on [] next (spaced words) held,
        spaced_parts next words some are,
      ) refl

  pub formless_clean : is_clean (word ++ 32 ∷ behind) ≡ true
  formless_clean =
      clean_on word (32 ∷ behind) is.inner
      (clean_on next (spaced words) held (spaced_clean words are))

pub plain_lexical : (word : List ℕ) (words : List (List ℕ)) → IsPlain word → ArePlain words
    → is_lexical (word ++ spaced words) ≡ true
plain_lexical word words is are =
    rw (plain_clean word words is are, plain_tokens word words is are, is.token)
    (all_tokens words are)

-- a token may stand in a line
pub token_clean : (word : List ℕ) → list_all is_inner word ≡ true → is_clean word ≡ true
token_clean [] is = refl
token_clean (b ∷ bs) is =
    let first = first_inner b bs is in rw (first.0.written) (token_clean bs first.1)

-- what may stand in a line has no LF, so it is held up to its end
no_feed : (b : ℕ) → is_written b ≡ true → nat_eq b 10 ≡ false
no_feed b written = grind (arith, nat_tests)

pub lines_on : (held line rest : List ℕ) → is_clean line ≡ true
    → lines_from held (line ++ rest) ≡ lines_from (held ++ line) rest
lines_on held [] rest is = rw (append-nil held) refl
lines_on held (b ∷ bs) rest is =
    let parts = and_parts (is_written b) (is_clean bs) is in
    rw (
      no_feed b parts.0,
      lines_on (held ++ b ∷ []) bs rest parts.1,
      append_assoc held (b ∷ []) bs,
    ) refl
