-- One step of cutting, at an index of the text.
use Rattle.std.proofs.Common.{zero, ◌∙◌, ◌≡◌, ◌≢◌, ℕ, ◌+◌, ◌-◌, ◌<◌, ◌≤◌, Bool, true, false, nat_eq, suc, List, [], ◌∷◌, ◌++◌, length, get_or, take, drop, refl, sym, arith, length-append, length-drop, length-take, get_or-drop}
use Rattle.std.proofs.lemmas.List.{drop_more, drop_all, take_all, take_more}
use Rattle.std.proofs.lemmas.Bool.{eqb-true, ne_eqb, cond_both}
use Rattle.std.specs.Prelude.{Some, None, nat_lt}
use Rattle.std.specs.List.{position_or_len}
use Rattle.std.proofs.lemmas.Bool.Decides.{nat_tests}
use Rattle.memchr.specs.Find.{is_byte, NoneBefore, Nowhere, Passes}
use Rattle.text.specs.Cut.{closed, code_of, comment_at, lines_from, lines_of, parts_from, tokens_of, is_blank}

-- the bytes from s up to i
abbrev pub held_at : List ℕ → ℕ → ℕ → List ℕ
held_at bytes s i = take (i - s) (drop s bytes)

-- the byte at i is held next
held_on : (bytes : List ℕ) (s i : ℕ) → s ≤ i → i < length bytes
    → held_at bytes s (i + 1) ≡ held_at bytes s i ++ get_or bytes i 0 ∷ []
held_on bytes s i below inside =
    let left : i - s < length (drop s bytes) = omega (arith, length-drop s bytes) in
    let next : i + 1 - s ≡ i - s + 1 = omega arith in
    let place : s + (i - s) ≡ i = omega arith in
    rw (next, take_more (drop s bytes) (i - s) 0 left, get_or-drop s bytes (i - s) 0, place) refl

held_none : (bytes : List ℕ) (i : ℕ) → held_at bytes i i ≡ []
held_none bytes i = let none : i - i ≡ 0 = omega arith in rw none refl

held_rest : (bytes : List ℕ) (s i : ℕ) → s ≤ i → length bytes ≤ i → held_at bytes s i ≡ drop s bytes
held_rest bytes s i below ended =
    take_all (i - s) (drop s bytes) (omega (arith, length-drop s bytes))

-- the bytes from i on
abbrev pub rest_at : List ℕ → ℕ → List ℕ
rest_at bytes i = take (length bytes - i) (drop i bytes)

all_rest : (bytes : List ℕ) (i : ℕ) → rest_at bytes i ≡ drop i bytes
all_rest bytes i =
    take_all (length bytes - i) (drop i bytes) (omega (arith, length-drop i bytes))

-- a step of the cutting of a text, at an LF, at another byte, and behind its last byte
line_cut : (bytes : List ℕ) (i : ℕ) (lines : List (List ℕ)) → i < length bytes
    → get_or bytes i 0 ≡ 10
    → lines_from (take i bytes) (drop i bytes) ≡ lines
    → lines ≡ take i bytes ∷ lines_of (drop (i + 1) bytes)
line_cut bytes i lines inside feed before =
    let now = rw (drop_more bytes i 0 inside, feed) at before in sym now

line_on : (bytes : List ℕ) (i : ℕ) (lines : List (List ℕ)) → i < length bytes
    → get_or bytes i 0 ≢ 10
    → lines_from (take i bytes) (drop i bytes) ≡ lines
    → lines_from (take (i + 1) bytes) (drop (i + 1) bytes) ≡ lines
line_on bytes i lines inside other before =
    let now = rw (drop_more bytes i 0 inside, ne_eqb (get_or bytes i 0) 10 other) at before in
    rw (take_more bytes i 0 inside) now

line_end : (bytes : List ℕ) (i : ℕ) → length bytes ≤ i
    → lines_from (take i bytes) (drop i bytes) ≡ closed bytes
line_end bytes i ended = rw (take_all i bytes ended, drop_all i bytes ended) refl

-- no byte of the first k is an LF
no_cut : (bytes : List ℕ) (k : ℕ) → k ≤ length bytes → Nowhere (Passes (is_byte 10) bytes) 0 k
    → lines_from (take k bytes) (drop k bytes) ≡ lines_of bytes
no_cut bytes zero within none = refl
no_cut bytes (suc k) within none =
    let before = no_cut bytes k (omega (arith, within)) (λ j low high. none j low (omega arith)) in
    let other : get_or bytes k 0 ≢ 10 = λ is. none k (omega arith) (omega arith) (rw is refl) in
    let next : suc k ≡ k + 1 = omega arith in
    rw next (line_on bytes k (lines_of bytes) (omega (arith, within)) other before)

-- the first LF ends the first line, and without one all bytes are a line
pub line_found : (bytes : List ℕ) (i : ℕ) → NoneBefore (Passes (is_byte 10) bytes) 0 (length bytes) i
    → Passes (is_byte 10) bytes i → lines_of bytes ≡ take i bytes ∷ lines_of (rest_at bytes (i + 1))
line_found bytes i first is =
    rw (all_rest bytes (i + 1)) (line_cut bytes i (lines_of bytes) first.high (eqb-true (get_or bytes i 0) 10 is)
    (no_cut bytes i (omega (arith, first.high)) first.before))

pub line_last : (bytes : List ℕ) → Nowhere (Passes (is_byte 10) bytes) 0 (length bytes)
    → lines_of bytes ≡ closed bytes
line_last bytes none =
    sym (no_cut bytes (length bytes) (omega arith) none)
    ∙ line_end bytes (length bytes) (omega arith)

-- a text has no more lines than bytes
few_from : (held bytes : List ℕ) → length (lines_from held bytes) ≤ length held + length bytes
few_from [] [] = omega arith
few_from (h ∷ held) [] = omega arith
few_from held (b ∷ bs) =
    let cut = few_from [] bs in
    let on = few_from (held ++ b ∷ []) bs in
    cond_both (nat_eq b 10) (held ∷ lines_from [] bs) (lines_from (held ++ b ∷ []) bs)
    (λ lines. length lines ≤ length held + length (b ∷ bs)) (λ is. omega (arith, cut))
    (λ other. omega (arith, on, length-append held (b ∷ [])))

pub lines_few : (bytes : List ℕ) → length (lines_of bytes) ≤ length bytes
lines_few bytes = let few = few_from [] bytes in omega (arith, few)

-- what stands before a comment, byte by byte
code_by : (b : ℕ) (bs : List ℕ) (t : Bool) → nat_eq b 59 ≡ false
    → nat_lt (position_or_len (λ b. nat_eq b 59) bs) (length bs) ≡ t
    → code_of (b ∷ bs) ≡ b ∷ code_of bs
code_by b bs true other is =
    let n = position_or_len (λ b. nat_eq b 59) bs in
    let next : position_or_len (λ b. nat_eq b 59) (b ∷ bs) ≡ suc n = rw other (omega arith) in
    let inside : nat_lt (suc n) (length (b ∷ bs)) ≡ true = grind (arith, nat_tests) in
    let at : comment_at (b ∷ bs) ≡ Some (suc n) = rw (next, inside) refl in
    let later : comment_at bs ≡ Some n = rw is refl in
    rw (at, later) refl
code_by b bs false other is =
    let n = position_or_len (λ b. nat_eq b 59) bs in
    let next : position_or_len (λ b. nat_eq b 59) (b ∷ bs) ≡ suc n = rw other (omega arith) in
    let outside : nat_lt (suc n) (length (b ∷ bs)) ≡ false = grind (arith, nat_tests) in
    let at : comment_at (b ∷ bs) ≡ None = rw (next, outside) refl in
    let later : comment_at bs ≡ None = rw is refl in
    rw (at, later) refl

code_on : (b : ℕ) (bs : List ℕ) → b ≢ 59 → code_of (b ∷ bs) ≡ b ∷ code_of bs
code_on b bs other =
    code_by b bs (nat_lt (position_or_len (λ b. nat_eq b 59) bs) (length bs)) (ne_eqb b 59 other)
    refl

blank_is_code : (b : ℕ) → is_blank b ≡ true → b ≢ 59
blank_is_code b blank same = let never = rw same at blank in cc

held_length : (bytes : List ℕ) (s i : ℕ) → s < i → i < length bytes → 0 < length (held_at bytes s i)
held_length bytes s i begun inside =
    omega (arith, length-take (i - s) (drop s bytes), length-drop s bytes)

closed_some : (held : List ℕ) → 0 < length held → closed held ≡ held ∷ []
closed_some [] h = let never : ⊥ = omega (arith, h) in absurd never
closed_some (b ∷ bs) h = refl

-- a turn of the loop over a line that finds no token yet: at a blank, at another byte
pub token_cut : (bytes : List ℕ) (s i : ℕ) (tokens : List (List ℕ)) → s < i → i < length bytes
    → is_blank (get_or bytes i 0) ≡ true
    → parts_from (held_at bytes s i) (code_of (drop i bytes)) ≡ tokens
    → tokens ≡ held_at bytes s i ∷ tokens_of (rest_at bytes (i + 1))
token_cut bytes s i tokens begun inside blank before =
    let b = get_or bytes i 0 in
    let code = code_on b (drop (i + 1) bytes) (blank_is_code b blank) in
    let now = rw (drop_more bytes i 0 inside, code, blank) at before in
    let some = closed_some (held_at bytes s i) (held_length bytes s i begun inside) in
    rw (all_rest bytes (i + 1)) (sym (rw some at now))

pub token_none : (bytes : List ℕ) (i : ℕ) (tokens : List (List ℕ)) → i < length bytes
    → is_blank (get_or bytes i 0) ≡ true
    → parts_from (held_at bytes i i) (code_of (drop i bytes)) ≡ tokens
    → parts_from (held_at bytes (i + 1) (i + 1)) (code_of (drop (i + 1) bytes)) ≡ tokens
token_none bytes i tokens inside blank before =
    let held = rw (held_none bytes i) at before in
    let b = get_or bytes i 0 in
    let code = code_on b (drop (i + 1) bytes) (blank_is_code b blank) in
    let now = rw (drop_more bytes i 0 inside, code, blank) at held in
    rw (held_none bytes (i + 1)) now

pub token_on : (bytes : List ℕ) (s i : ℕ) (tokens : List (List ℕ)) → s ≤ i → i < length bytes
    → is_blank (get_or bytes i 0) ≡ false → get_or bytes i 0 ≢ 59
    → parts_from (held_at bytes s i) (code_of (drop i bytes)) ≡ tokens
    → parts_from (held_at bytes s (i + 1)) (code_of (drop (i + 1) bytes)) ≡ tokens
token_on bytes s i tokens below inside blank other before =
    let code = code_on (get_or bytes i 0) (drop (i + 1) bytes) other in
    let now = rw (drop_more bytes i 0 inside, code, blank) at before in
    rw (held_on bytes s i below inside) now

pub token_end : (bytes : List ℕ) (s i : ℕ) (tokens : List (List ℕ)) → s ≤ i → length bytes ≤ i
    → parts_from (held_at bytes s i) (code_of (drop i bytes)) ≡ tokens
    → closed (drop s bytes) ≡ tokens
token_end bytes s i tokens below ended before =
    let now = rw (held_rest bytes s i below ended, drop_all i bytes ended) at before in now
