-- How many bytes stand before a line.
use Rattle.std.proofs.Common.{◌≡◌, ◌∙◌, ◌+◌, ◌-◌, ◌≤◌, ℕ, zero, suc, Bor, MatchOption, Option, Some, None, List, [], ◌∷◌, ◌++◌, arith, drop, length, length-append, length-drop, nat_eq, option_map, refl, slice_get, sym, take}
use Rattle.std.proofs.lemmas.Bool.{cond_both}
use Rattle.std.proofs.lemmas.List.{drop-drop, drop_all, take_all}
use Rattle.text.specs.Cut.{lines_from, lines_of}
use Rattle.text.specs.Places.{bytes_before, bytes_of}

-- the first line has so many bytes beside those held, and behind its LF the rest begins
record Cut (held bytes raw : List ℕ) (rest : List (List ℕ)) : Type 0 where
  on : ℕ
  long : length raw ≡ length held + on
  behind : lines_of (drop (on + 1) bytes) ≡ rest

cut_here : (held bs raw : List ℕ) (b : ℕ) (rest : List (List ℕ))
    → held ∷ lines_of bs ≡ raw ∷ rest → Cut held (b ∷ bs) raw rest
cut_here held bs raw b rest e =
    let same : raw ≡ held = cc in
    record { on = 0; long = rw same (omega arith); behind = cc }

cut_later : (held bs raw : List ℕ) (b : ℕ) (rest : List (List ℕ))
    → Cut (held ++ b ∷ []) bs raw rest → Cut held (b ∷ bs) raw rest
cut_later held bs raw b rest c =
    let next : suc c.on + 1 ≡ suc (c.on + 1) = omega arith in
    record {
      on = suc c.on;
      long = omega (arith, c.long, length-append held (b ∷ []));
      behind = rw next c.behind;
    }

first_cut : (held bytes raw : List ℕ) (rest : List (List ℕ)) → lines_from held bytes ≡ raw ∷ rest
    → Cut held bytes raw rest
first_cut [] [] raw rest e = cc
first_cut (h ∷ hs) [] raw rest e =
    let same : raw ≡ h ∷ hs = cc in
    record { on = 0; long = rw same (omega arith); behind = cc }
first_cut held (b ∷ bs) raw rest e =
    let later = first_cut (held ++ b ∷ []) bs raw rest in
    cond_both (nat_eq b 10) (held ∷ lines_from [] bs) (lines_from (held ++ b ∷ []) bs)
    (λ lines. lines ≡ raw ∷ rest → Cut held (b ∷ bs) raw rest)
    (λ is. cut_here held bs raw b rest) (λ other. λ f. cut_later held bs raw b rest (later f)) e

pub behind_first : (text raw : List ℕ) (rest : List (List ℕ)) → lines_of text ≡ raw ∷ rest
    → lines_of (drop (length raw + 1) text) ≡ rest
behind_first text raw rest e =
    let c = first_cut [] text raw rest e in
    let long : length raw ≡ c.on = omega (arith, c.long) in
    rw long c.behind

-- behind the bytes of the first lines the others stand
pub behind : (k : ℕ) (text : List ℕ) (lines : List (List ℕ)) → lines_of text ≡ lines
    → lines_of (drop (bytes_of (take k lines)) text) ≡ drop k lines
behind zero text lines e = e
behind (suc k) text [] e = e
behind (suc k) text (raw ∷ rest) e =
    let later = behind k (drop (length raw + 1) text) rest (behind_first text raw rest e) in
    rw (drop-drop (bytes_of (take k rest)) (length raw + 1) text) at later

pub behind_bytes : (text : List ℕ) (k : ℕ)
    → lines_of (drop (bytes_before text k) text) ≡ drop k (lines_of text)
behind_bytes text k = behind k text (lines_of text) refl

-- an element, by what begins with it
pub first_of : {A : Type 0} (xs ys : List A) (x : A) (k : ℕ) → drop k xs ≡ x ∷ ys
    → slice_get xs k ≡ Some x
first_of [] ys x zero e = cc
first_of [] ys x (suc k) e = cc
first_of (z ∷ zs) ys x zero e = cc
first_of (z ∷ zs) ys x (suc k) e = first_of zs ys x k e

pub none_of : {A : Type 0} (xs : List A) (k : ℕ) → drop k xs ≡ [] → slice_get xs k ≡ None
none_of [] k e = refl
none_of (z ∷ zs) zero e = cc
none_of (z ∷ zs) (suc k) e = none_of zs k e

pub rest_of : {A : Type 0} (xs ys : List A) (x : A) (k : ℕ) → drop k xs ≡ x ∷ ys
    → drop (k + 1) xs ≡ ys
rest_of [] ys x zero e = cc
rest_of [] ys x (suc k) e = cc
rest_of (z ∷ zs) ys x zero e = cc
rest_of (z ∷ zs) ys x (suc k) e =
    let next : suc k + 1 ≡ suc (k + 1) = omega arith in
    rw next (rest_of zs ys x k e)

-- the bytes from an index on
pub all_rest : (text : List ℕ) (i : ℕ) → take (length text - i) (drop i text) ≡ drop i text
all_rest text i = take_all (length text - i) (drop i text) (omega (arith, length-drop i text))

-- the first line of those from an index on
pub first_line : (lines old new : List (List ℕ)) (k : ℕ) (r : Option (Bor (List ℕ)))
    → drop k lines ≡ old
    → MatchOption r ((old ≡ []) × (new ≡ [])) (λ line. old ≡ line.now ∷ new)
    → option_map (λ line. line.now) r ≡ slice_get lines k
first_line lines old new k None e m = sym (none_of lines k (e ∙ m.0))
first_line lines old new k (Some l) e m = sym (first_of lines new l.now k (e ∙ m))

-- the lines of what stands behind the bytes of so many, and of nothing
pub there : (text rest : List ℕ) (k start : ℕ) → start ≡ bytes_before text k
    → rest ≡ drop start text → drop k (lines_of text) ≡ lines_of rest
there text rest k start is cut = rw (cut, is) (sym (behind_bytes text k))

pub past : (text : List ℕ) (k start : ℕ) → start ≡ bytes_before text k → length text ≤ start
    → drop k (lines_of text) ≡ []
past text k start is ended =
    let none : drop start text ≡ [] = drop_all start text ended in
    there text [] k start is (sym none)

-- with one more line
pub grown : (lines left : List (List ℕ)) (raw : List ℕ) (k : ℕ) → drop k lines ≡ raw ∷ left
    → bytes_of (take (k + 1) lines) ≡ bytes_of (take k lines) + (length raw + 1)
grown [] left raw zero e = cc
grown [] left raw (suc k) e = cc
grown (l ∷ ls) left raw zero e =
    let same : raw ≡ l = cc in
    rw same (omega arith)
grown (l ∷ ls) left raw (suc k) e =
    let next : suc k + 1 ≡ suc (k + 1) = omega arith in
    rw next (omega (arith, grown ls left raw k e))

-- lines have no more bytes than their text, but for an LF that it may lack
few_from : (held bytes : List ℕ)
    → bytes_of (lines_from held bytes) ≤ length held + length bytes + 1
few_from [] [] = omega arith
few_from (h ∷ held) [] = omega arith
few_from held (b ∷ bs) =
    let cut = few_from [] bs in
    let on = few_from (held ++ b ∷ []) bs in
    cond_both (nat_eq b 10) (held ∷ lines_from [] bs) (lines_from (held ++ b ∷ []) bs)
    (λ lines. bytes_of lines ≤ length held + length (b ∷ bs) + 1) (λ is. omega (arith, cut))
    (λ other. omega (arith, on, length-append held (b ∷ [])))

few_taken : (k : ℕ) (lines : List (List ℕ)) → bytes_of (take k lines) ≤ bytes_of lines
few_taken zero lines = omega arith
few_taken (suc k) [] = omega arith
few_taken (suc k) (l ∷ ls) = omega (arith, few_taken k ls)

pub few_before : (text : List ℕ) (k : ℕ) → bytes_before text k ≤ length text + 1
few_before text k = omega (arith, few_taken k (lines_of text), few_from [] text)
