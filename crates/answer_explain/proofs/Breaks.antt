-- Words up to an empty line are a block, once a line feed is behind them.
use Rattle.std.proofs.Common.{◌≡◌, ◌≢◌, ◌∙◌, ◌⊎◌, ◌+◌, ◌<◌, ◌≤◌, List, [], ◌∷◌, ◌++◌, ℕ, suc, arith, ap, get_or, inl, inr, length, length-append, refl, sym, take}
use Rattle.std.proofs.lemmas.Bool.{cases_lt}
use Rattle.std.proofs.lemmas.Grind.{get_or_default_zero}
use Rattle.std.proofs.lemmas.List.{get_or-take, length-take}
use Rattle.answer_explain.specs.Explained.{IsBlock}

-- behind each line feed before this number no other stands, where one is thought behind the last
abbrev pub IsApartTo : List ℕ → ℕ → Type 0
IsApartTo words n =
    (i : ℕ) → i < n → get_or words i 0 ≡ 0x0A → get_or words (i + 1) 0x0A ≢ 0x0A

abbrev tail : List ℕ → List ℕ
tail [] = []
tail (word ∷ words) = words

later : (word : ℕ) (words : List ℕ) (i d : ℕ)
    → get_or (word ∷ words) (i + 1) d ≡ get_or words i d
later word words i d =
    let e : i + 1 ≡ suc i = omega arith in ap (λ k. get_or (word ∷ words) k d) e

first_is : (words behind : List ℕ) → words ++ 0x0A ∷ [] ≡ 0x0A ∷ behind
    → get_or words 0 0x0A ≡ 0x0A
first_is [] behind same = refl
first_is (word ∷ words) behind same = ap (λ all. get_or all 0 0x0A) same

nowhere_two : (words : List ℕ) → IsApartTo words (length words) → (before behind : List ℕ)
    → words ++ 0x0A ∷ [] ≢ before ++ 0x0A ∷ 0x0A ∷ behind
nowhere_two [] apart before behind =
    λ same. omega (arith, ap length same, length-append before (0x0A ∷ 0x0A ∷ behind))
nowhere_two (word ∷ words) apart [] behind =
    λ same. apart 0 (omega arith) (ap (λ all. get_or all 0 0) same)
    (first_is words behind (ap tail same))
nowhere_two (word ∷ words) apart (one ∷ before) behind =
    λ same. nowhere_two words
    (λ i low feed next. apart (i + 1) (omega (arith, low)) (later word words i 0 ∙ feed)
    (later word words (i + 1) 0x0A ∙ next)) before behind (ap tail same)

block_of : (words : List ℕ) → IsApartTo words (length words) → IsBlock (words ++ 0x0A ∷ [])
block_of words apart = ((words, refl), nowhere_two words apart)

apart_less : (words : List ℕ) (n m : ℕ) → m ≤ n → IsApartTo words n → IsApartTo words m
apart_less words n m low apart = λ i less. apart i (omega (arith, low, less))

pub block_whole : (words : List ℕ) (n : ℕ) → length words ≤ n → IsApartTo words n
    → IsBlock (words ++ 0x0A ∷ [])
block_whole words n all apart = block_of words (apart_less words n (length words) all apart)

taken_at : (words : List ℕ) (n i : ℕ) → get_or words n 0 ≡ 0x0A → n < length words
    → IsApartTo words n → i < n → get_or (take n words) i 0 ≡ 0x0A
    → (i + 1 < n) ⊎ (n ≤ i + 1) → get_or (take n words) (i + 1) 0x0A ≢ 0x0A
taken_at words n i here low apart less feed (inl more) =
    λ next. apart i less (sym (get_or-take n words i 0 less) ∙ feed)
    (sym (get_or-take n words (i + 1) 0x0A more) ∙ next)
taken_at words n i here low apart less feed (inr last) =
    let same : i + 1 ≡ n = omega (arith, less, last) in
    let next : get_or words (i + 1) 0x0A ≡ 0x0A =
    ap (λ k. get_or words k 0x0A) same ∙ get_or_default_zero words n 0x0A low ∙ here in
    absurd (apart i less (sym (get_or-take n words i 0 less) ∙ feed) next)

pub block_taken : (words : List ℕ) (n : ℕ) → n < length words → get_or words n 0 ≡ 0x0A
    → IsApartTo words n → IsBlock (take n words ++ 0x0A ∷ [])
block_taken words n low here apart =
    block_of (take n words) (λ i less feed. taken_at words n i here low apart
    (omega (arith, less, length-take n words)) feed (cases_lt (i + 1) n))
