-- The words on several refusals.
use Rattle.std.proofs.Common.{◌≡◌, ◌∙◌, ◌+◌, ◌<◌, ◌≤◌, List, [], ◌∷◌, ◌++◌, ℕ, ap, arith, suc, append_assoc, get_or, length, take, refl, sym, subst}
use Rattle.std.proofs.lemmas.List.{append-nil, map_push, take_all, take_more}
use Rattle.verifier_words.specs.Faults.{refusals}
use Rattle.verifier_words.specs.declared.telling.Told.{Told}
use Rattle.model.specs.declared.abs.Refusal.{Refusal}
use Rattle.report.specs.Verdict.{refusal_line}
use Rattle.answer_explain.specs.Explained.{AreFurther, AreWordsOn, IsBlock}

-- words on the first of several refusals
pub words_on_first : (all others : List Told) (first : Told) (words : List ℕ)
    → all ≡ first ∷ others → IsBlock words → AreWordsOn (refusals (take 1 all)) words
words_on_first all others first words is block =
    let On : List Told → Type 0 = λ all. AreWordsOn (refusals (take 1 all)) words in
    subst On (sym is) (words, [], block, refl, sym (append-nil words))

-- and on none
pub words_on_none : (all : List Told) (words : List ℕ) → length all ≡ 0 → words ≡ []
    → AreWordsOn (refusals all) words
words_on_none [] words none empty = empty
words_on_none (one ∷ all) words none empty = let no : ⊥ = omega (arith, none) in absurd no

-- and on all, where they are on as many as there are
pub words_on_all : (all : List Told) (n : ℕ) (words : List ℕ) → length all ≤ n
    → AreWordsOn (refusals (take n all)) words → AreWordsOn (refusals all) words
words_on_all all n words whole on =
    let On : List Told → Type 0 = λ told. AreWordsOn (refusals told) words in
    subst On (take_all n all whole) on

-- the refusals of one more
refusals_more : (all : List Told) (n : ℕ) (told : Told) → n < length all
    → told ≡ get_or all n told
    → refusals (take (n + 1) all) ≡ refusals (take n all) ++ told.refusal ∷ []
refusals_more all n told low is =
    ap refusals (take_more all n told low ∙ ap (λ one. take n all ++ one ∷ []) (sym is))
    ∙ map_push (λ told. told.refusal) (take n all) told

-- an empty line, a line and a block that were added in turn
pub block_added : (old one two new shown line block : List ℕ) → one ≡ old ++ 0x0A ∷ []
    → two ≡ one ++ shown → shown ≡ line → new ≡ two ++ block
    → new ≡ old ++ ((0x0A ∷ line) ++ block)
block_added old one two new shown line block first second same third =
    third
    ∙ ap (λ x. x ++ block)
    (second ∙ ap (λ x. x ++ shown) first ∙ append_assoc old (0x0A ∷ []) shown
    ∙ ap (λ x. old ++ 0x0A ∷ x) same)
    ∙ append_assoc old (0x0A ∷ line) block

-- words on one refusal more, behind those on others
further_more : (refusal : Refusal) (block : List ℕ) → IsBlock block → (all : List Refusal)
    (words : List ℕ) → AreFurther all words
    → AreFurther (all ++ refusal ∷ []) (words ++ ((0x0A ∷ refusal_line refusal) ++ block))
further_more refusal block is [] words none = (
  block,
  [],
  is,
  refl,
  ap (λ x. x ++ ((0x0A ∷ refusal_line refusal) ++ block)) none
      ∙ ap (λ x. (0x0A ∷ refusal_line refusal) ++ x) (sym (append-nil block)),
)
further_more refusal block is (one ∷ all) words (own, further, owns, on, are) =
    let line = 0x0A ∷ refusal_line one in
    let more = (0x0A ∷ refusal_line refusal) ++ block in (
      own,
      further ++ more,
      owns,
      further_more refusal block is all further on,
      ap (λ x. x ++ more) are ∙ append_assoc line (own ++ further) more
          ∙ ap (λ x. line ++ x) (append_assoc own further more),
    )

words_on_more : (first refusal : Refusal) (all : List Refusal) (words block more : List ℕ)
    → AreWordsOn (first ∷ all) words → IsBlock block
    → more ≡ words ++ ((0x0A ∷ refusal_line refusal) ++ block)
    → AreWordsOn (first ∷ (all ++ refusal ∷ [])) more
words_on_more first refusal all words block more (own, further, owns, on, are) is added =
    let last = (0x0A ∷ refusal_line refusal) ++ block in (
      own,
      further ++ last,
      owns,
      further_more refusal block is all further on,
      added ∙ ap (λ x. x ++ last) are ∙ append_assoc own further last,
    )

taken : (first : Told) (others : List Told) (n : ℕ)
    → take (n + 1) (first ∷ others) ≡ first ∷ take n others
taken first others n =
    let e : n + 1 ≡ suc n = omega arith in ap (λ k. take k (first ∷ others)) e

words_behind : (first told : Told) (others : List Told) (n : ℕ) (words block more : List ℕ)
    → n < length others → told ≡ get_or others n told
    → AreWordsOn (refusals (take (n + 1) (first ∷ others))) words → IsBlock block
    → more ≡ words ++ ((0x0A ∷ refusal_line told.refusal) ++ block)
    → AreWordsOn (refusals (take (n + 1 + 1) (first ∷ others))) more
words_behind first told others n words block more low is on owns added =
    let Before : List Told → Type 0 = λ all. AreWordsOn (refusals all) words in
    let After : List Told → Type 0 = λ all. AreWordsOn (refusals all) more in
    let Then : List Refusal → Type 0 = λ all. AreWordsOn (first.refusal ∷ all) more in
    subst After (sym (taken first others (n + 1)))
    (subst Then (sym (refusals_more others n told low is))
    (words_on_more first.refusal told.refusal (refusals (take n others)) words block more
    (subst Before (taken first others n) on) owns added))

-- and on the next one of them
pub words_on_next : (all others : List Told) (first told : Told) (n : ℕ)
    (words block more : List ℕ) → all ≡ first ∷ others → n < length others
    → told ≡ get_or others n told → AreWordsOn (refusals (take (n + 1) all)) words → IsBlock block
    → more ≡ words ++ ((0x0A ∷ refusal_line told.refusal) ++ block)
    → AreWordsOn (refusals (take (n + 1 + 1) all)) more
words_on_next all others first told n words block more whole low is on owns added =
    let Before : List Told → Type 0 = λ all. AreWordsOn (refusals (take (n + 1) all)) words in
    let After : List Told → Type 0 = λ all. AreWordsOn (refusals (take (n + 1 + 1) all)) more in
    subst After (sym whole)
    (words_behind first told others n words block more low is (subst Before whole on) owns added)
