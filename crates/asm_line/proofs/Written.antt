-- Lines that are written one after another.
use Rattle.std.proofs.Common.{◌≡◌, ℕ, ◌+◌, ◌≤◌, ◌<◌, List, [], ◌∷◌, ◌++◌, get_or, take, drop, length, arith, Option, Some, None, Result, Ok, Err, refl, ap, sym, ◌∙◌, append_assoc, append-nil}
use Rattle.std.specs.Prelude.{OnOk}
use Rattle.std.specs.Fmt.{decimal}
use Rattle.std.proofs.lemmas.List.{drop_more, drop_all}
use Rattle.model.specs.declared.instr.Instr.{Instr}
use Rattle.model.specs.declared.instr.Instr.TheVariants.{Const, Call, Ret}
use Rattle.model.specs.declared.instr.Return.TheVariants.{WithStatus, Lower, Continue, Stop, Void}
use Rattle.asm_line.specs.declared.entry.Entry.{Entry}
use Rattle.asm_line.specs.declared.entry.Entry.TheVariants as line
use Rattle.asm_line.specs.ListedWords.{instruction_text, instruction_words, joined, line_text, place_words, spaced, word_text}
use Rattle.asm_line.specs.Listing.{listed, text_of}

pub text_append : (ls ms : List Entry) → text_of (ls ++ ms) ≡ text_of ls ++ text_of ms
text_append [] ms = refl
text_append (l ∷ ls) ms =
    ap (λ (rest : List ℕ). line_text l ++ rest) (text_append ls ms)
    ∙ sym (append_assoc (line_text l) (text_of ls) (text_of ms))

-- a turn of a loop that writes the lines of things that are numbered
pub lines_on : {A : Type 0} (lines : ℕ → A → List Entry) (xs : List A) (d : A) (i : ℕ)
    (whole before after : List ℕ) → i < length xs
    → before ++ text_of (listed lines i (drop i xs)) ≡ whole
    → after ≡ before ++ text_of (lines i (get_or xs i d))
    → after ++ text_of (listed lines (i + 1) (drop (i + 1) xs)) ≡ whole
lines_on lines xs d i whole before after inside h is =
    let here = lines i (get_or xs i d) in
    let later = listed lines (i + 1) (drop (i + 1) xs) in
    let now : before ++ text_of (here ++ later) ≡ whole = rw (drop_more xs i d inside) at h in
    ap (λ (t : List ℕ). t ++ text_of later) is
    ∙ append_assoc before (text_of here) (text_of later)
    ∙ ap (λ (t : List ℕ). before ++ t) (sym (text_append here later)) ∙ now

-- and its end
pub lines_end : {A : Type 0} (lines : ℕ → A → List Entry) (xs : List A) (i : ℕ)
    (whole before : List ℕ) → length xs ≤ i
    → before ++ text_of (listed lines i (drop i xs)) ≡ whole → before ≡ whole
lines_end lines xs i whole before past h =
    let now : before ++ [] ≡ whole = rw (drop_all i xs past) at h in
    sym (append-nil before) ∙ now

-- where the element is at hand
pub lines_after : {A : Type 0} (lines : ℕ → A → List Entry) (xs : List A) (x : A) (i : ℕ)
    (whole before after : List ℕ) → i < length xs
    → before ++ text_of (listed lines i (drop i xs)) ≡ whole
    → x ≡ get_or xs i x
    → after ≡ before ++ text_of (lines i x)
    → after ++ text_of (listed lines (i + 1) (drop (i + 1) xs)) ≡ whole
lines_after lines xs x i whole before after inside h at is =
    lines_on lines xs x i whole before after inside h
    (is ∙ ap (λ y. before ++ text_of (lines i y)) at)

-- lines that are written after others
pub then_written : (xs ys : List Entry) (old new next : List ℕ) → new ≡ old ++ text_of xs
    → next ≡ new ++ text_of ys → next ≡ old ++ text_of (xs ++ ys)
then_written xs ys old new next first second =
    second ∙ ap (λ (t : List ℕ). t ++ text_of ys) first
    ∙ append_assoc old (text_of xs) (text_of ys)
    ∙ ap (λ (t : List ℕ). old ++ t) (sym (text_append xs ys))

-- one line
pub one_written : (l : Entry) (old new : List ℕ) → new ≡ old ++ line_text l
    → new ≡ old ++ text_of (l ∷ [])
one_written l old new h = h ∙ ap (λ (t : List ℕ). old ++ t) (sym (append-nil (line_text l)))

-- the words of an instruction after a space
pub words_spaced : (i : Instr)
    → spaced (instruction_words i) ≡ 32 ∷ joined (instruction_words i)
words_spaced (Const r n) = refl
words_spaced _ = refl

on_ok : {A E P Q : Type 0} (result : Result A E) → (P → Q) → OnOk result P → OnOk result Q
on_ok (Ok x) gives h = gives h
on_ok (Err e) gives h = h

behind_label : (old digits words : List ℕ)
    → (old ++ (97 ∷ digits ++ (58 ∷ 32 ∷ []))) ++ (words ++ 10 ∷ [])
    ≡ old ++ (((97 ∷ digits ++ 58 ∷ []) ++ (32 ∷ words)) ++ 10 ∷ [])
behind_label old digits words =
    append_assoc old (97 ∷ digits ++ (58 ∷ 32 ∷ [])) (words ++ 10 ∷ [])
    ∙ ap (λ (t : List ℕ). old ++ (97 ∷ t))
    (append_assoc digits (58 ∷ 32 ∷ []) (words ++ 10 ∷ [])
    ∙ sym (append_assoc (digits ++ 58 ∷ []) (32 ∷ words) (10 ∷ [])
    ∙ append_assoc digits (58 ∷ []) (32 ∷ words ++ 10 ∷ [])))

-- the line of an instruction behind a label, and of one without
pub labelled_written : {A E : Type 0} (result : Result A E) (label : Option ℕ) (p : ℕ) (i : Instr)
    (old before new : List ℕ) → label ≡ Some p
    → before ≡ old ++ (97 ∷ decimal p ++ (58 ∷ 32 ∷ []))
    → OnOk result (new ≡ before ++ instruction_text i)
    → OnOk result (new ≡ old ++ line_text (line.Step label i))
labelled_written result label p i old before new is front h =
    on_ok result
    (λ written. written ∙ rw (is, front)
    (behind_label old (decimal p) (joined (instruction_words i))
    ∙ ap (λ (t : List ℕ). old ++ (((97 ∷ decimal p ++ 58 ∷ []) ++ t) ++ 10 ∷ []))
    (sym (words_spaced i)))) h

pub unlabelled_written : {A E : Type 0} (result : Result A E) (label : Option ℕ) (i : Instr)
    (old before new : List ℕ) → label ≡ None → before ≡ old
    → OnOk result (new ≡ before ++ instruction_text i)
    → OnOk result (new ≡ old ++ line_text (line.Step label i))
unlabelled_written result label i old before new is front h =
    on_ok result (λ written. written ∙ rw (is, front) refl) h

-- an instruction by its word and what stands at each place behind it
placed : (word : List ℕ) (words : List (List ℕ)) → length words ≤ 3
    → joined (word ∷ words) ++ 10 ∷ []
    ≡ word ++ (spaced (take 1 words) ++ (spaced (take 1 (drop 1 words))
    ++ (spaced (take 1 (drop 2 words)) ++ 10 ∷ [])))
placed word [] few = ap (λ (t : List ℕ). t ++ 10 ∷ []) (append-nil word)
placed word (a ∷ []) few =
    append_assoc word (32 ∷ a ++ []) (10 ∷ [])
placed word (a ∷ b ∷ []) few =
    append_assoc word (32 ∷ a ++ (32 ∷ b ++ [])) (10 ∷ [])
    ∙ ap (λ (t : List ℕ). word ++ (32 ∷ t))
    (append_assoc a (32 ∷ b ++ []) (10 ∷ [])
    ∙ ap (λ (t : List ℕ). t ++ ((32 ∷ b ++ []) ++ 10 ∷ [])) (sym (append-nil a)))
placed word (a ∷ b ∷ c ∷ []) few =
    append_assoc word (32 ∷ a ++ (32 ∷ b ++ (32 ∷ c ++ []))) (10 ∷ [])
    ∙ ap (λ (t : List ℕ). word ++ (32 ∷ t))
    (append_assoc a (32 ∷ b ++ (32 ∷ c ++ [])) (10 ∷ [])
    ∙ ap (λ (t : List ℕ). t ++ ((32 ∷ b ++ (32 ∷ c ++ [])) ++ 10 ∷ [])) (sym (append-nil a))
    ∙ ap (λ (t : List ℕ). (a ++ []) ++ (32 ∷ t))
    (append_assoc b (32 ∷ c ++ []) (10 ∷ [])
    ∙ ap (λ (t : List ℕ). t ++ ((32 ∷ c ++ []) ++ 10 ∷ [])) (sym (append-nil b))))
placed word (a ∷ b ∷ c ∷ d ∷ more) few = absurd (omega (arith, few))

placed_words : (ws : List (List ℕ)) (word : List ℕ) (words : List (List ℕ)) → ws ≡ word ∷ words
    → length words ≤ 3
    → joined ws ++ 10 ∷ []
    ≡ word ++ (spaced (take 1 (drop 1 ws)) ++ (spaced (take 1 (drop 2 ws))
    ++ (spaced (take 1 (drop 3 ws)) ++ 10 ∷ [])))
placed_words ws word words is few = rw is (placed word words few)

begins_with_word : (i : Instr)
    → instruction_words i ≡ word_text i ∷ drop 1 (instruction_words i)
begins_with_word (Const r n) = refl
begins_with_word _ = refl

few_words : (i : Instr) → length (drop 1 (instruction_words i)) ≤ 3
few_words (Const r n) = omega arith
few_words (Call r None) = omega arith
few_words (Call r (Some f)) = omega arith
few_words (Ret (WithStatus status)) = omega arith
few_words (Ret (Lower r)) = omega arith
few_words (Ret Continue) = omega arith
few_words (Ret Stop) = omega arith
few_words (Ret Void) = omega arith
few_words _ = omega arith

-- who writes these one after another writes the instruction
pub places_written : (i : Instr) (first second third : List (List ℕ))
    (old a b c d new word : List ℕ)
    → word ≡ word_text i → a ≡ old ++ word
    → first ≡ place_words 1 i → b ≡ a ++ spaced first
    → second ≡ place_words 2 i → c ≡ b ++ spaced second
    → third ≡ place_words 3 i → d ≡ c ++ spaced third
    → new ≡ d ++ 10 ∷ []
    → new ≡ old ++ instruction_text i
places_written i first second third old a b c d new word is ha one hb two hc three hd hn =
    hn ∙ rw (hd, hc, hb, ha, is, one, two, three) (
    append_assoc (((old ++ word_text i) ++ spaced (place_words 1 i)) ++ spaced (place_words 2 i)) (spaced (place_words 3 i)) (10 ∷ [])
    ∙ append_assoc ((old ++ word_text i) ++ spaced (place_words 1 i)) (spaced (place_words 2 i)) (spaced (place_words 3 i) ++ 10 ∷ [])
    ∙ append_assoc (old ++ word_text i) (spaced (place_words 1 i)) (spaced (place_words 2 i) ++ (spaced (place_words 3 i) ++ 10 ∷ []))
    ∙ append_assoc old (word_text i) (spaced (place_words 1 i) ++ (spaced (place_words 2 i) ++ (spaced (place_words 3 i) ++ 10 ∷ [])))
    ∙ ap (λ (t : List ℕ). old ++ t) (sym (placed_words (instruction_words i) (word_text i)
    (drop 1 (instruction_words i)) (begins_with_word i) (few_words i))))
