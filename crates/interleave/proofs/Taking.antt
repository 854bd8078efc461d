-- Lines that are taken off the bytes of a text.
use Rattle.std.proofs.Common.{◌≡◌, ◌∙◌, ℕ, zero, suc, ◌+◌, ◌*◌, ◌<◌, ◌≤◌, List, [], ◌∷◌, ◌++◌, length, get_or, drop, codes, Some, refl, sym, ap, inl, inr, arith, length-append}
use Rattle.std.proofs.lemmas.Bool.Decides.{eqb_tells}
use Rattle.std.specs.Str.Parse.{digits_value}
use Rattle.model.specs.declared.event.Event.TheVariants.{Step}
use Rattle.text.specs.Cut.{lines_from, lines_of}
use Rattle.interleave.specs.Line.{step_line}
use Rattle.text.specs.Digits.{BeginsWith, Digits}
use Rattle.text.proofs.Digits.{number_more}
use Rattle.text.proofs.Spaced.{plain_word}
use Rattle.interleave.specs.Usual.{Once, TakesStep}
use Rattle.interleave.specs.declared.read.Repeated.{Repeated}
use Rattle.interleave.proofs.Usual.{line_taken, steps_read, takes_number}

-- the first line of a text, and the lines after it
abbrev Cuts : List ℕ → List ℕ → List ℕ → List (List ℕ) → Type 0
Cuts held bytes line later = lines_from held bytes ≡ line ∷ later

first_is : (l line : List ℕ) (ls later : List (List ℕ)) → l ∷ ls ≡ line ∷ later → l ≡ line
first_is l line ls later is = ap (λ lines. get_or lines 0 []) is

others_are : (l line : List ℕ) (ls later : List (List ℕ)) → l ∷ ls ≡ line ∷ later → ls ≡ later
others_are l line ls later is = ap (λ lines. drop 1 lines) is

-- what is held is a beginning of the line
held_within : (held bytes line : List ℕ) (later : List (List ℕ)) → Cuts held bytes line later
    → length held ≤ length line
held_within [] bytes line later cuts = omega arith
held_within (h ∷ held) [] line later cuts =
    let same = first_is (h ∷ held) line [] later cuts in omega (arith, ap (λ l. length l) same)
held_within (h ∷ held) (b ∷ bytes) line later cuts =
    elim (eqb_tells b 10) [
      | inl p ↦ (let same = first_is (h ∷ held) line (lines_from [] bytes) later (rw p.0 at cuts) in
          omega (arith, ap (λ l. length l) same))
      | inr p ↦ (let more = held_within ((h ∷ held) ++ b ∷ []) bytes line later (rw p.0 at cuts) in
          omega (arith, more, length-append (h ∷ held) (b ∷ [])))
    ]

-- the other lines are those of what stands behind the line and its LF
behind_line : (held bytes line : List ℕ) (later : List (List ℕ)) (n : ℕ)
    → Cuts held bytes line later → length held + n ≡ length line + 1
    → later ≡ lines_of (drop n bytes)
behind_line [] [] line later n cuts is = let no = cuts in cc
behind_line (h ∷ held) [] line later zero cuts is =
    sym (others_are (h ∷ held) line [] later cuts)
behind_line (h ∷ held) [] line later (suc n) cuts is =
    sym (others_are (h ∷ held) line [] later cuts)
behind_line held (b ∷ bytes) line later zero cuts is =
    let no : ⊥ = omega (arith, is, held_within held (b ∷ bytes) line later cuts) in absurd no
behind_line held (b ∷ bytes) line later (suc n) cuts is =
    elim (eqb_tells b 10) [
      | inl p ↦ (let cut = rw p.0 at cuts in
          let same = first_is held line (lines_from [] bytes) later cut in
          let none : n ≡ 0 = omega (arith, is, ap (λ l. length l) same) in
          rw none (sym (others_are held line (lines_from [] bytes) later cut)))
      | inr p ↦ behind_line (held ++ b ∷ []) bytes line later n (rw p.0 at cuts)
          (omega (arith, is, length-append held (b ∷ [])))
    ]

pub next_line : (text line : List ℕ) (later : List (List ℕ)) → lines_of text ≡ line ∷ later
    → lines_of text ≡ line ∷ lines_of (drop (length line + 1) text)
next_line text line later cuts =
    cuts ∙ ap (λ lines. line ∷ lines) (behind_line [] text line later (length line + 1) cuts (omega arith))

-- the line of one step
step_taken : (text digits later : List ℕ) (thread : ℕ)
    → text ≡ codes "step " ++ (digits ++ 10 ∷ later) → 0 < length digits → Digits digits
    → thread ≡ digits_value 10 digits → thread < 100
    → TakesStep (lines_of text) thread (lines_of later)
step_taken text digits later thread is some are writes small =
    let operand = digits ++ 10 ∷ later in
    let begins : BeginsWith (length digits) operand thread (10 ∷ later) = record {
      digits = digits;
      some = some;
      few = omega arith;
      all = are;
      writes = writes;
      parts = refl;
    } in
    let takes = takes_number (32 ∷ operand) operand (10 ∷ later) 32 thread refl refl begins
    (omega (arith, small)) in
    let once : Repeated = record { event = Step thread; count = 1 } in
    let usual = line_taken (codes "step") step_line text (32 ∷ operand) later (Some once)
    (plain_word (codes "step") refl refl refl) (λ words. refl) is
    (steps_read takes (omega (arith, small)) (Once refl refl)) in
    record { line = usual.line; parts = usual.parts; says = usual.says; small = small }

pub one_digit : (text after behind later : List ℕ) (first second digit : ℕ)
    → text ≡ codes "step " ++ after → after ≡ first ∷ behind → behind ≡ second ∷ later
    → second ≡ 10 → digit < 10 → first ≡ 48 + digit
    → TakesStep (lines_of text) digit (lines_of later)
one_digit text after behind later first second digit is begins goes feed few byte =
    let value = number_more (first ∷ []) 0 digit 0 (omega arith) few byte refl in
    step_taken text (first ∷ []) later digit (rw (is, begins, goes, feed) refl) (omega arith)
    (omega (arith, byte), omega (arith, byte, few), tt) (omega (arith, value))
    (omega (arith, few))

pub two_digits : (text after behind rest later : List ℕ) (first second third tens ones : ℕ)
    → text ≡ codes "step " ++ after → after ≡ first ∷ behind → behind ≡ second ∷ rest
    → rest ≡ third ∷ later → third ≡ 10 → tens < 10 → first ≡ 48 + tens → ones < 10
    → second ≡ 48 + ones
    → TakesStep (lines_of text) (tens * 10 + ones) (lines_of later)
two_digits text after behind rest later first second third tens ones is begins goes ends feed few byte
    less next =
    let digits = first ∷ second ∷ [] in
    let head = number_more digits 0 tens 0 (omega arith) few byte refl in
    let value = number_more digits 1 ones tens (omega arith) less next (omega (arith, head)) in
    step_taken text digits later (tens * 10 + ones) (rw (is, begins, goes, ends, feed) refl)
    (omega arith)
    (omega (arith, byte), omega (arith, byte, few), (omega (arith, next), omega (arith, next, less), tt))
    value (omega (arith, few, less))
