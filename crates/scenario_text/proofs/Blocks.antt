-- Lines that are listed one after another, and so often.
use Rattle.std.proofs.Common.{◌≡◌, ◌∙◌, ◌<◌, ◌≤◌, ◌+◌, ◌-◌, ℕ, zero, suc, List, Result, Ok, Err, ap, arith, drop, get_or, length, refl, subst, sym}
use Rattle.std.proofs.Math.Seq.{drop-cons}
use Rattle.interleave.specs.Line.{and_then}
use Rattle.interleave.specs.declared.schedule.ScheduleKind.{ScheduleKind}
use Rattle.scenario_names.specs.Names.{Named}
use Rattle.scenario_text.specs.declared.repeating.Numbered.{Numbered}
use Rattle.scenario_text.specs.Listing.{Given, repeated, with_line, with_lines}

-- lines of which the first is at a place
first_line : (names : Named) (p : Given) (lines : List Numbered) (i : ℕ) (d : Numbered)
    → i < length lines
    → with_lines names p (drop i lines)
    ≡ and_then (λ more. with_lines names more (drop (suc i) lines))
    (with_line names p (get_or lines i d).number (get_or lines i d).line)
first_line names p lines i d inside =
    ap (λ (left : List Numbered). with_lines names p left) (drop-cons lines i d inside)

at_on : (names : Named) (p q : Given) (lines : List Numbered) (i : ℕ) (d : Numbered)
    → i < length lines
    → with_line names p (get_or lines i d).number (get_or lines i d).line ≡ Ok q
    → with_lines names q (drop (i + 1) lines) ≡ with_lines names p (drop i lines)
at_on names p q lines i d inside on =
    let next : suc i ≡ i + 1 = omega arith in
    let Rest : Given → Result Given ScheduleKind =
    λ more. with_lines names more (drop (suc i) lines) in
    subst (λ (k : ℕ). with_lines names q (drop k lines) ≡ with_lines names p (drop i lines)) next
    (ap (λ (r : Result Given ScheduleKind). and_then Rest r) (sym on)
    ∙ sym (first_line names p lines i d inside))

at_stop : (names : Named) (p : Given) (lines : List Numbered) (i : ℕ) (d : Numbered)
    (kind : ScheduleKind) → i < length lines
    → with_line names p (get_or lines i d).number (get_or lines i d).line ≡ Err kind
    → with_lines names p (drop i lines) ≡ Err kind
at_stop names p lines i d kind inside off =
    let Rest : Given → Result Given ScheduleKind =
    λ more. with_lines names more (drop (suc i) lines) in
    first_line names p lines i d inside
    ∙ ap (λ (r : Result Given ScheduleKind). and_then Rest r) off

-- the same of the line at a place
pub lines_on : (names : Named) (p q : Given) (lines : List Numbered) (i : ℕ) (x : Numbered)
    (line : List ℕ) → i < length lines → x ≡ get_or lines i x → line ≡ x.line
    → with_line names p x.number line ≡ Ok q
    → with_lines names q (drop (i + 1) lines) ≡ with_lines names p (drop i lines)
lines_on names p q lines i x line inside same text on =
    at_on names p q lines i x inside
    (subst (λ (y : Numbered). with_line names p y.number y.line ≡ Ok q) same
    (subst (λ (l : List ℕ). with_line names p x.number l ≡ Ok q) text on))

pub lines_stop : (names : Named) (p : Given) (lines : List Numbered) (i : ℕ) (x : Numbered)
    (line : List ℕ) (kind : ScheduleKind) → i < length lines → x ≡ get_or lines i x
    → line ≡ x.line → with_line names p x.number line ≡ Err kind
    → with_lines names p (drop i lines) ≡ Err kind
lines_stop names p lines i x line kind inside same text off =
    at_stop names p lines i x kind inside
    (subst (λ (y : Numbered). with_line names p y.number y.line ≡ Err kind) same
    (subst (λ (l : List ℕ). with_line names p x.number l ≡ Err kind) text off))

-- so often
pub repeated_on : (names : Named) (left : ℕ) (p q : Given) (lines : List Numbered) → 0 < left
    → with_lines names p lines ≡ Ok q
    → repeated names (left - 1) q lines ≡ repeated names left p lines
repeated_on names zero p q lines some on = absurd (omega (arith, some))
repeated_on names (suc left) p q lines some on =
    let less : left ≡ suc left - 1 = omega arith in
    let Rest : Given → Result Given ScheduleKind = λ more. repeated names left more lines in
    subst (λ (k : ℕ). repeated names k q lines ≡ repeated names (suc left) p lines) less
    (ap (λ (r : Result Given ScheduleKind). and_then Rest r) (sym on))

pub repeated_stop : (names : Named) (left : ℕ) (p : Given) (lines : List Numbered)
    (kind : ScheduleKind) → 0 < left → with_lines names p lines ≡ Err kind
    → repeated names left p lines ≡ Err kind
repeated_stop names zero p lines kind some off = absurd (omega (arith, some))
repeated_stop names (suc left) p lines kind some off =
    let Rest : Given → Result Given ScheduleKind = λ more. repeated names left more lines in
    ap (λ (r : Result Given ScheduleKind). and_then Rest r) off

pub repeated_over : (names : Named) (left : ℕ) (p : Given) (lines : List Numbered) → left ≤ 0
    → repeated names left p lines ≡ Ok p
repeated_over names zero p lines none = refl
repeated_over names (suc left) p lines none = absurd (omega (arith, none))
