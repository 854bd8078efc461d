-- The lines of refusals that are explained.
use Rattle.std.proofs.Common.{◌≡◌, ◌∙◌, ◌+◌, ◌<◌, ◌≤◌, ◌++◌, ℕ, List, [], ◌∷◌, OnOk, Option, Result, Ok, Err, ap, append_assoc, append-nil, length, refl, subst, sym, take}
use Rattle.std.specs.Prelude.{get_or}
use Rattle.std.proofs.lemmas.List.{take_all, take_more}
use Rattle.mend_edits.specs.declared.lines.LineEdit.{LineEdit}
use Rattle.model.specs.declared.abs.Refusal.{Refusal}
use Rattle.model.specs.Set.{Set}
use Rattle.report_json.specs.Line.{json_line}
use Rattle.report_sarif.specs.declared.log.Region.{Region}
use Rattle.verifier_words.specs.declared.telling.Told.{Told}
use Rattle.verifier_words.specs.Faults.{AreFaults, refusals}
use Rattle.answer_explain.specs.declared.shown.Shown.{Shown}
use Rattle.answer_explain.specs.Regions.{refusal_region}
use Rattle.answer_explain.specs.Shown.{IsShown}
use Rattle.answer_explain.proofs.EachFault.{past_told, told_at, within_told}
use Rattle.answer_mends.specs.Fix.{IsFix}
use Rattle.drvhost_devices.specs.declared.extent.Extent.{Extent}
use Rattle.drvhost_devices.specs.declared.extent.Extent.TheVariants.{First, Each}
use Rattle.answer_explain.specs.Explain.{AreLinesOf, AreRefusalLines, IsRefusalLine}
use Rattle.answer_explain.specs.Explanation.{Lesson, refusal_explained_json}

-- the line of a refusal that is shown was added
pub shown_added : {A E : Type 0} (r : Result A E) (name bytes : List ℕ) (refusal : Refusal)
    (region : Option Region) (shown : Shown) (lesson : Lesson) (edits : List LineEdit)
    (old l : List ℕ) → region ≡ refusal_region bytes refusal
    → OnOk r (l ≡ old ++ json_line (refusal_explained_json name refusal region shown lesson))
    → lesson.edits ≡ edits → IsFix refusal bytes edits
    → OnOk r ((its : Lesson) × IsFix refusal bytes its.edits
    × (l ≡ old ++ json_line (refusal_explained_json name refusal (refusal_region bytes refusal)
    shown its)))
shown_added (Ok a) name bytes refusal region shown lesson edits old l placed added are fixed = (
  lesson,
  rw are fixed,
  added
      ∙ ap (λ place. old ++ json_line (refusal_explained_json name refusal place shown lesson))
      placed,
)
shown_added (Err e) name bytes refusal region shown lesson edits old l placed added are fixed =
    added

-- the line of a refusal was added
pub line_added : {A E : Type 0} (r : Result A E) (name bytes : List ℕ) (set : Set)
    (refusal : Refusal) (shown : Shown) (old l : List ℕ) → IsShown bytes set refusal shown
    → OnOk r ((lesson : Lesson) × IsFix refusal bytes lesson.edits
    × (l ≡ old ++ json_line (refusal_explained_json name refusal (refusal_region bytes refusal)
    shown lesson)))
    → OnOk r ((line : List ℕ) × IsRefusalLine name bytes set refusal line × (l ≡ old ++ line))
line_added (Ok a) name bytes set refusal shown old l (evidence, shows, by_it) (lesson, fixed, added) = (
  json_line (refusal_explained_json name refusal (refusal_region bytes refusal) shown lesson),
  record {
    evidence = evidence;
    shows = shows;
    shown = shown;
    by_it = by_it;
    lesson = lesson;
    fixed = fixed;
    is = refl;
  },
  added,
)
line_added (Err e) name bytes set refusal shown old l shows added = added

-- those of a refused set were, by how many are asked for
pub of_first : {A E : Type 0} (r : Result A E) (extent : Extent) (name bytes : List ℕ) (set : Set)
    (refusal : Refusal) (old l : List ℕ) → extent ≡ First
    → OnOk r ((line : List ℕ) × IsRefusalLine name bytes set refusal line × (l ≡ old ++ line))
    → OnOk r ((text : List ℕ) × AreLinesOf extent name bytes set refusal text × (l ≡ old ++ text))
of_first r extent name bytes set refusal old l is h = rw is h

pub of_each : {A E : Type 0} (r : Result A E) (extent : Extent) (name bytes : List ℕ) (set : Set)
    (refusal : Refusal) (old l : List ℕ) → extent ≡ Each
    → OnOk r ((all : List Refusal) × (text : List ℕ) × AreFaults set all
    × AreRefusalLines name bytes set all text × (l ≡ old ++ text))
    → OnOk r ((text : List ℕ) × AreLinesOf extent name bytes set refusal text × (l ≡ old ++ text))
of_each (Ok a) extent name bytes set refusal old l is (all, text, faults, are, added) =
    rw is (text, (all, faults, are), added)
of_each (Err e) extent name bytes set refusal old l is h = h

-- one more line
pub lines_more : (name bytes : List ℕ) (set : Set) (some : List Refusal) (refusal : Refusal)
    (text line : List ℕ) → AreRefusalLines name bytes set some text
    → IsRefusalLine name bytes set refusal line
    → AreRefusalLines name bytes set (some ++ refusal ∷ []) (text ++ line)
lines_more name bytes set [] refusal text line none is =
    (line, [], is, refl, ap (λ x. x ++ line) none ∙ sym (append-nil line))
lines_more name bytes set (first ∷ some) refusal text line (own, rest, its, others, whole) is = (
  own,
  rest ++ line,
  its,
  lines_more name bytes set some refusal rest line others is,
  ap (λ x. x ++ line) whole ∙ append_assoc own rest line,
)

-- those of the first of several, and of one more
pub lines_next : (name bytes : List ℕ) (set : Set) (all : List Refusal) (i : ℕ) (refusal : Refusal)
    (text line : List ℕ) → i < length all → refusal ≡ get_or all i refusal
    → AreRefusalLines name bytes set (take i all) text
    → IsRefusalLine name bytes set refusal line
    → AreRefusalLines name bytes set (take (i + 1) all) (text ++ line)
lines_next name bytes set all i refusal text line within is so its =
    let next : take (i + 1) all ≡ take i all ++ refusal ∷ [] =
    take_more all i refusal within ∙ ap (λ r. take i all ++ r ∷ []) (sym is) in
    subst (λ some. AreRefusalLines name bytes set some (text ++ line)) (sym next)
    (lines_more name bytes set (take i all) refusal text line so its)

-- the same of what is told
pub told_next : (name bytes : List ℕ) (set : Set) (all : List Told) (i : ℕ) (one : Told)
    (old m l : List ℕ) → i < length all → one ≡ get_or all i one
    → ((text : List ℕ) × AreRefusalLines name bytes set (take i (refusals all)) text
    × (m ≡ old ++ text))
    → ((line : List ℕ) × IsRefusalLine name bytes set one.refusal line × (l ≡ m ++ line))
    → (text : List ℕ) × AreRefusalLines name bytes set (take (i + 1) (refusals all)) text
    × (l ≡ old ++ text)
told_next name bytes set all i one old m l within is (text, so, was) (line, its, more) = (
  text ++ line,
  lines_next name bytes set (refusals all) i one.refusal text line
      (within_told set all i one within is) (told_at set all i one within is) so its,
  more ∙ ap (λ x. x ++ line) was ∙ append_assoc old text line,
)

-- all of them
pub told_all : (name bytes : List ℕ) (set : Set) (all : List Told) (i : ℕ) (old l : List ℕ)
    → length all ≤ i → AreFaults set (refusals all)
    → ((text : List ℕ) × AreRefusalLines name bytes set (take i (refusals all)) text
    × (l ≡ old ++ text))
    → (each : List Refusal) × (text : List ℕ) × AreFaults set each
    × AreRefusalLines name bytes set each text × (l ≡ old ++ text)
told_all name bytes set all i old l passed faults (text, so, was) =
    let past = past_told all i passed in (
      refusals all,
      text,
      faults,
      subst (λ each. AreRefusalLines name bytes set each text) (take_all i (refusals all) past) so,
      was,
    )
