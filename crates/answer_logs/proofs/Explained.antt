-- The results of refusals that are explained, one after another.
use Rattle.std.proofs.Common.{◌≡◌, ◌∙◌, ◌+◌, ◌<◌, ◌≤◌, ◌++◌, ℕ, List, [], ◌∷◌, IfOk, Result, Ok, Err, ap, get_or, length, refl, string_bytes, subst, sym, take}
use Rattle.std.proofs.lemmas.List.{take_all, take_more}
use Rattle.std.specs.Global.{Vec}
use Rattle.std.specs.List.{AllZip}
use Rattle.mend_edits.specs.declared.lines.LineEdit.{LineEdit}
use Rattle.model.specs.declared.abs.Refusal.{Refusal}
use Rattle.model.specs.Set.{Set}
use Rattle.report_sarif.specs.declared.log.Finding.{Finding}
use Rattle.verifier_words.specs.declared.telling.Told.{Told}
use Rattle.verifier_words.specs.Faults.{AreFaults, refusals}
use Rattle.answer_explain.specs.declared.shown.Shown.{Shown}
use Rattle.answer_explain.specs.Regions.{text_end}
use Rattle.answer_explain.specs.Shown.{IsShown}
use Rattle.answer_explain.proofs.EachFault.{past_told, told_at, within_told}
use Rattle.answer_mends.specs.Fix.{IsFix}
use Rattle.drvhost_devices.specs.declared.extent.Extent.{Extent}
use Rattle.drvhost_devices.specs.declared.extent.Extent.TheVariants.{First, Each}
use Rattle.answer_logs.specs.Found.{AreExplained, IsExplained, IsRefusal, refusal_words}

zip_push : {A B : Type 0} (R : A → B → Type 0) (xs : List A) (ys : List B) (x : A) (y : B)
    → AllZip R xs ys → R x y → AllZip R (xs ++ x ∷ []) (ys ++ y ∷ [])
zip_push R [] [] x y none is = (is, tt)
zip_push R [] (b ∷ ys) x y none is = absurd none
zip_push R (a ∷ xs) [] x y none is = absurd none
zip_push R (a ∷ xs) (b ∷ ys) x y (first, rest) is = (first, zip_push R xs ys x y rest is)

module _ (R : Refusal → Finding → Type 0) (set : Set) (all : List Told) (i : ℕ) where
  -- of one more that is told
  pub told_next : (one : Told) (findings : List Finding) (finding : Finding)
      → i < length all → one ≡ get_or all i one → AllZip R (take i (refusals all)) findings
      → R one.refusal finding
      → AllZip R (take (i + 1) (refusals all)) (findings ++ finding ∷ [])
  told_next one findings finding within is so here =
      let next : take (i + 1) (refusals all) ≡ take i (refusals all) ++ one.refusal ∷ [] =
      take_more (refusals all) i one.refusal (within_told set all i one within is)
      ∙ ap (λ r. take i (refusals all) ++ r ∷ []) (sym (told_at set all i one within is)) in
      subst (λ some. AllZip R some (findings ++ finding ∷ [])) (sym next)
      (zip_push R (take i (refusals all)) findings one.refusal finding so here)

  -- of all of them
  pub told_all : (findings : List Finding) → length all ≤ i
      → AllZip R (take i (refusals all)) findings → AllZip R (refusals all) findings
  told_all findings passed so =
      subst (λ some. AllZip R some findings) (take_all i (refusals all) (past_told all i passed)) so

-- those of a refused set, by how many are asked for
pub first_explained : {E : Type 0} (r : Result (Vec Finding) E) (extent : Extent)
    (name bytes : List ℕ) (set : Set) (refusal : Refusal) (finding : Finding) → extent ≡ First
    → IsExplained name bytes set refusal finding → IfOk r (λ list. list.items ≡ finding ∷ [])
    → IfOk r (λ list. AreExplained extent name bytes set refusal list.items)
first_explained (Ok list) extent name bytes set refusal finding is shows one =
    rw (is, one) (refusal ∷ [], refl, (shows, tt))
first_explained (Err e) extent name bytes set refusal finding is shows one = tt

pub each_explained : {E : Type 0} (r : Result (Vec Finding) E) (extent : Extent)
    (name bytes : List ℕ) (set : Set) (refusal : Refusal) → extent ≡ Each
    → IfOk r (λ list. (all : List Refusal) × AreFaults set all
    × AllZip (IsExplained name bytes set) all list.items)
    → IfOk r (λ list. AreExplained extent name bytes set refusal list.items)
each_explained (Ok list) extent name bytes set refusal is (all, faults, shown) =
    rw is (all, faults, shown)
each_explained (Err e) extent name bytes set refusal is shown = tt

-- one of them, by what shows it
pub shown_explained : {E : Type 0} (r : Result Finding E) (name bytes : List ℕ) (set : Set)
    (refusal : Refusal) (shown : Shown) (words : List ℕ) (fix : List LineEdit)
    → IsShown bytes set refusal shown → IsFix refusal bytes fix
    → IfOk r (IsRefusal name bytes refusal)
    → IfOk r (λ finding. string_bytes finding.message ≡ refusal_words refusal ++ 10 ∷ words)
    → IfOk r (λ finding. finding.path.items ≡ shown.path.items)
    → IfOk r (λ finding. finding.other.items ≡ shown.other.items)
    → IfOk r (λ finding. finding.fix ≡ fix) → IfOk r (λ finding. finding.end ≡ text_end bytes)
    → IfOk r (IsExplained name bytes set refusal)
shown_explained (Ok finding) name bytes set refusal shown words fix (evidence, shows, it) so is told path other whole ends =
    record {
      result = is;
      words = words;
      message_is = told;
      evidence = evidence;
      shows = shows;
      path = rw path it.path;
      other = rw other it.other;
      fixed = rw whole so;
      ends = ends;
    }
shown_explained (Err e) name bytes set refusal shown words fix shows so is told path other whole ends =
    tt
