-- A turn of the loop over edits, and its end.
use Rattle.std.proofs.Common.{◌≡◌, ℕ, ◌+◌, ◌≤◌, ◌<◌, List, [], ◌∷◌, Option, Some, get_or, drop}
use Rattle.std.proofs.Common.{length, option_and_then, ap, sym, ◌∙◌, inl, inr, unwrap_or}
use Rattle.std.proofs.lemmas.List.{drop_more, drop_all}
use Rattle.model.specs.Set.{Set}
use Rattle.model.specs.Sound.{IsSound}
use Rattle.mend_changes.specs.declared.edit.Edit.{Edit}
use Rattle.mend_changes.specs.Edited.{EachMakes, IsNoSet, IsStopped, edited, edited_by}

pub edit_on : (es : List Edit) (d : Edit) (i : ℕ) (made next : Set) (whole : Option Set)
    → i < length es → edited_by made (drop i es) ≡ whole
    → edited made (get_or es i d) ≡ Some next
    → edited_by next (drop (i + 1) es) ≡ whole
edit_on es d i made next whole inside h is =
    let e = get_or es i d in
    let later = drop (i + 1) es in
    let now : edited_by made (e ∷ later) ≡ whole = rw (drop_more es i d inside) at h in
    let step : edited_by made (e ∷ later) ≡ edited_by next later
    = ap (λ m. option_and_then (λ n. edited_by n later) m) is in
    sym step ∙ now

pub edit_end : (es : List Edit) (i : ℕ) (made : Set) (whole : Option Set)
    → length es ≤ i → edited_by made (drop i es) ≡ whole → whole ≡ Some made
edit_end es i made whole past h =
    let now : edited_by made [] ≡ whole = rw (drop_all i es past) at h in
    sym now

pub stopped_on : (es : List Edit) (d : Edit) (i : ℕ) (made next set : Set) (all : List Edit)
    → i < length es → edited made (get_or es i d) ≡ Some next
    → (IsStopped made (drop i es) → IsStopped set all)
    → IsStopped next (drop (i + 1) es) → IsStopped set all
stopped_on es d i made next set all inside is whole stopped =
    let e = get_or es i d in
    let later = drop (i + 1) es in
    let on : IsStopped made (e ∷ later) → IsStopped set all = rw (drop_more es i d inside) at whole in
    on (inr (next, is, stopped))

pub stopped_here : (es : List Edit) (d : Edit) (i : ℕ) (made set : Set) (all : List Edit)
    → i < length es → IsNoSet (edited made (get_or es i d))
    → (IsStopped made (drop i es) → IsStopped set all) → IsStopped set all
stopped_here es d i made set all inside none whole =
    let e = get_or es i d in
    let later = drop (i + 1) es in
    let on : IsStopped made (e ∷ later) → IsStopped set all = rw (drop_more es i d inside) at whole in
    on (inl none)

behind : (made next : Set) (e : Edit) (es : List Edit) → edited made e ≡ Some next → IsSound next
    → IsStopped made (e ∷ es) → IsStopped next es
behind made next e es is sound (inl none) =
    let no : IsNoSet (Some next) = rw is at none in
    absurd (no sound)
behind made next e es is sound (inr (other, was, stopped)) =
    let same : other ≡ next = ap (λ made. unwrap_or made next) (sym was ∙ is) in
    rw same at stopped

pub goes_on : (es : List Edit) (d : Edit) (i : ℕ) (made next set : Set) (all : List Edit)
    → i < length es → edited made (get_or es i d) ≡ Some next → IsSound next
    → (IsStopped set all → IsStopped made (drop i es))
    → IsStopped set all → IsStopped next (drop (i + 1) es)
goes_on es d i made next set all inside is sound whole stopped =
    let e = get_or es i d in
    let later = drop (i + 1) es in
    let now : IsStopped made (e ∷ later) = rw (drop_more es i d inside) at (whole stopped) in
    behind made next e later is sound now

pub goes_end : (es : List Edit) (i : ℕ) (made set : Set) (all : List Edit) → length es ≤ i
    → (IsStopped set all → IsStopped made (drop i es)) → EachMakes set all
goes_end es i made set all past whole stopped =
    let now : IsStopped made [] = rw (drop_all i es past) at (whole stopped) in
    absurd now
