-- A turn of a loop over steps, and its end.
use Rattle.std.proofs.Common.{◌≡◌, ℕ, ◌+◌, ◌≤◌, ◌<◌, List, [], ◌∷◌, ◌++◌, get_or, drop, length}
use Rattle.std.proofs.Common.{refl, ap, sym, ◌∙◌, append_assoc, append-nil}
use Rattle.std.proofs.lemmas.List.{drop_more, drop_all}
use Rattle.mend_edits.specs.declared.step.Step.{Step}
use Rattle.mend_edits.specs.declared.step.Step.TheVariants.{Keep}
use Rattle.mend_edits.specs.Patch.{all_kept, bytes_by, left_by, patched_from}

-- what is written, and what the steps that are left write, is the same behind a turn
pub step_on : (xs : List Step) (d : Step) (i : ℕ) (lines after : List (List ℕ))
    (whole old new : List ℕ) → i < length xs
    → old ++ patched_from lines (drop i xs) ≡ whole
    → new ≡ old ++ bytes_by (get_or xs i d) lines → after ≡ left_by (get_or xs i d) lines
    → new ++ patched_from after (drop (i + 1) xs) ≡ whole
step_on xs d i lines after whole old new inside h is past =
    let step = get_or xs i d in
    let later = patched_from (left_by step lines) (drop (i + 1) xs) in
    let now : old ++ (bytes_by step lines ++ later) ≡ whole = rw (drop_more xs i d inside) at h in
    rw (is, past) (append_assoc old (bytes_by step lines) later ∙ now)

pub step_end : (xs : List Step) (i : ℕ) (lines : List (List ℕ)) (whole bytes : List ℕ)
    → length xs ≤ i → bytes ++ patched_from lines (drop i xs) ≡ whole → bytes ≡ whole
step_end xs i lines whole bytes past h =
    let now : bytes ++ [] ≡ whole = rw (drop_all i xs past) at h in
    sym (append-nil bytes) ∙ now
