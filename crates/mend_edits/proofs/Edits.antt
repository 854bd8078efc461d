-- A turn of the loop over the edits of a text, and its end.
use Rattle.std.proofs.Common.{◌≡◌, ℕ, ◌+◌, ◌<◌, ◌≤◌, List, ◌++◌, append_assoc, ◌∙◌, drop, get_or, length}
use Rattle.std.proofs.lemmas.List.{drop_all, drop_more}
use Rattle.mend_edits.specs.declared.lines.LineEdit.{LineEdit}
use Rattle.mend_edits.specs.Lines.{all_ended, edited_from, left_by, made_by}

-- what is made, and what the edits that are left make, is the same behind a turn
pub edit_on : (xs : List LineEdit) (d : LineEdit) (i next : ℕ) (lines after : List (List ℕ))
    (whole old new : List ℕ) → i < length xs
    → old ++ edited_from next lines (drop i xs) ≡ whole
    → new ≡ old ++ made_by next (get_or xs i d) lines → after ≡ left_by next (get_or xs i d) lines
    → new ++ edited_from (get_or xs i d).end after (drop (i + 1) xs) ≡ whole
edit_on xs d i next lines after whole old new inside h is past =
    let edit = get_or xs i d in
    let later = edited_from edit.end (left_by next edit lines) (drop (i + 1) xs) in
    let now : old ++ (made_by next edit lines ++ later) ≡ whole =
    rw (drop_more xs i d inside) at h in
    rw (is, past) (append_assoc old (made_by next edit lines) later ∙ now)

pub edit_end : (xs : List LineEdit) (i next : ℕ) (lines : List (List ℕ)) (whole bytes : List ℕ)
    → length xs ≤ i → bytes ++ edited_from next lines (drop i xs) ≡ whole
    → bytes ++ all_ended lines ≡ whole
edit_end xs i next lines whole bytes past h = rw (drop_all i xs past) at h
