-- Edits of whole lines of a text, and what they make of it.
use Rattle.std.specs.Prelude.{ℕ, ◌-◌, ◌++◌, List, [], ◌∷◌, drop, string_bytes, take}
use Rattle.text.specs.Cut.{lines_of}
use Rattle.mend_edits.specs.Patch.{ended}
use Rattle.mend_edits.specs.declared.lines.LineEdit.{LineEdit}

-- lines, each with its LF
abbrev pub all_ended : List (List ℕ) → List ℕ
all_ended [] = []
all_ended (line ∷ lines) = ended line ++ all_ended lines

-- lines that are left, the first of which has this number: those before an edit stay, and its own
-- ones are replaced
abbrev pub made_by : ℕ → LineEdit → List (List ℕ) → List ℕ
made_by next edit lines = all_ended (take (edit.start - next) lines) ++ string_bytes edit.text

abbrev pub left_by : ℕ → LineEdit → List (List ℕ) → List (List ℕ)
left_by next edit lines = drop (edit.end - edit.start) (drop (edit.start - next) lines)

abbrev pub edited_from : ℕ → List (List ℕ) → List LineEdit → List ℕ
edited_from next lines [] = all_ended lines
edited_from next lines (edit ∷ edits) =
    made_by next edit lines ++ edited_from edit.end (left_by next edit lines) edits

-- what edits make of a text, one after another; each line ends with LF then, the last one too
abbrev pub edited : List ℕ → List LineEdit → List ℕ
edited text edits = edited_from 1 (lines_of text) edits
