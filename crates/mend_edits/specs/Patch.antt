-- A text edited line by line.
use Rattle.std.specs.Prelude.{ℕ, List, [], ◌∷◌, ◌++◌, drop}
use Rattle.text.specs.Cut.{lines_of}
use Rattle.mend_edits.specs.declared.step.Step.{Step}
use Rattle.mend_edits.specs.declared.step.Step.TheVariants.{Keep, Delete, Insert}

-- a line with its LF
abbrev pub ended : List ℕ → List ℕ
ended line = line ++ 10 ∷ []

-- the first line, if there is one
abbrev pub first_ended : List (List ℕ) → List ℕ
first_ended [] = []
first_ended (line ∷ lines) = ended line

-- what a step writes where these lines are left, and the lines that are left behind it
abbrev pub bytes_by : Step → List (List ℕ) → List ℕ
bytes_by Keep lines = first_ended lines
bytes_by Delete lines = []
bytes_by (Insert line) lines = ended line

abbrev pub left_by : Step → List (List ℕ) → List (List ℕ)
left_by Keep lines = drop 1 lines
left_by Delete lines = drop 1 lines
left_by (Insert line) lines = lines

-- what the steps make of these lines, one after another; lines behind the last step are gone
abbrev pub patched_from : List (List ℕ) → List Step → List ℕ
patched_from lines [] = []
patched_from lines (step ∷ steps) = bytes_by step lines ++ patched_from (left_by step lines) steps

-- the text that the steps make of a text
abbrev pub patched : List ℕ → List Step → List ℕ
patched text steps = patched_from (lines_of text) steps

-- the steps that keep each of these lines
abbrev pub all_kept : List (List ℕ) → List Step
all_kept [] = []
all_kept (line ∷ lines) = Keep ∷ all_kept lines
