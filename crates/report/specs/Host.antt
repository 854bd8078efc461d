-- The lines of a host's run: commands that no worker took, and the verdict on its history.
use Rattle.std.specs.Prelude.{ℕ, List, [], ◌∷◌, codes}
use Rattle.std.specs.Fmt.{decimal}
use Rattle.report.specs.Line.{line_of}

-- the line of the command of a number that was left
abbrev pub left_line : ℕ → List ℕ
left_line number = line_of (decimal number ∷ codes "left" ∷ [])

-- the line of a history of so many entries that the replay of its events agrees with
abbrev pub agrees_line : ℕ → List ℕ
agrees_line entries = line_of (codes "history" ∷ decimal entries ∷ codes "agrees" ∷ [])
