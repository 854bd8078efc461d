-- The lines of a verdict.
use Rattle.std.specs.Prelude.{ℕ, List, [], ◌∷◌, codes}
use Rattle.std.specs.Fmt.{decimal}
use Rattle.model.specs.declared.abs.Refusal.{Refusal}
use Rattle.model.specs.declared.set.Sort.{Sort}
use Rattle.model.specs.Words.{rule_text, sort_text}
use Rattle.report.specs.Line.{line_of}

-- the first line of an accepted set
abbrev pub accepted_line : List ℕ
accepted_line = line_of (codes "accepted" ∷ [])

-- the line of a routine of an accepted set
abbrev pub certificate_line : ℕ → ℕ → Sort → ℕ → List ℕ
certificate_line driver routine sort certificate =
    line_of
    (codes "driver" ∷ decimal driver ∷ codes "routine" ∷ decimal routine ∷ sort_text sort
    ∷ codes "certificate" ∷ decimal certificate ∷ [])

-- the line of a refused set
abbrev pub refusal_line : Refusal → List ℕ
refusal_line refusal =
    line_of
    (codes "refused" ∷ rule_text refusal.rule ∷ codes "driver" ∷ decimal refusal.driver
    ∷ codes "routine" ∷ decimal refusal.routine ∷ codes "at" ∷ decimal refusal.at ∷ [])
