-- The words for how far a command has come.
use Rattle.std.specs.Prelude.{ℕ, ◌++◌, ◌%◌, List, [], ◌∷◌, codes, decimal, if◌then◌else◌, length, nat_eq}
use Rattle.report_progress.specs.declared.progress.Reached.{Reached}
use Rattle.report_progress.specs.declared.progress.Reached.TheVariants.{Of, Worlds}

-- what stands before these digits, behind another one: a comma, before each three of the last ones
abbrev pub mark_before : List ℕ → List ℕ
mark_before [] = []
mark_before (digit ∷ digits) =
    if nat_eq (length (digit ∷ digits) % 3) 0 then codes "," else []

abbrev pub grouped : List ℕ → List ℕ
grouped [] = []
grouped (digit ∷ digits) = digit ∷ (mark_before digits ++ grouped digits)

-- so many of all; or a search, so many worlds in runs of up to so many events
abbrev pub line : Reached → List ℕ
line (Of done all) = grouped (decimal done) ++ (codes " of " ++ grouped (decimal all))
line (Worlds worlds events) =
    grouped (decimal events) ++ (codes " events, " ++ (grouped (decimal worlds) ++ codes " worlds"))
