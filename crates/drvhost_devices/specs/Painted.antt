-- Texts that are painted: with sequences between their bytes that select graphic renditions, each
-- from an escape to the next `m`.
use Rattle.std.specs.Prelude.{ℕ, ◌≡◌, ◌++◌, ◌⊎◌, ◌==◌, if◌then◌else◌, List, [], ◌∷◌, Option, None, Some, codes, drop, false, length, min, take}
use Rattle.std.specs.List.{list_any}
use Rattle.drvhost_devices.specs.Forms.{span_of}
use Rattle.drvhost_devices.specs.declared.form.Span.{Span}
use Rattle.drvhost_devices.specs.declared.paint.Color.{Color}
use Rattle.drvhost_devices.specs.declared.paint.Color.TheVariants.{Good, Bad, Warning, Place}

-- a text without its sequences, from outside of one, and from inside
abbrev mutual
  pub unpainted : List ℕ → List ℕ
  unpainted [] = []
  unpainted (byte ∷ rest) = if byte == 27 then behind_sequence rest else byte ∷ unpainted rest

  pub behind_sequence : List ℕ → List ℕ
  behind_sequence [] = []
  behind_sequence (byte ∷ rest) = if byte == 109 then unpainted rest else behind_sequence rest

-- no escape stands in a text
abbrev pub HasNoEscape : List ℕ → Type 0
HasNoEscape text = list_any (λ byte. byte == 27) text ≡ false

-- whatever stands behind it, these bytes are the text between sequences
abbrev pub Paints : List ℕ → List ℕ → Type 0
Paints text painted = (later : List ℕ) → unpainted (painted ++ later) ≡ text ++ unpainted later

-- a text was added so
abbrev pub AddsPainted : List ℕ → List ℕ → List ℕ → Type 0
AddsPainted text before after =
    (added : List ℕ) × Paints text added × (after ≡ before ++ added)

-- the sequence with which a colour begins: an escape, `[`, numbers of renditions with `;` between
-- them, and `m`
abbrev pub begins : Color → List ℕ
begins Good = 27 ∷ codes "[32m"
begins Bad = 27 ∷ codes "[1;31m"
begins Warning = 27 ∷ codes "[33m"
begins Place = 27 ∷ codes "[1m"

-- the part of a line up to an end, between the sequences of its colour
abbrev pub painted_by : List ℕ → Option Span → List ℕ
painted_by line None = line
painted_by line (Some span) =
    begins span.color ++ (take (min span.end (length line)) line
    ++ ((27 ∷ codes "[0m") ++ drop (min span.end (length line)) line))

-- a line is painted by its form
abbrev pub painted_line : List ℕ → List ℕ
painted_line line = painted_by line (span_of line)

-- a text is line by line, behind the beginning of a line
abbrev pub painted_behind : List ℕ → List ℕ → List ℕ
painted_behind line [] = painted_line line
painted_behind line (byte ∷ rest) =
    if byte == 10 then painted_line (line ++ byte ∷ []) ++ painted_behind [] rest else
    painted_behind (line ++ byte ∷ []) rest

abbrev pub painted_text : List ℕ → List ℕ
painted_text text = painted_behind [] text

-- one with an escape of its own isn't
abbrev pub painted : List ℕ → List ℕ
painted text = if list_any (λ byte. byte == 27) text then text else painted_text text

-- a text is painted so; without the sequences it is the text, if that has no escape of its own
pub record IsPainted (text out : List ℕ) : Type 0 where
  pub is : out ≡ painted text
  pub unpainted_is : HasNoEscape text → unpainted out ≡ text

-- a line with its end and what stands behind it; the last one may have no end
pub record IsFirstLine (line rest : List ℕ) : Type 0 where
  pub words : List ℕ
  pub plain : list_any (λ byte. byte == 10) words ≡ false
  pub ends : (line ≡ words ++ 10 ∷ []) ⊎ ((line ≡ words) × (rest ≡ []))

-- a line was added so
pub record AddsLine (line before after : List ℕ) : Type 0 where
  pub is : after ≡ before ++ painted_line line
  pub adds : AddsPainted line before after

-- and a text
pub record AddsText (text before after : List ℕ) : Type 0 where
  pub is : after ≡ before ++ painted_text text
  pub adds : AddsPainted text before after
