-- The faults of a text in other words: which line is at fault, of which kind, and why; and that the
-- set of a text without one is that of its lines.
use Rattle.std.specs.Prelude.{ℕ, ⊤, ◌≡◌, ◌<◌, ◌+◌, ◌⊎◌, Bool, true, false, not, List, [], ◌∷◌, ◌++◌, length, Option, Some, None, Ok}
use Rattle.text.specs.Lexical.{is_lexical}
use Rattle.text.specs.Cut.{lines_of, tokens_of}
use Rattle.model.specs.Set.{Set}
use Rattle.asm.specs.declared.draft.Place.TheVariants.{Outside}
use Rattle.asm.specs.declared.fault.AsmFault.{AsmFault}
use Rattle.asm.specs.declared.fault.AsmKind.{AsmKind}
use Rattle.asm.specs.declared.fault.AsmKind.TheVariants.{Lex, UnknownWord, DuplicateName, UnknownName, OutOfRange, Unclosed, OverLimit, Memory}
use Rattle.asm_line.specs.declared.line.Line.{Line}
use Rattle.asm_line.specs.Line.{line_of, read_line}
use Rattle.asm.specs.Parts.{around, place_after}
use Rattle.asm.specs.Faults.{has_room, is_again, is_out_of_range, misfit, stands, unknown_from}
use Rattle.asm.specs.Reading.{IsFaultOf, IsNamed}
use Rattle.asm.specs.Said.{set_of}

-- the number of a kind
abbrev pub kind_number : AsmKind → ℕ
kind_number Lex = 1
kind_number UnknownWord = 2
kind_number DuplicateName = 3
kind_number UnknownName = 4
kind_number OutOfRange = 5
kind_number Unclosed = 6
kind_number OverLimit = 7
kind_number Memory = 8

-- the tokens are no line, or one out of its place
abbrev pub is_unknown : List Line → Option Line → Bool
is_unknown before None = true
is_unknown before (Some l) = not (stands (place_after before) l.body)

-- the tokens are a line that passes the test
abbrev pub is_line : (Line → Bool) → Option Line → Bool
is_line test None = false
is_line test (Some l) = test l

-- the line has a fault of this kind behind those lines
abbrev pub shows : List Line → List ℕ → AsmKind → Bool
shows before raw Lex = not (is_lexical raw)
shows before raw UnknownWord = is_unknown before (line_of (tokens_of raw))
shows before raw DuplicateName =
    is_line (λ l. is_again before l.label l.body) (line_of (tokens_of raw))
shows before raw OutOfRange = is_line (λ l. is_out_of_range l.body) (line_of (tokens_of raw))
shows before raw OverLimit = is_line (λ l. not (has_room before l.body)) (line_of (tokens_of raw))
shows before raw UnknownName = false
shows before raw Unclosed = false
shows before raw Memory = false

-- of the kinds of fault that the line has, this is the least
pub record IsLeastKind (before : List Line) (raw : List ℕ) (kind : AsmKind) : Type 0 where
  pub shown : shows before raw kind ≡ true
  pub least : (lesser : AsmKind) → kind_number lesser < kind_number kind
      → shows before raw lesser ≡ false

-- these are the lines, each without a fault behind those before it
abbrev pub AreFine : List Line → List (List ℕ) → List Line → Type 0
AreFine before [] [] = ⊤
AreFine before (raw ∷ raws) (l ∷ ls) =
    (read_line raw ≡ Ok l) × ((misfit before l ≡ None) × AreFine (l ∷ before) raws ls)
AreFine before _ _ = ⊥

-- the first line with a fault, and the least kind of fault that it has
pub record IsLineFault (behind : List Line) (n : ℕ) (raws : List (List ℕ)) (fault : AsmFault)
    : Type 0 where
  pub before : List (List ℕ)
  pub raw : List ℕ
  pub after : List (List ℕ)
  pub lines : List Line
  pub split : raws ≡ before ++ raw ∷ after
  pub read : AreFine behind before lines
  pub line : fault.line ≡ n + length before
  pub kind : IsLeastKind (around lines behind) raw fault.kind

-- no line has a fault, but the text ends inside a driver or routine
pub record IsEndFault (behind : List Line) (n : ℕ) (raws : List (List ℕ)) (fault : AsmFault)
    : Type 0 where
  pub lines : List Line
  pub read : AreFine behind raws lines
  pub unclosed : place_after (around lines behind) ≡ Outside → ⊥
  pub line : fault.line ≡ n + length raws
  pub kind : fault.kind ≡ Unclosed

-- all lines of a text are without a fault, and it ends outside of drivers
pub record IsRead (text : List ℕ) : Type 0 where
  pub lines : List Line
  pub read : AreFine [] (lines_of text) lines
  pub closed : place_after (around lines []) ≡ Outside

-- the first fault of a text is the first line that has one, with the least kind that it has, or
-- that the text ends too early; and only where there is none of these, the first use of an unknown
-- name
pub record IsFirst (text : List ℕ) (fault : AsmFault) : Type 0 where
  pub other : (fault.kind ≡ UnknownName → ⊥) → IsLineFault [] 1 (lines_of text) fault
      ⊎ IsEndFault [] 1 (lines_of text) fault
  pub unknown : fault.kind ≡ UnknownName → (all : IsRead text)
      × (unknown_from [] 1 all.lines ≡ Some fault.line)

-- a text that names a set has no fault
abbrev pub IsFaultless : List ℕ → Type 0
IsFaultless text = (all : IsRead text) × (unknown_from [] 1 all.lines ≡ None)

-- the fault that is given is the first
abbrev pub FaultIsFirst : Type 0
FaultIsFirst = (text : List ℕ) (fault : AsmFault) → IsFaultOf text fault → IsFirst text fault

-- only a faultless text names a set
abbrev pub NamedIsFaultless : Type 0
NamedIsFaultless = (text : List ℕ) (set : Set) → IsNamed text set → IsFaultless text

-- a set that a text names is that of its lines
abbrev pub IsOfItsLines : List ℕ → Set → Type 0
IsOfItsLines text set = (all : IsRead text) × (set ≡ set_of all.lines)

abbrev pub SetIsOfItsLines : Type 0
SetIsOfItsLines = (text : List ℕ) (set : Set) → IsNamed text set → IsOfItsLines text set
