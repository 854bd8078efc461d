-- The driver set that a text names, and its first fault.
use Rattle.std.specs.Prelude.{ℕ, ◌≡◌, ◌+◌, List, [], ◌∷◌, Option, Some, None, Result, Ok, Err}
use Rattle.text.specs.Cut.{lines_of}
use Rattle.model.specs.Set.{Set}
use Rattle.asm.specs.declared.draft.Place.{Place}
use Rattle.asm.specs.declared.draft.Place.TheVariants.{Outside, InDriver, InRoutine}
use Rattle.asm.specs.declared.fault.AsmFault.{AsmFault}
use Rattle.asm.specs.declared.fault.AsmKind.{AsmKind}
use Rattle.asm.specs.declared.fault.AsmKind.TheVariants.{Lex, UnknownWord, UnknownName, Unclosed, Memory}
use Rattle.asm_line.specs.declared.line.Line.{Line}
use Rattle.asm_line.specs.declared.line.LineFault.{LineFault}
use Rattle.asm_line.specs.declared.line.LineFault.TheVariants as unread
use Rattle.asm_line.specs.Line.{read_line}
use Rattle.asm.specs.Parts.{around, place_after}
use Rattle.asm.specs.Faults.{misfit, unknown_from}
use Rattle.asm.specs.Said.{set_of}

-- the kind of fault of bytes that are no line
abbrev pub kind_of : LineFault → AsmKind
kind_of unread.Lex = Lex
kind_of unread.UnknownWord = UnknownWord

-- a line that has a form: itself, or its fault
abbrev pub fitted : Line → Option AsmKind → Result Line AsmKind
fitted l None = Ok l
fitted l (Some kind) = Err kind

-- a line that was read by its form, behind those lines
abbrev pub placed : List Line → Result Line LineFault → Result Line AsmKind
placed before (Ok l) = fitted l (misfit before l)
placed before (Err fault) = Err (kind_of fault)

-- what follows a line, whose number is n
abbrev pub after_line : ℕ → Result Line AsmKind → (Line → Result (List Line) AsmFault)
    → Result (List Line) AsmFault
after_line n (Ok l) rest = rest l
after_line n (Err kind) rest = Err (record { line = n; kind = kind })

-- the end of the text, where the next line would have the number n
abbrev pub ended : List Line → ℕ → Place → Result (List Line) AsmFault
ended before n Outside = Ok (around before [])
ended before n InDriver = Err (record { line = n; kind = Unclosed })
ended before n InRoutine = Err (record { line = n; kind = Unclosed })

-- the lines from number n on, behind those lines: the first fault, or all lines
abbrev pub reading : List Line → ℕ → List (List ℕ) → Result (List Line) AsmFault
reading before n [] = ended before n (place_after before)
reading before n (raw ∷ raws) =
    after_line n (placed before (read_line raw)) (λ l. reading (l ∷ before) (n + 1) raws)

-- the set of lines, unless one of them uses an unknown name
abbrev pub resolved : List Line → Option ℕ → Result Set AsmFault
resolved ls None = Ok (set_of ls)
resolved ls (Some line) = Err (record { line = line; kind = UnknownName })

-- unknown names are sought only where nothing else is wrong
abbrev pub named : Result (List Line) AsmFault → Result Set AsmFault
named (Ok ls) = resolved ls (unknown_from [] 1 ls)
named (Err fault) = Err fault

-- the set that a text names, or its first fault
abbrev pub set_in : List ℕ → Result Set AsmFault
set_in text = named (reading [] 1 (lines_of text))

-- the text names this set
abbrev pub IsNamed : List ℕ → Set → Type 0
IsNamed text set = set_in text ≡ Ok set

-- this is the first fault of the text
abbrev pub IsFaultOf : List ℕ → AsmFault → Type 0
IsFaultOf text fault = set_in text ≡ Err fault

-- the answer where memory ran out
abbrev pub memory : AsmFault
memory = record { line = 0; kind = Memory }
