-- A text read line by line into an outline: a step of the proof, and no definition to believe.
use Rattle.std.specs.Prelude.{ℕ, ◌+◌, List, [], ◌∷◌, Option, Some, None, Result, Ok, Err}
use Rattle.text.specs.Cut.{lines_of}
use Rattle.model.specs.Set.{Set}
use Rattle.asm.specs.declared.draft.Place.{Place}
use Rattle.asm.specs.declared.draft.Place.TheVariants.{Outside, InDriver, InRoutine}
use Rattle.asm.specs.declared.fault.AsmFault.{AsmFault}
use Rattle.asm.specs.declared.fault.AsmKind.{AsmKind}
use Rattle.asm.specs.declared.fault.AsmKind.TheVariants.{UnknownName, Unclosed}
use Rattle.asm_line.specs.declared.line.Line.{Line}
use Rattle.asm_line.specs.declared.line.LineFault.{LineFault}
use Rattle.asm_line.specs.Line.{read_line}
use Rattle.asm.specs.Reading.{kind_of}
use Rattle.asm.specs.Outline.{Outline, nothing_read, draft_misfit, noted}

-- a line that has a form, in its context: its fault, or what is read with it
abbrev pub draft_fitted : Outline → ℕ → Line → Option AsmKind → Result Outline AsmKind
draft_fitted o n l None = Ok (noted o n l.label l.body)
draft_fitted o n l (Some kind) = Err kind

-- a line that was read by its form, in its context
abbrev pub draft_placed : Outline → ℕ → Result Line LineFault → Result Outline AsmKind
draft_placed o n (Ok l) = draft_fitted o n l (draft_misfit o l)
draft_placed o n (Err fault) = Err (kind_of fault)

-- one line, whose number is n: its least kind of fault, or what is read with it
abbrev pub read_on : Outline → ℕ → List ℕ → Result Outline AsmKind
read_on o n raw = draft_placed o n (read_line raw)

-- the end of the text, where the next line would have the number n
abbrev pub draft_ended : Outline → ℕ → Place → Result Outline AsmFault
draft_ended o n Outside = Ok o
draft_ended o n InDriver = Err (record { line = n; kind = Unclosed })
draft_ended o n InRoutine = Err (record { line = n; kind = Unclosed })

-- what follows a line, whose number is n
abbrev pub draft_after_line : ℕ → Result Outline AsmKind → (Outline → Result Outline AsmFault)
    → Result Outline AsmFault
draft_after_line n (Ok o) rest = rest o
draft_after_line n (Err kind) rest = Err (record { line = n; kind = kind })

-- the lines from number n on: the first fault, or what is read with all of them
abbrev pub draft_reading : Outline → ℕ → List (List ℕ) → Result Outline AsmFault
draft_reading o n [] = draft_ended o n o.place
draft_reading o n (raw ∷ raws) =
    draft_after_line n (read_on o n raw) (λ next. draft_reading next (n + 1) raws)

-- the set that was read, unless a line uses an unknown name
abbrev pub draft_resolved : Outline → Option ℕ → Result Set AsmFault
draft_resolved o None = Ok (record { drivers = o.drivers; devices = o.devices })
draft_resolved o (Some line) = Err (record { line = line; kind = UnknownName })

-- unknown names are sought only where nothing else is wrong
abbrev pub draft_named : Result Outline AsmFault → Result Set AsmFault
draft_named (Ok o) = draft_resolved o o.unknown
draft_named (Err fault) = Err fault

-- the set that a text names, or its first fault
abbrev pub draft_set_in : List ℕ → Result Set AsmFault
draft_set_in text = draft_named (draft_reading nothing_read 1 (lines_of text))
