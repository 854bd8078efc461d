-- The lines that a text is made of beside its instructions.
use Rattle.std.specs.Prelude.{ℕ, ◌+◌, ◌||◌, Bool, true, false, List, [], ◌∷◌, bytes_eq, nat_eq, codes}
use Rattle.text.specs.Cut.{is_blank, lines_of}
use Rattle.asm_line.specs.declared.line.Body.{Body}
use Rattle.asm_line.specs.declared.line.Body.TheVariants.{Blank, OpenDriver, CloseDriver, AddQueue, Handle, HandleStartIo, HandleDpc, OpenRoutine, CloseRoutine, AddDevice, Step}
use Rattle.asm_places.specs.Source.{body_on}

-- a line that says this begins or ends a driver or a routine, or adds a queue or a device
abbrev pub outlines : Body → Bool
outlines Blank = false
outlines (OpenDriver name) = true
outlines CloseDriver = true
outlines (AddQueue name guard cancel) = true
outlines (Handle major handler) = false
outlines (HandleStartIo handler cancel) = false
outlines (HandleDpc handler) = false
outlines (OpenRoutine name sort) = true
outlines CloseRoutine = true
outlines (AddDevice name driver stack lower) = true
outlines (Step instr used) = false

-- such a line begins with one of these words
abbrev pub is_outline_word : List ℕ → Bool
is_outline_word t =
    bytes_eq t (codes "driver") || (bytes_eq t (codes "endd")
    || (bytes_eq t (codes "queue") || (bytes_eq t (codes "routine")
    || (bytes_eq t (codes "endr") || bytes_eq t (codes "device")))))

-- a blank, or a byte with which one of these words begins
abbrev pub may_begin : ℕ → Bool
may_begin b =
    is_blank b || (nat_eq b 100 || (nat_eq b 101 || (nat_eq b 113 || nat_eq b 114)))

abbrev pub begins_outline : List ℕ → Bool
begins_outline [] = false
begins_outline (b ∷ bs) = may_begin b

-- the number of a line, if it is one of them, before those of the lines after it
abbrev pub noted : Bool → ℕ → List ℕ → List ℕ
noted true number later = number ∷ later
noted false number later = later

-- the numbers of these lines, from a line of this number on
abbrev pub outline_from : ℕ → List (List ℕ) → List ℕ
outline_from number [] = []
outline_from number (raw ∷ raws) =
    noted (outlines (body_on raw)) number (outline_from (number + 1) raws)

-- the numbers of these lines of a text, in order, from 1
abbrev pub outline_lines : List ℕ → List ℕ
outline_lines text = outline_from 1 (lines_of text)
