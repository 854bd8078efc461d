-- A line of a driver text: its tokens, the form that they have, and what it says.
use Rattle.std.specs.Prelude.{ℕ, ⊤, List, [], ◌∷◌, Bool, Option, Some, None, bytes_eq, codes, option_map, option_and_then, Result, Err, if◌then◌else◌}
use Rattle.std.specs.Option.{ok_or}
use Rattle.text.specs.Cut.{tokens_of}
use Rattle.text.specs.Class.{label_name}
use Rattle.text.specs.Lexical.{is_lexical}
use Rattle.model.specs.declared.instr.Instr.{Instr}
use Rattle.model.specs.Sound.{IsSpinLock, OperandFits, queue_named}
use Rattle.asm_line.specs.Cursor.{Reading, beginning, so_far, one, two, three, then_read, major, name, number, optional_name, sort, spin_lock}
use Rattle.asm_line.specs.Instruction.{instruction}
use Rattle.asm_line.specs.declared.cursor.Cursor.{Cursor}
use Rattle.asm_line.specs.declared.line.LineFault.{LineFault}
use Rattle.asm_line.specs.declared.line.LineFault.TheVariants.{Lex, UnknownWord}
use Rattle.asm_line.specs.declared.line.Body.{Body}
use Rattle.asm_line.specs.declared.line.Body.TheVariants.{Blank, OpenDriver, CloseDriver, AddQueue, Handle, HandleStartIo, HandleDpc, OpenRoutine, CloseRoutine, AddDevice, Step}
use Rattle.asm_line.specs.declared.line.Line.{Line}
use Rattle.asm_line.specs.declared.line.UsedNames.{UsedNames}

-- `device NAME DRIVER STACK` and `device NAME DRIVER STACK LOWER`
abbrev pub device : Cursor → Reading Body
device c = then_read (name c) (λ n rest. three (AddDevice n) name number optional_name rest)

-- what was read, if its operands are in range
abbrev pub if_in_range : {A : Type 0} → Bool → A → Option A
if_in_range fine a = if fine then Some a else None

-- `queue NAME LOCK` and `queue NAME LOCK ROUTINE`
abbrev pub queue : Cursor → Reading Body
queue c =
    then_read (name c)
    (λ n rest. then_read (spin_lock rest)
    (λ lock rest. one (AddQueue n (if_in_range rest.in_range lock)) optional_name rest))

-- an instruction, and the names that it uses
abbrev pub step : List ℕ → Cursor → Reading Body
step t c =
    then_read (instruction t c)
    (λ i rest. so_far (Step (if_in_range rest.in_range i) rest.used) rest)

-- what the first word of a line and the tokens behind it say: `startio ROUTINE` may name a cancel
-- routine too
abbrev pub body : List ℕ → Cursor → Reading Body
body t c =
    if bytes_eq t (codes "driver") then one OpenDriver name c else
    (if bytes_eq t (codes "endd") then so_far CloseDriver c else
    (if bytes_eq t (codes "queue") then queue c else
    (if bytes_eq t (codes "dispatch") then two Handle major name c else
    (if bytes_eq t (codes "startio") then two HandleStartIo name optional_name c else
    (if bytes_eq t (codes "dpc") then one HandleDpc name c else
    (if bytes_eq t (codes "routine") then two OpenRoutine name sort c else
    (if bytes_eq t (codes "endr") then so_far CloseRoutine c else
    (if bytes_eq t (codes "device") then device c else step t c))))))))

-- what was read, if no token is left
abbrev pub if_ended : List (List ℕ) → Body → Option Body
if_ended [] b = Some b
if_ended _ b = None

abbrev pub ended : Reading Body → Option Body
ended reading = option_and_then (λ read. if_ended read.1.tokens read.0) reading

-- what these tokens say
abbrev pub body_of : List (List ℕ) → Option Body
body_of [] = None
body_of (t ∷ ts) = ended (body t (beginning ts))

-- only an instruction may have a label
abbrev pub labelled : List ℕ → Body → Option Line
labelled label (Step instr used) = Some (record { label = Some label; body = Step instr used })
labelled label Blank = None
labelled label (OpenDriver name) = None
labelled label CloseDriver = None
labelled label (AddQueue name lock cancel) = None
labelled label (Handle major routine) = None
labelled label (HandleStartIo routine cancel) = None
labelled label (HandleDpc routine) = None
labelled label (OpenRoutine name sort) = None
labelled label CloseRoutine = None
labelled label (AddDevice name driver stack lower) = None

-- the line of these tokens, of which the first may be a label
abbrev pub line_with : List (List ℕ) → Option (List ℕ) → List (List ℕ) → Option Line
line_with tokens (Some label) ts = option_and_then (labelled label) (body_of ts)
line_with tokens None ts = option_map (λ b. record { label = None; body = b }) (body_of tokens)

-- the line that the tokens are; without a token it is blank
abbrev pub line_of : List (List ℕ) → Option Line
line_of [] = Some (record { label = None; body = Blank })
line_of (t ∷ ts) = line_with (t ∷ ts) (label_name t) ts

-- the line of these bytes: Lex if a byte or token is of no form, UnknownWord if the line is of none
abbrev pub read_line : List ℕ → Result Line LineFault
read_line raw = if is_lexical raw then ok_or (line_of (tokens_of raw)) UnknownWord else Err Lex

-- where an instruction names a queue, the name is noted
abbrev pub IsNoted : Option ℕ → Option (List ℕ) → Type 0
IsNoted None name = ⊤
IsNoted (Some q) None = ⊥
IsNoted (Some q) (Some name) = ⊤

abbrev pub QueueNoted : UsedNames → Instr → Type 0
QueueNoted used i = IsNoted (queue_named i) used.queue

-- the operands of the line's instruction, if it has one, are those of a sound set, and so is the
-- guard of its queue
abbrev pub BodyFits : Body → Type 0
BodyFits (Step (Some instr) used) = OperandFits instr × QueueNoted used instr
BodyFits (Step None used) = ⊤
BodyFits Blank = ⊤
BodyFits (OpenDriver name) = ⊤
BodyFits CloseDriver = ⊤
BodyFits (AddQueue name (Some lock) cancel) = IsSpinLock lock
BodyFits (AddQueue name None cancel) = ⊤
BodyFits (Handle major routine) = ⊤
BodyFits (HandleStartIo routine cancel) = ⊤
BodyFits (HandleDpc routine) = ⊤
BodyFits (OpenRoutine name sort) = ⊤
BodyFits CloseRoutine = ⊤
BodyFits (AddDevice name driver stack lower) = ⊤
