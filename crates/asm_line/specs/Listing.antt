-- The lines of a driver set, and its listing.
use Rattle.std.specs.Prelude.{ℕ, ◌≡◌, ◌+◌, ◌<◌, Bool, false, nat_eq, List, [], ◌∷◌, ◌++◌, length, get_or, Option, Some, None, if◌then◌else◌}
use Rattle.std.specs.List.{list_any}
use Rattle.model.specs.Set.{Set, label_of}
use Rattle.model.specs.declared.instr.Instr.{Instr}
use Rattle.model.specs.declared.set.Device.{Device}
use Rattle.model.specs.declared.set.Driver.{Driver}
use Rattle.model.specs.declared.set.Queue.{Queue}
use Rattle.model.specs.declared.set.Routine.{Routine}
use Rattle.model.specs.declared.status.Major.TheVariants.{Read, Write, Control}
use Rattle.asm_line.specs.declared.entry.Entry.{Entry}
use Rattle.asm_line.specs.declared.entry.Entry.TheVariants as line
use Rattle.asm_line.specs.ListedWords.{line_text}

-- the lines of things that are numbered from a number on
abbrev pub listed : {A : Type 0} → (ℕ → A → List Entry) → ℕ → List A → List Entry
listed lines number [] = []
listed lines number (x ∷ xs) = lines number x ++ listed lines (number + 1) xs

-- the label is this position
abbrev pub is_position : ℕ → Option ℕ → Bool
is_position position None = false
is_position position (Some to) = nat_eq to position

-- an instruction jumps to this position
abbrev pub jumps_to : ℕ → Instr → Bool
jumps_to position i = is_position position (label_of i)

-- a position has a label where an instruction of the routine jumps there
abbrev pub label_at : List Instr → ℕ → Option ℕ
label_at code position = if list_any (jumps_to position) code then Some position else None

-- the line of an instruction of a routine with this code
abbrev pub step_lines : List Instr → ℕ → Instr → List Entry
step_lines code position i = line.Step (label_at code position) i ∷ []

-- a routine
abbrev pub routine_lines : ℕ → Routine → List Entry
routine_lines number r =
    line.Routine number r.sort ∷ (listed (step_lines r.code) 0 r.code ++ line.EndRoutine ∷ [])

-- a queue
abbrev pub queue_lines : ℕ → Queue → List Entry
queue_lines number q = line.Queue number q ∷ []

-- the line that names a routine, if there is one
abbrev pub naming : (ℕ → Entry) → Option ℕ → List Entry
naming names None = []
naming names (Some number) = names number ∷ []

-- the line that names a StartIo routine, and the cancel routine of the packets that wait for it
abbrev pub starting : Option ℕ → ℕ → Entry
starting cancel number = line.StartIo number cancel

-- the routines that serve the major functions, begin packets, and are queued by an interrupt
abbrev pub table_lines : Driver → List Entry
table_lines d =
    naming (line.Handler Read) d.read
    ++ (naming (line.Handler Write) d.write
    ++ (naming (line.Handler Control) d.control
    ++ (naming (starting d.startio_cancel) d.startio ++ naming line.Dpc d.dpc)))

-- a driver
abbrev pub driver_lines : ℕ → Driver → List Entry
driver_lines number d =
    line.Driver number ∷ (listed queue_lines 0 d.queues
    ++ (table_lines d ++ (listed routine_lines 0 d.routines ++ line.EndDriver ∷ [])))

-- a device
abbrev pub device_lines : ℕ → Device → List Entry
device_lines number d = line.Device number d ∷ []

-- all lines of a set: its drivers, then its devices
abbrev pub set_lines : Set → List Entry
set_lines set = listed driver_lines 0 set.drivers ++ listed device_lines 0 set.devices

-- the bytes of lines
abbrev pub text_of : List Entry → List ℕ
text_of [] = []
text_of (l ∷ ls) = line_text l ++ text_of ls

-- the listing of a set
abbrev pub listing : Set → List ℕ
listing set = text_of (set_lines set)

-- these marks tell of each position below a count whether one of these instructions jumps there
pub record AreMarks (count : ℕ) (code : List Instr) (marks : List Bool) : Type 0 where
  pub many : length marks ≡ count
  pub told : (position : ℕ) → position < count
      → get_or marks position false ≡ list_any (jumps_to position) code
