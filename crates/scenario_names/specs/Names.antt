-- What a driver text names: its devices, its instructions by their lines and labels, and its queues.
use Rattle.std.specs.Prelude.{ℕ, ◌+◌, ◌-◌, ◌^◌, ◌++◌, ◌&&◌, nat_eq, nat_lt, Bool, false, List, [], ◌∷◌, bytes_eq, position, slice_get, Option, Some, None, Result, Ok, Err, if◌then◌else◌}
use Rattle.asm_line.specs.declared.line.Body.{Body}
use Rattle.asm_line.specs.declared.line.Body.TheVariants.{OpenDriver, OpenRoutine, AddQueue, AddDevice, Step}
use Rattle.asm_line.specs.declared.line.Line.{Line}
use Rattle.asm_line.specs.declared.line.LineFault.{LineFault}
use Rattle.asm_line.specs.Line.{read_line}
use Rattle.scenario_names.specs.declared.names.Instruction.{Instruction}
use Rattle.scenario_names.specs.declared.names.Queue.{Queue}
use Rattle.scenario_names.specs.declared.names.Spot.{Spot}
use Rattle.text.specs.Cut.{lines_of}

-- the names so far: the devices and their drivers', the instructions and the queues; how many drivers
-- have begun, and in the last of them, which has this name, how many queues, and how many routines, of
-- which the last has this name and so many instructions
pub record Named : Type 0 where
  pub devices : List (List ℕ)
  pub homes : List (List ℕ)
  pub instructions : List Instruction
  pub queues : List Queue
  pub drivers : ℕ
  pub driver : Option (List ℕ)
  pub places : ℕ
  pub routines : ℕ
  pub routine : Option (List ℕ)
  pub positions : ℕ

abbrev pub nothing : Named
nothing = record {
  devices = [];
  homes = [];
  instructions = [];
  queues = [];
  drivers = 0;
  driver = None;
  places = 0;
  routines = 0;
  routine = None;
  positions = 0;
}

-- one more, up to the greatest number of 64 bits
abbrev pub more : ℕ → ℕ
more count = if nat_lt count (2 ^ 64 - 1) then count + 1 else count

-- with an instruction of the last routine, in the line of a number
abbrev pub spot_of : Named → Spot
spot_of names = record {
  driver = names.drivers - 1;
  routine = names.routines - 1;
  position = names.positions;
}

abbrev pub instruction_of : Named → ℕ → Option (List ℕ) → Instruction
instruction_of names number label = record {
  routine = names.routine;
  label = label;
  line = number;
  spot = spot_of names;
}

abbrev pub with_instruction : Named → ℕ → Option (List ℕ) → Named
with_instruction names number label = record names {
  instructions = names.instructions ++ instruction_of names number label ∷ [];
  positions = more names.positions;
}

-- with a queue of the last driver
abbrev pub queue_in : Named → List ℕ → Queue
queue_in names name =
    record { driver = names.driver; name = name; number = names.places }

abbrev pub with_queue : Named → List ℕ → Named
with_queue names name = record names {
  queues = names.queues ++ queue_in names name ∷ [];
  places = more names.places;
}

-- with what a line of a number says
abbrev pub noted_body : Named → ℕ → Option (List ℕ) → Body → Named
noted_body names number label (OpenDriver name) = record names {
  drivers = more names.drivers;
  driver = Some name;
  places = 0;
  routines = 0;
}
noted_body names number label (AddQueue name lock routine) = with_queue names name
noted_body names number label (OpenRoutine name sort) = record names {
  routines = more names.routines;
  routine = Some name;
  positions = 0;
}
noted_body names number label (AddDevice name driver stack lower) =
    record names { devices = names.devices ++ name ∷ []; homes = names.homes ++ driver ∷ [] }
noted_body names number label (Step instr used) = with_instruction names number label
noted_body names number label body = names

abbrev pub noted : Named → ℕ → Line → Named
noted names number line = noted_body names number line.label line.body

abbrev pub noted_line : Named → ℕ → Result Line LineFault → Named
noted_line names number (Ok line) = noted names number line
noted_line names number (Err fault) = names

-- with what lines say, of which the first has the number n
abbrev pub names_on : Named → ℕ → List (List ℕ) → Named
names_on names n [] = names
names_on names n (line ∷ lines) = names_on (noted_line names n (read_line line)) (n + 1) lines

-- the names of a text that names a set
abbrev pub names_of : List ℕ → Named
names_of text = names_on nothing 1 (lines_of text)

-- where the instruction at a place among these stands, if there is one
abbrev pub spot_in : Option Instruction → Option Spot
spot_in None = None
spot_in (Some i) = Some i.spot

abbrev pub spot_at : List Instruction → Option ℕ → Option Spot
spot_at instructions None = None
spot_at instructions (Some place) = spot_in (slice_get instructions place)

-- where the first instruction stands of which this holds
abbrev pub first_spot : (Instruction → Bool) → List Instruction → Option Spot
first_spot Such instructions = spot_at instructions (position Such instructions)

-- the one in the line of a number
abbrev pub on_line : Named → ℕ → Option Spot
on_line names number = first_spot (λ i. nat_eq i.line number) names.instructions

-- the one with a label in a routine of a name
abbrev pub is_called : List ℕ → Option (List ℕ) → Bool
is_called name None = false
is_called name (Some other) = bytes_eq name other

abbrev pub has_label : List ℕ → List ℕ → Instruction → Bool
has_label routine label i = is_called routine i.routine && is_called label i.label

abbrev pub labelled : Named → List ℕ → List ℕ → Option Spot
labelled names routine label = first_spot (has_label routine label) names.instructions

-- the first one in a routine of a name
abbrev pub is_in : List ℕ → Instruction → Bool
is_in routine i = is_called routine i.routine

abbrev pub entry_of : Named → List ℕ → Option Spot
entry_of names routine = first_spot (is_in routine) names.instructions

-- the number of a device's queue with a name: that of its driver
abbrev pub has_name : List ℕ → List ℕ → Queue → Bool
has_name driver name queue = is_called driver queue.driver && bytes_eq name queue.name

abbrev pub number_in : Option Queue → Option ℕ
number_in None = None
number_in (Some queue) = Some queue.number

abbrev pub number_at : List Queue → Option ℕ → Option ℕ
number_at queues None = None
number_at queues (Some place) = number_in (slice_get queues place)

abbrev pub queue_at : Named → List ℕ → Option (List ℕ) → Option ℕ
queue_at names name None = None
queue_at names name (Some driver) =
    number_at names.queues (position (has_name driver name) names.queues)

abbrev pub queue_named : Named → ℕ → List ℕ → Option ℕ
queue_named names device name = queue_at names name (slice_get names.homes device)
