-- The sizes of a driver set.
use Rattle.std.specs.Prelude.{ℕ, zero, suc, ◌+◌, nat_eq, Bool, true, false, if◌then◌else◌, List, [], ◌∷◌, codes, length}
use Rattle.std.specs.List.{list_any}
use Rattle.answer_stats.specs.declared.sizes.Input.{Input}
use Rattle.answer_stats.specs.declared.sizes.Input.TheVariants.{Text, Image}
use Rattle.answer_stats.specs.declared.sizes.Sizes.{Sizes}
use Rattle.drvhost_devices.specs.Answer.{is_image}
use Rattle.model.specs.declared.instr.Instr.{Instr}
use Rattle.model.specs.declared.instr.Instr.TheVariants.{Acquire, AcquireCancel}
use Rattle.model.specs.declared.set.Driver.{Driver}
use Rattle.model.specs.declared.set.Routine.{Routine}
use Rattle.model.specs.Set.{Set}

-- an instruction takes the lock of a number: a spin lock of a device, or as the ninth the system
-- cancel spin lock
abbrev pub takes : ℕ → Instr → Bool
takes lock (Acquire spin) = nat_eq spin lock
takes lock AcquireCancel = nat_eq lock 8
takes lock i = false

-- one of a routine's does, and one of a driver's routines
abbrev pub takes_in : ℕ → Routine → Bool
takes_in lock routine = list_any (takes lock) routine.code

abbrev pub is_taken : Driver → ℕ → Bool
is_taken driver lock = list_any (takes_in lock) driver.routines

abbrev pub taken : Driver → ℕ → ℕ
taken driver lock = if is_taken driver lock then 1 else 0

-- how many of the locks below a number the routines of a driver take, and of all nine
abbrev pub locks_below : Driver → ℕ → ℕ
locks_below driver zero = 0
locks_below driver (suc lock) = locks_below driver lock + taken driver lock

abbrev pub locks_in : Driver → ℕ
locks_in driver = locks_below driver 9

abbrev pub all_locks : List Driver → ℕ
all_locks [] = 0
all_locks (driver ∷ drivers) = locks_in driver + all_locks drivers

-- how many routines drivers have
abbrev pub all_routines : List Driver → ℕ
all_routines [] = 0
all_routines (driver ∷ drivers) = length driver.routines + all_routines drivers

-- how many instructions
abbrev pub instructions_in : List Routine → ℕ
instructions_in [] = 0
instructions_in (routine ∷ routines) = length routine.code + instructions_in routines

abbrev pub all_instructions : List Driver → ℕ
all_instructions [] = 0
all_instructions (driver ∷ drivers) = instructions_in driver.routines + all_instructions drivers

-- what a set was read from, by whether that is an image
abbrev pub input_of : Bool → Input
input_of true = Image
input_of false = Text

abbrev pub input_name : Input → List ℕ
input_name Text = codes "text"
input_name Image = codes "image"

-- the sizes of the set that bytes are
abbrev pub sizes_of : List ℕ → Set → Sizes
sizes_of bytes set =
    record {
      drivers = length set.drivers;
      devices = length set.devices;
      routines = all_routines set.drivers;
      instructions = all_instructions set.drivers;
      locks = all_locks set.drivers;
      input = input_of (is_image bytes);
      bytes = length bytes;
    }
