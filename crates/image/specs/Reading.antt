-- The fields of an image of either edition in order, and the first that is at fault. The fourth
-- byte tells the edition, by which two fields differ: the last of a driver's first eight bytes, and
-- whether an instruction is one that the second edition alone has. A field is one byte, the count
-- of a routine's instructions in two, or a whole word of eight. One that isn't whole is Truncated.
-- In a field that is whole, a number that nothing has and a byte that must be zero and isn't are
-- BadOpcode; else a number out of its range, or one that names nothing, is OverLimit.
use Rattle.std.specs.Prelude.{ℕ, zero, suc, ⊤, ◌+◌, ◌≡◌, ◌⊎◌, ◌==◌, ◌&&◌, ◌||◌, Bool, true, false, nat_lt, nat_le, List, [], ◌∷◌, length, get_or, take, drop, Option, None, Some, Result, Ok, Err, if◌then◌else◌}
use Rattle.std.specs.Int.{w16, w32, from_le_bytes}
use Rattle.std.specs.List.{list_any}
use Rattle.image.specs.declared.edition.Edition.{Edition}
use Rattle.image.specs.declared.edition.Edition.TheVariants.{Former, Current}
use Rattle.image.specs.declared.fault.ImageFault.{ImageFault}
use Rattle.image.specs.declared.fault.ImageFault.TheVariants.{Magic, Truncated, Trailing, BadOpcode, OverLimit, Memory}
use Rattle.image.specs.declared.word.Word.{Word}
use Rattle.image.specs.declared.reading.Scope.{Scope}
use Rattle.image.specs.Spelling.{word}
use Rattle.model.specs.declared.instr.Field.{Field}
use Rattle.model.specs.declared.instr.Field.TheVariants.{Major, Argument, Info}
use Rattle.model.specs.declared.instr.Instr.{Instr}
use Rattle.model.specs.declared.instr.Return.{Return}
use Rattle.model.specs.declared.instr.Return.TheVariants.{WithStatus, Lower, Continue, Stop, Void}
use Rattle.model.specs.declared.limits.TheConstants.{CELLS, MAX_DEVICES, MAX_DRIVERS, MAX_INSTRUCTIONS, MAX_QUEUES, MAX_ROUTINES, MAX_STACK, MAX_TURNS, REGISTERS, SPIN_LOCKS}
use Rattle.model.specs.declared.set.Device.{Device}
use Rattle.model.specs.declared.set.Driver.{Driver}
use Rattle.model.specs.declared.set.Queue.{Queue}
use Rattle.model.specs.declared.set.Routine.{Routine}
use Rattle.model.specs.declared.set.Sort.{Sort}
use Rattle.model.specs.declared.set.Sort.TheVariants.{Dispatch, StartIo, Dpc, Cancel, Propagate, Hold}
use Rattle.model.specs.declared.status.Status.{Status}
use Rattle.model.specs.declared.status.Status.TheVariants.{Success, Pending, Busy, Unsuccessful, InvalidParameter, InvalidDeviceRequest, Cancelled}
use Rattle.model.specs.InstructionForm.{Editions, Both, SecondAlone, Operand, ARegister, ACell, APagedCell, ASpinLock, AConstant, ATurns, AField, AStatus, AQueue, ALabel, ARoutine, AReturn, Form, ValueOf, Values, forms, made_of}
use Rattle.model.specs.Set.{Set}
use Rattle.model.specs.Sound.{IsSound}

-- one thing, and then what follows from it, up to the first fault
infixl 10 ◌>>=◌
abbrev pub ◌>>=◌ : {A B : Type 0} → Result A ImageFault → (A → Result B ImageFault)
    → Result B ImageFault
(Ok x) >>= f = f x
(Err fault) >>= f = Err fault

-- what is made of one thing
abbrev pub one : {A X : Type 0} → (A → X) → Result A ImageFault → Result X ImageFault
one f a = a >>= λ x. Ok (f x)

-- ---- what a number may be

-- a number within its range
abbrev pub ranged : Bool → ℕ → Result ℕ ImageFault
ranged fits n = if fits then Ok n else Err OverLimit

-- a number of one of so many things
abbrev pub below : ℕ → ℕ → Result ℕ ImageFault
below count n = ranged (nat_lt n count) n

-- a count of at most so many
abbrev pub at_most : ℕ → ℕ → Result ℕ ImageFault
at_most most n = ranged (nat_le n most) n

-- a number of one of so many things, or none
abbrev pub none_or_below : ℕ → ℕ → Result (Option ℕ) ImageFault
none_or_below count n = if n == 0xFF then Ok None else one (λ m. Some m) (below count n)

-- how often a loop turns
abbrev pub turns_in : ℕ → Result ℕ ImageFault
turns_in n = ranged (nat_le 1 n && nat_le n MAX_TURNS) n

-- the stack size of a device
abbrev pub stack_in : ℕ → Result ℕ ImageFault
stack_in n = ranged (nat_le 1 n && nat_le n MAX_STACK) n

-- a byte that must be zero
abbrev pub unused : ℕ → Result ℕ ImageFault
unused n = if n == 0 then Ok 0 else Err BadOpcode

-- a letter of the first four bytes
abbrev pub letter : ℕ → ℕ → Result ℕ ImageFault
letter wanted n = if n == wanted then Ok n else Err Magic

-- the edition, by the last of the first four bytes
abbrev pub edition_in : ℕ → Result Edition ImageFault
edition_in n = if n == 0x31 then Ok Former else (if n == 0x32 then Ok Current else Err Magic)

-- the cancel routine of a device queue, or none, of a driver with so many routines; in the first
-- edition a byte that must be zero
abbrev pub waiting_in : Edition → ℕ → ℕ → Result (Option ℕ) ImageFault
waiting_in Former routines n = if n == 0 then Ok None else Err BadOpcode
waiting_in Current routines n = none_or_below routines n

abbrev pub sort_in : ℕ → Result Sort ImageFault
sort_in n =
    if n == 0 then Ok Dispatch else
    (if n == 1 then Ok StartIo else
    (if n == 2 then Ok Dpc else
    (if n == 3 then Ok Cancel else
    (if n == 4 then Ok Propagate else
    (if n == 5 then Ok Hold else Err BadOpcode)))))

abbrev pub status_in : ℕ → Result Status ImageFault
status_in n =
    if n == 0 then Ok Success else
    (if n == 1 then Ok Pending else
    (if n == 2 then Ok Busy else
    (if n == 3 then Ok Unsuccessful else
    (if n == 4 then Ok InvalidParameter else
    (if n == 5 then Ok InvalidDeviceRequest else
    (if n == 6 then Ok Cancelled else Err OverLimit))))))

abbrev pub field_in : ℕ → Result Field ImageFault
field_in n =
    if n == 0 then Ok Major else
    (if n == 1 then Ok Argument else
    (if n == 2 then Ok Info else Err OverLimit))

abbrev pub register_in : ℕ → Result ℕ ImageFault
register_in n = below REGISTERS n

abbrev pub cell_in : ℕ → Result ℕ ImageFault
cell_in n = below CELLS n

abbrev pub lock_in : ℕ → Result ℕ ImageFault
lock_in n = below SPIN_LOCKS n

-- ---- a word

-- the first so many of the three operand bytes are used, and the last four bytes are or aren't:
-- what is unused is zero
abbrev pub is_zero_from : ℕ → ℕ → ℕ → Bool
is_zero_from used place n = nat_lt place used || (n == 0)

abbrev pub leaves : ℕ → Bool → Word → Bool
leaves used wide w =
    is_zero_from used 0 w.first && is_zero_from used 1 w.second && is_zero_from used 2 w.third
    && (wide || (w.last == 0))

-- what a word says whose unused bytes are zero
abbrev pub using : {A : Type 0} → ℕ → Bool → Word → Result A ImageFault → Result A ImageFault
using used wide w said = if leaves used wide w then said else Err BadOpcode

-- the operand byte of a place
abbrev pub byte_of : Word → ℕ → ℕ
byte_of w place = get_or (w.first ∷ w.second ∷ w.third ∷ []) place 0

-- what `ret` returns, by its form and what stands behind that
abbrev pub return_in : ℕ → ℕ → Result Return ImageFault
return_in form n =
    if form == 0 then one (λ s. WithStatus s) (status_in n) else
    (if form == 1 then one (λ r. Lower r) (register_in n) else
    (if form == 2 then Ok Continue else
    (if form == 3 then Ok Stop else
    (if form == 4 then Ok Void else Err BadOpcode))))

-- how many operand bytes an operand takes, the first of which is this
abbrev pub size_of : Operand → ℕ → ℕ
size_of ARegister first = 1
size_of ACell first = 1
size_of APagedCell first = 1
size_of ASpinLock first = 1
size_of AConstant first = 0
size_of ATurns first = 0
size_of AField first = 1
size_of AStatus first = 1
size_of AQueue first = 1
size_of ALabel first = 0
size_of ARoutine first = 1
size_of AReturn first = if nat_lt first 2 then 2 else 1

-- whether it takes the last four bytes
abbrev pub takes_last : Operand → Bool
takes_last ARegister = false
takes_last ACell = false
takes_last APagedCell = false
takes_last ASpinLock = false
takes_last AConstant = true
takes_last ATurns = true
takes_last AField = false
takes_last AStatus = false
takes_last AQueue = false
takes_last ALabel = true
takes_last ARoutine = false
takes_last AReturn = false

-- how many operand bytes are used by operands from a place on
abbrev pub used_from : List Operand → ℕ → Word → ℕ
used_from [] place w = place
used_from (operand ∷ operands) place w =
    used_from operands (place + size_of operand (byte_of w place)) w

-- an operand whose bytes begin at a place, of an instruction in a routine of so many positions, of
-- a driver with so many routines and queues
abbrev pub operand_in : Scope → (operand : Operand) → ℕ → Word
    → Result (ValueOf operand) ImageFault
operand_in scope ARegister place w = register_in (byte_of w place)
operand_in scope ACell place w = cell_in (byte_of w place)
operand_in scope APagedCell place w = cell_in (byte_of w place)
operand_in scope ASpinLock place w = lock_in (byte_of w place)
operand_in scope AConstant place w = Ok w.last
operand_in scope ATurns place w = turns_in w.last
operand_in scope AField place w = field_in (byte_of w place)
operand_in scope AStatus place w = status_in (byte_of w place)
operand_in scope AQueue place w = below scope.queues (byte_of w place)
operand_in scope ALabel place w = below scope.positions w.last
operand_in scope ARoutine place w = none_or_below scope.routines (byte_of w place)
operand_in scope AReturn place w = return_in (byte_of w place) (byte_of w (place + 1))

abbrev pub operands_in : Scope → (operands : List Operand) → ℕ → Word
    → Result (Values operands) ImageFault
operands_in scope [] place w = Ok tt
operands_in scope (operand ∷ operands) place w =
    operand_in scope operand place w >>= λ value.
    one (λ values. (value, values))
    (operands_in scope operands (place + size_of operand (byte_of w place)) w)

-- the instruction of a form
abbrev pub form_in : Scope → Word → Form → Result Instr ImageFault
form_in scope w form =
    using (used_from form.operands 0 w) (list_any takes_last form.operands) w
    (one (made_of form.operands form.makes) (operands_in scope form.operands 0 w))

-- what an edition of these has, which the other hasn't
abbrev pub edition_had : {A : Type 0} → Edition → Editions → Result A ImageFault
    → Result A ImageFault
edition_had edition Both said = said
edition_had Former SecondAlone said = Err BadOpcode
edition_had Current SecondAlone said = said

-- the instruction that a word spells, by the form that has its number
abbrev pub in_forms : List Form → Scope → Word → Result Instr ImageFault
in_forms [] scope w = Err BadOpcode
in_forms (form ∷ forms) scope w =
    if w.number == form.number
    then edition_had scope.edition form.editions (form_in scope w form)
    else in_forms forms scope w

abbrev pub instruction_in : Scope → Word → Result Instr ImageFault
instruction_in scope w = in_forms forms scope w

-- ---- fields

-- What is read at the front, and the bytes behind it.
abbrev pub Read : Type 0 → Type 0
Read A = Result (A × List ℕ) ImageFault

-- a field of so many bytes
abbrev pub field_at : ℕ → List ℕ → Read (List ℕ)
field_at size bytes =
    if nat_lt (length bytes) size then Err Truncated else Ok (take size bytes, drop size bytes)

-- a field of one byte
abbrev pub byte_at : {A : Type 0} → (ℕ → Result A ImageFault) → List ℕ → Read A
byte_at meaning [] = Err Truncated
byte_at meaning (b ∷ bytes) = one (λ a. (a, bytes)) (meaning b)

-- the count of a routine's instructions
abbrev pub count_at : List ℕ → Read ℕ
count_at bytes =
    field_at 2 bytes >>= λ field. one (λ n. (n, field.1))
    (at_most MAX_INSTRUCTIONS (from_le_bytes w16 field.0))

-- a word
abbrev pub word_in : List ℕ → Word
word_in field =
    word (get_or field 0 0) (get_or field 1 0) (get_or field 2 0) (get_or field 3 0)
    (from_le_bytes w32 (drop 4 field))

abbrev pub word_at : List ℕ → Read Word
word_at bytes = one (λ field. (word_in field.0, field.1)) (field_at 8 bytes)

-- an instruction
abbrev pub instruction_at : Scope → List ℕ → Read Instr
instruction_at scope bytes =
    word_at bytes >>= λ w. one (λ i. (i, w.1)) (instruction_in scope w.0)

-- so many things of one kind, from a number on
unfoldable pub all_at : {A : Type 0} → (ℕ → List ℕ → Read A) → ℕ → ℕ → List ℕ → Read (List A)
all_at item number zero bytes = Ok ([], bytes)
all_at item number (suc count) bytes = do
  first ← item number bytes
  others ← all_at item (suc number) count first.1
  Ok (first.0 ∷ others.0, others.1)

-- a routine of a driver with so many routines and queues
abbrev pub scoped : Edition → ℕ → ℕ → ℕ → Scope
scoped edition routines queues positions =
    record { edition = edition; routines = routines; queues = queues; positions = positions }

unfoldable pub routine_at : Edition → ℕ → ℕ → List ℕ → Read Routine
routine_at edition routines queues bytes = do
  sort ← byte_at sort_in bytes
  zeroed ← byte_at unused sort.1
  count ← count_at zeroed.1
  code ← all_at (λ _. instruction_at (scoped edition routines queues count.0)) 0 count.0 count.1
  Ok (record { sort = sort.0; code = code.0 }, code.1)

-- a queue of a driver with so many routines
unfoldable pub queue_at : ℕ → List ℕ → Read Queue
queue_at routines bytes = do
  guard ← byte_at lock_in bytes
  cancel ← byte_at (none_or_below routines) guard.1
  Ok (record { guard = guard.0; cancel = cancel.0 }, cancel.1)

-- a driver
unfoldable pub driver_at : Edition → List ℕ → Read Driver
driver_at edition bytes = do
  routines ← byte_at (at_most MAX_ROUTINES) bytes
  queues ← byte_at (at_most MAX_QUEUES) routines.1
  read ← byte_at (none_or_below routines.0) queues.1
  write ← byte_at (none_or_below routines.0) read.1
  control ← byte_at (none_or_below routines.0) write.1
  startio ← byte_at (none_or_below routines.0) control.1
  dpc ← byte_at (none_or_below routines.0) startio.1
  waiting ← byte_at (waiting_in edition routines.0) dpc.1
  listed ← all_at (λ _. queue_at routines.0) 0 queues.0 waiting.1
  coded ← all_at (λ _. routine_at edition routines.0 queues.0) 0 routines.0 listed.1
  Ok (
    record {
      routines = coded.0;
      queues = listed.0;
      read = read.0;
      write = write.0;
      control = control.0;
      startio = startio.0;
      startio_cancel = waiting.0;
      dpc = dpc.0;
    },
    coded.1,
  )

-- the device of a number, which may be over an earlier one, in a set of so many drivers
unfoldable pub device_at : ℕ → ℕ → List ℕ → Read Device
device_at drivers number bytes = do
  driver ← byte_at (below drivers) bytes
  stack ← byte_at stack_in driver.1
  lower ← byte_at (none_or_below number) stack.1
  zeroed ← byte_at unused lower.1
  Ok (record { driver = driver.0; stack = stack.0; lower = lower.0 }, zeroed.1)

-- the first four bytes
unfoldable pub letters_at : List ℕ → Read Edition
letters_at bytes = do
  first ← byte_at (letter 0x44) bytes
  second ← byte_at (letter 0x56) first.1
  third ← byte_at (letter 0x42) second.1
  byte_at edition_in third.1

-- the set whose fields stand at the front, in the edition that the first four bytes tell
unfoldable pub set_at : List ℕ → Read Set
set_at bytes = do
  edition ← letters_at bytes
  drivers ← byte_at (at_most MAX_DRIVERS) edition.1
  devices ← byte_at (at_most MAX_DEVICES) drivers.1
  zeroed ← byte_at unused devices.1
  zeroed_too ← byte_at unused zeroed.1
  first ← all_at (λ _. driver_at edition.0) 0 drivers.0 zeroed_too.1
  second ← all_at (device_at drivers.0) 0 devices.0 first.1
  Ok (record { drivers = first.0; devices = second.0 }, second.1)

-- nothing stands after the last device
abbrev pub whole : Read Set → Result Set ImageFault
whole read = read >>= λ found. if length found.1 == 0 then Ok found.0 else Err Trailing

-- the set that the fields name, which are all of the bytes; routines may still stand in a role of
-- another sort
abbrev pub set_in : List ℕ → Result Set ImageFault
set_in bytes = whole (set_at bytes)

-- the first fault of the bytes: that of a field, or, where no field has one, a routine in a role of
-- another sort
abbrev pub IsFaultOf : List ℕ → ImageFault → Type 0
IsFaultOf bytes fault =
    (set_in bytes ≡ Err fault)
    ⊎ ((fault ≡ OverLimit) × ((set : Set) × (set_in bytes ≡ Ok set) × (IsSound set → ⊥)))

-- what was returned, seen so, is what the fields say, unless memory ran out
abbrev pub Fails : {A : Type 0} → ImageFault → Result A ImageFault → Type 0
Fails Magic said = said ≡ Err Magic
Fails Truncated said = said ≡ Err Truncated
Fails Trailing said = said ≡ Err Trailing
Fails BadOpcode said = said ≡ Err BadOpcode
Fails OverLimit said = said ≡ Err OverLimit
Fails Memory said = ⊤

abbrev pub Gives : {A X : Type 0} → (X → A) → Result X ImageFault → Result A ImageFault → Type 0
Gives seen (Ok x) said = said ≡ Ok (seen x)
Gives seen (Err fault) said = Fails fault said
