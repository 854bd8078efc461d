-- The images of a driver set: the bytes that spell it, in each edition. A number of two or four
-- bytes is little endian, and FF stands for none.
use Rattle.std.specs.Prelude.{ℕ, ⊤, ◌≡◌, ◌⊎◌, List, [], ◌∷◌, ◌++◌, length, get_or, Option, None, Some}
use Rattle.std.specs.Int.{w16, w32, to_le_bytes}
use Rattle.std.specs.List.{flat_map}
use Rattle.image.specs.declared.edition.Edition.{Edition}
use Rattle.image.specs.declared.edition.Edition.TheVariants.{Former, Current}
use Rattle.image.specs.declared.word.Word.{Word}
use Rattle.model.specs.declared.instr.Field.{Field}
use Rattle.model.specs.declared.instr.Field.TheVariants.{Major, Argument, Info}
use Rattle.model.specs.declared.instr.Instr.{Instr}
use Rattle.model.specs.declared.instr.Return.{Return}
use Rattle.model.specs.declared.instr.Return.TheVariants.{WithStatus, Lower, Continue, Stop, Void}
use Rattle.model.specs.declared.set.Device.{Device}
use Rattle.model.specs.declared.set.Driver.{Driver}
use Rattle.model.specs.declared.set.Queue.{Queue}
use Rattle.model.specs.declared.set.Routine.{Routine}
use Rattle.model.specs.declared.set.Sort.{Sort}
use Rattle.model.specs.declared.set.Sort.TheVariants.{Dispatch, StartIo, Dpc, Cancel, Propagate, Hold}
use Rattle.model.specs.declared.status.Status.{Status}
use Rattle.model.specs.declared.status.Status.TheVariants.{Success, Pending, Busy, Unsuccessful, InvalidParameter, InvalidDeviceRequest, Cancelled}
use Rattle.model.specs.InstructionForm.{Operand, ARegister, ACell, APagedCell, ASpinLock, AConstant, ATurns, AField, AStatus, AQueue, ALabel, ARoutine, AReturn, Form, ValueOf, Values, by_form}
use Rattle.model.specs.Edition.{edition_of}
use Rattle.model.specs.Set.{Set}

-- a number, or FF for none
abbrev pub or_none : Option ℕ → ℕ
or_none None = 0xFF
or_none (Some n) = n

-- the number of a sort of routine
abbrev pub sort_number : Sort → ℕ
sort_number Dispatch = 0
sort_number StartIo = 1
sort_number Dpc = 2
sort_number Cancel = 3
sort_number Propagate = 4
sort_number Hold = 5

-- the number of a status
abbrev pub status_number : Status → ℕ
status_number Success = 0
status_number Pending = 1
status_number Busy = 2
status_number Unsuccessful = 3
status_number InvalidParameter = 4
status_number InvalidDeviceRequest = 5
status_number Cancelled = 6

-- the number of a field of a packet
abbrev pub field_number : Field → ℕ
field_number Major = 0
field_number Argument = 1
field_number Info = 2

-- An instruction's word: the instruction's number, and what stands behind it in the text. Each
-- register, spin lock, cell, queue, field, status, routine and form of return takes a byte, in
-- order; a label, a constant or a count of turns takes the last four. What is unused is zero.
abbrev pub word : ℕ → ℕ → ℕ → ℕ → ℕ → Word
word number first second third last =
    record { number = number; first = first; second = second; third = third; last = last }

-- what `ret` returns: its form, and what stands behind that
abbrev pub return_bytes : Return → List ℕ
return_bytes (WithStatus status) = 0 ∷ status_number status ∷ []
return_bytes (Lower r) = 1 ∷ r ∷ []
return_bytes Continue = 2 ∷ []
return_bytes Stop = 3 ∷ []
return_bytes Void = 4 ∷ []

abbrev pub operand_bytes : (operand : Operand) → ValueOf operand → List ℕ
operand_bytes ARegister r = r ∷ []
operand_bytes ACell c = c ∷ []
operand_bytes APagedCell c = c ∷ []
operand_bytes ASpinLock lock = lock ∷ []
operand_bytes AConstant n = []
operand_bytes ATurns turns = []
operand_bytes AField field = field_number field ∷ []
operand_bytes AStatus status = status_number status ∷ []
operand_bytes AQueue q = q ∷ []
operand_bytes ALabel label = []
operand_bytes ARoutine f = or_none f ∷ []
operand_bytes AReturn form = return_bytes form

abbrev pub operands_bytes : (operands : List Operand) → Values operands → List ℕ
operands_bytes [] values = []
operands_bytes (operand ∷ operands) values =
    operand_bytes operand values.0 ++ operands_bytes operands values.1

-- the last four bytes with this operand before others
abbrev pub last_with : (operand : Operand) → ValueOf operand → ℕ → ℕ
last_with ARegister r other = other
last_with ACell c other = other
last_with APagedCell c other = other
last_with ASpinLock lock other = other
last_with AConstant n other = n
last_with ATurns turns other = turns
last_with AField field other = other
last_with AStatus status other = other
last_with AQueue q other = other
last_with ALabel label other = label
last_with ARoutine f other = other
last_with AReturn form other = other

abbrev pub last_of : (operands : List Operand) → Values operands → ℕ
last_of [] values = 0
last_of (operand ∷ operands) values = last_with operand values.0 (last_of operands values.1)

abbrev pub word_with : ℕ → List ℕ → ℕ → Word
word_with number bytes last =
    word number (get_or bytes 0 0) (get_or bytes 1 0) (get_or bytes 2 0) last

abbrev pub form_word : (form : Form) → Values form.operands → Word
form_word form values =
    word_with form.number (operands_bytes form.operands values) (last_of form.operands values)

abbrev pub word_of : Instr → Word
word_of i = by_form form_word i

-- the eight bytes of a word
abbrev pub word_bytes : Word → List ℕ
word_bytes w = w.number ∷ w.first ∷ w.second ∷ w.third ∷ to_le_bytes w32 w.last

abbrev pub instruction_bytes : Instr → List ℕ
instruction_bytes i = word_bytes (word_of i)

-- a routine: its sort, a zero, the count of its instructions in two bytes, and their words
abbrev pub routine_bytes : Routine → List ℕ
routine_bytes routine =
    (sort_number routine.sort ∷ 0 ∷ to_le_bytes w16 (length routine.code))
    ++ flat_map instruction_bytes routine.code

-- a queue: its guard, and its cancel routine or none
abbrev pub queue_bytes : Queue → List ℕ
queue_bytes queue = queue.guard ∷ or_none queue.cancel ∷ []

-- the cancel routine of a driver's device queue, or none; a zero in the first edition
abbrev pub waiting_byte : Edition → Option ℕ → ℕ
waiting_byte Former cancel = 0
waiting_byte Current cancel = or_none cancel

-- a driver: how many routines and queues it has, the routines that serve reads, writes and control
-- requests, its StartIo and its DPC routine, or none, the cancel routine of its device queue, its
-- queues, and its routines
abbrev pub driver_bytes : Edition → Driver → List ℕ
driver_bytes edition d =
    (length d.routines ∷ length d.queues
    ∷ or_none d.read ∷ or_none d.write ∷ or_none d.control ∷ or_none d.startio ∷ or_none d.dpc
    ∷ waiting_byte edition d.startio_cancel ∷ [])
    ++ (flat_map queue_bytes d.queues ++ flat_map routine_bytes d.routines)

-- a device: its driver, its stack size, the device under it or none, and a zero
abbrev pub device_bytes : Device → List ℕ
device_bytes device = device.driver ∷ device.stack ∷ or_none device.lower ∷ 0 ∷ []

-- the digit of an edition, `1` or `2`
abbrev pub edition_digit : Edition → ℕ
edition_digit Former = 0x31
edition_digit Current = 0x32

-- a set: the letters `DVB` and the digit, how many drivers and devices it has, two zeros, its
-- drivers, and its devices
abbrev pub spelling : Edition → Set → List ℕ
spelling edition set =
    (0x44 ∷ 0x56 ∷ 0x42 ∷ edition_digit edition
    ∷ length set.drivers ∷ length set.devices ∷ 0 ∷ 0 ∷ [])
    ++ (flat_map (driver_bytes edition) set.drivers ++ flat_map device_bytes set.devices)

-- the first edition has spellings for sets of that edition alone
abbrev pub HasSpelling : Edition → Set → Type 0
HasSpelling Former set = edition_of set ≡ 1
HasSpelling Current set = ⊤

-- the bytes spell the set in an edition
abbrev pub SpellsIn : Edition → List ℕ → Set → Type 0
SpellsIn edition bytes set = HasSpelling edition set × (bytes ≡ spelling edition set)

-- the bytes spell the set in either edition
abbrev pub Spells : List ℕ → Set → Type 0
Spells bytes set = SpellsIn Former bytes set ⊎ SpellsIn Current bytes set
