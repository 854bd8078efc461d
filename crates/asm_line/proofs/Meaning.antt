-- What the lines of a listing say, as lines of a driver text.
use Rattle.std.specs.Prelude.{ℕ, ⊤, List, Option, Some, None, IfSome, option_map}
use Rattle.model.specs.declared.instr.Instr.{Instr}
use Rattle.model.specs.InstructionForm.{Operand, AQueue, ALabel, ARoutine, ValueOf, rebuilt}
use Rattle.model.specs.Set.{label_of}
use Rattle.model.specs.Sound.{completion_named, queue_named, IsSpinLock, OperandFits}
use Rattle.asm_line.specs.declared.line.Body.{Body}
use Rattle.asm_line.specs.declared.line.Body.TheVariants.{OpenDriver, CloseDriver, AddQueue, Handle, HandleStartIo, HandleDpc, OpenRoutine, CloseRoutine, AddDevice, Step}
use Rattle.asm_line.specs.declared.line.Line.{Line}
use Rattle.asm_line.specs.declared.line.UsedNames.{UsedNames}
use Rattle.asm_line.specs.declared.entry.Entry.{Entry}
use Rattle.asm_line.specs.declared.entry.Entry.TheVariants as line
use Rattle.asm_line.specs.ListedWords.{device, driver, label, queue, routine}
use Rattle.asm_line.proofs.Digits.{IsSmall}

-- an instruction as its line alone gives it: its label and its queue are 0, its routine is none
abbrev pub forgets : (operand : Operand) → ValueOf operand → ValueOf operand
forgets AQueue q = 0
forgets ALabel to = 0
forgets ARoutine f = None
forgets _ value = value

abbrev pub unlinked : Instr → Instr
unlinked i = rebuilt forgets i

-- the names that it uses
abbrev pub names_used : Instr → UsedNames
names_used i = record {
  label = option_map label (label_of i);
  routine = option_map routine (completion_named i);
  queue = option_map queue (queue_named i);
}

abbrev pub body_meant : Entry → Body
body_meant (line.Driver number) = OpenDriver (driver number)
body_meant (line.Queue number q) =
    AddQueue (queue number) (Some q.guard) (option_map routine q.cancel)
body_meant (line.Handler major number) = Handle major (routine number)
body_meant (line.StartIo number cancel) =
    HandleStartIo (routine number) (option_map routine cancel)
body_meant (line.Dpc number) = HandleDpc (routine number)
body_meant (line.Routine number sort) = OpenRoutine (routine number) sort
body_meant (line.Step position i) = Step (Some (unlinked i)) (names_used i)
body_meant line.EndRoutine = CloseRoutine
body_meant line.EndDriver = CloseDriver
body_meant (line.Device number d) =
    AddDevice (device number) (driver d.driver) d.stack (option_map device d.lower)

abbrev pub label_meant : Entry → Option (List ℕ)
label_meant (line.Step position i) = option_map label position
label_meant _ = None

-- the line
abbrev pub meant : Entry → Line
meant e = record { label = label_meant e; body = body_meant e }

-- the numbers of an instruction are those of a set
pub record InstrFits (i : Instr) : Type 0 where
  pub operands : OperandFits i
  pub label : IfSome (label_of i) IsSmall
  pub routine : IfSome (completion_named i) IsSmall
  pub queue : IfSome (queue_named i) IsSmall

-- the numbers of a line are
abbrev pub EntryFits : Entry → Type 0
EntryFits (line.Driver number) = IsSmall number
EntryFits (line.Queue number q) = IsSmall number × (IsSpinLock q.guard × IfSome q.cancel IsSmall)
EntryFits (line.Handler major number) = IsSmall number
EntryFits (line.StartIo number cancel) = IsSmall number × IfSome cancel IsSmall
EntryFits (line.Dpc number) = IsSmall number
EntryFits (line.Routine number sort) = IsSmall number
EntryFits (line.Step position i) = IfSome position IsSmall × InstrFits i
EntryFits line.EndRoutine = ⊤
EntryFits line.EndDriver = ⊤
EntryFits (line.Device number d) =
    IsSmall number × (IsSmall d.driver × (IsSmall d.stack × IfSome d.lower IsSmall))
