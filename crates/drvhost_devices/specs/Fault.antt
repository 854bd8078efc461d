-- What a fault says of the devices, and how it is answered.
use Rattle.std.specs.Prelude.{ℕ, ⊤, ◌≡◌, ◌++◌, List, [], codes, Option, Result, Ok, Err}
use Rattle.std.specs.Io.KnownBytes.{Keeps}
use Rattle.asm.specs.declared.fault.AsmFault.{AsmFault}
use Rattle.asm.specs.declared.fault.AsmKind.{AsmKind}
use Rattle.asm.specs.declared.fault.AsmKind.TheVariants as asm_kind
use Rattle.image.specs.declared.fault.ImageFault.{ImageFault}
use Rattle.image.specs.declared.fault.ImageFault.TheVariants as image_kind
use Rattle.interleave.specs.declared.schedule.Schedule.{Schedule}
use Rattle.interleave.specs.declared.schedule.ScheduleFault.{ScheduleFault}
use Rattle.interleave.specs.declared.schedule.ScheduleKind.{ScheduleKind}
use Rattle.interleave.specs.declared.schedule.ScheduleKind.TheVariants as schedule_kind
use Rattle.interleave.specs.Listing.{schedule_in}
use Rattle.model.specs.Set.{Set}
use Rattle.model.specs.declared.history.Command.{Command}
use Rattle.interleave_texts.specs.Script.{script_in}
use Rattle.std.specs.Global.{Vec}
use Rattle.report.specs.Fault.{image_fault_line, schedule_fault_line, script_fault_line, text_fault_line}
use Rattle.drvhost_devices.specs.declared.fault.End.{End}
use Rattle.drvhost_devices.specs.declared.fault.End.TheVariants.{Complete}
use Rattle.drvhost_devices.specs.declared.fault.Fault.{Fault}
use Rattle.drvhost_devices.specs.declared.fault.Fault.TheVariants.{Read, Write, Memory, Text, Image, Schedule as OfSchedule, Script as OfScript}
use Rattle.drvhost_devices.specs.Answer.{Answer, FileSays, ImageSays, TextSays, end_status, ended, faulty}
use Rattle.drvhost_devices.specs.Device.{Adds, Holds, Supply, TakesBeginning}
use Rattle.drvhost_devices.specs.Ends.{IsRewriteOf}

-- how many reads failed
abbrev pub failed_reads : Fault → ℕ
failed_reads Read = 1
failed_reads Write = 0
failed_reads Memory = 0
failed_reads (Text fault) = 0
failed_reads (Image fault) = 0
failed_reads (OfSchedule fault) = 0
failed_reads (OfScript fault) = 0

-- how many writes failed
abbrev pub failed_writes : Fault → ℕ
failed_writes Write = 1
failed_writes Read = 0
failed_writes Memory = 0
failed_writes (Text fault) = 0
failed_writes (Image fault) = 0
failed_writes (OfSchedule fault) = 0
failed_writes (OfScript fault) = 0

-- the same of a call that may end in a fault
abbrev pub reads_failed : {T : Type 0} → Result T Fault → ℕ
reads_failed (Ok x) = 0
reads_failed (Err fault) = failed_reads fault

abbrev pub writes_failed : {T : Type 0} → Result T Fault → ℕ
writes_failed (Ok x) = 0
writes_failed (Err fault) = failed_writes fault

-- the exit status for a fault
abbrev pub fault_status : Fault → ℕ
fault_status Memory = 3
fault_status Read = 2
fault_status Write = 2
fault_status (Text fault) = 2
fault_status (Image fault) = 2
fault_status (OfSchedule fault) = 2
fault_status (OfScript fault) = 2

-- the exit status for a job
abbrev pub status_of : Result End Fault → ℕ
status_of (Ok end) = end_status end
status_of (Err fault) = fault_status fault

-- what is told of a fault
abbrev pub fault_told : Fault → List ℕ
fault_told Read = codes "read failed\n"
fault_told Write = codes "write failed\n"
fault_told Memory = codes "out of memory\n"
fault_told (Text fault) = text_fault_line fault
fault_told (Image fault) = image_fault_line fault
fault_told (OfSchedule fault) = schedule_fault_line fault
fault_told (OfScript fault) = script_fault_line fault

-- what is told of a job
abbrev pub told_of : Result End Fault → List ℕ
told_of (Ok end) = []
told_of (Err fault) = fault_told fault

-- a fault of memory is one of its own
abbrev pub text_fault_of : AsmKind → AsmFault → Fault
text_fault_of asm_kind.Memory fault = Memory
text_fault_of asm_kind.Lex fault = Text fault
text_fault_of asm_kind.UnknownWord fault = Text fault
text_fault_of asm_kind.DuplicateName fault = Text fault
text_fault_of asm_kind.UnknownName fault = Text fault
text_fault_of asm_kind.OutOfRange fault = Text fault
text_fault_of asm_kind.Unclosed fault = Text fault
text_fault_of asm_kind.OverLimit fault = Text fault

abbrev pub text_fault : AsmFault → Fault
text_fault fault = text_fault_of fault.kind fault

abbrev pub image_fault : ImageFault → Fault
image_fault image_kind.Memory = Memory
image_fault image_kind.Magic = Image image_kind.Magic
image_fault image_kind.Truncated = Image image_kind.Truncated
image_fault image_kind.Trailing = Image image_kind.Trailing
image_fault image_kind.BadOpcode = Image image_kind.BadOpcode
image_fault image_kind.OverLimit = Image image_kind.OverLimit

abbrev pub schedule_fault_of : ScheduleKind → ScheduleFault → Fault
schedule_fault_of schedule_kind.Memory fault = Memory
schedule_fault_of schedule_kind.Lex fault = OfSchedule fault
schedule_fault_of schedule_kind.UnknownWord fault = OfSchedule fault
schedule_fault_of schedule_kind.OutOfRange fault = OfSchedule fault
schedule_fault_of schedule_kind.TooLong fault = OfSchedule fault

abbrev pub schedule_fault : ScheduleFault → Fault
schedule_fault fault = schedule_fault_of fault.kind fault

abbrev pub script_fault_of : ScheduleKind → ScheduleFault → Fault
script_fault_of schedule_kind.Memory fault = Memory
script_fault_of schedule_kind.Lex fault = OfScript fault
script_fault_of schedule_kind.UnknownWord fault = OfScript fault
script_fault_of schedule_kind.OutOfRange fault = OfScript fault
script_fault_of schedule_kind.TooLong fault = OfScript fault

abbrev pub script_fault : ScheduleFault → Fault
script_fault fault = script_fault_of fault.kind fault

-- the set that an image spells was found, or its first fault; and likewise of a text
abbrev pub SaysImage : List ℕ → Result Set Fault → Type 0
SaysImage bytes (Ok set) = ImageSays bytes (Ok set)
SaysImage bytes (Err (Image fault)) = ImageSays bytes (Err (image_fault_line fault))
SaysImage bytes (Err Memory) = ⊤
SaysImage bytes (Err Read) = ⊥
SaysImage bytes (Err Write) = ⊥
SaysImage bytes (Err (Text fault)) = ⊥
SaysImage bytes (Err (OfSchedule fault)) = ⊥
SaysImage bytes (Err (OfScript fault)) = ⊥

abbrev pub SaysText : List ℕ → Result Set Fault → Type 0
SaysText bytes (Ok set) = TextSays bytes (Ok set)
SaysText bytes (Err (Text fault)) = TextSays bytes (Err (text_fault_line fault))
SaysText bytes (Err Memory) = ⊤
SaysText bytes (Err Read) = ⊥
SaysText bytes (Err Write) = ⊥
SaysText bytes (Err (Image fault)) = ⊥
SaysText bytes (Err (OfSchedule fault)) = ⊥
SaysText bytes (Err (OfScript fault)) = ⊥

-- a set was read: it is the one that the bytes of a source name, or their first fault is told
abbrev pub ReadsSet : Supply → Result Set Fault → Type 0
ReadsSet held (Ok set) = (bytes : List ℕ) × Holds held bytes × FileSays bytes (Ok set)
ReadsSet held (Err (Text fault)) =
    (bytes : List ℕ) × Holds held bytes × FileSays bytes (Err (text_fault_line fault))
ReadsSet held (Err (Image fault)) =
    (bytes : List ℕ) × Holds held bytes × FileSays bytes (Err (image_fault_line fault))
ReadsSet held (Err Read) = ⊤
ReadsSet held (Err Memory) = ⊤
ReadsSet held (Err Write) = ⊥
ReadsSet held (Err (OfSchedule fault)) = ⊥
ReadsSet held (Err (OfScript fault)) = ⊥

-- an image was made of the set that the bytes of a source name, or the set's first fault is told
abbrev pub ReadsImage : Supply → Result (Vec ℕ) Fault → Type 0
ReadsImage held (Ok image) = IsRewriteOf held (ended Complete image.items)
ReadsImage held (Err fault) = ReadsSet held (Err fault)

-- a schedule was read likewise
abbrev pub ReadsSchedule : Supply → Result Schedule Fault → Type 0
ReadsSchedule held (Ok schedule) =
    (text : List ℕ) × Holds held text × (schedule_in text ≡ Ok schedule)
ReadsSchedule held (Err (OfSchedule fault)) =
    (text : List ℕ) × Holds held text × (schedule_in text ≡ Err fault)
ReadsSchedule held (Err Read) = ⊤
ReadsSchedule held (Err Memory) = ⊤
ReadsSchedule held (Err Write) = ⊥
ReadsSchedule held (Err (Text fault)) = ⊥
ReadsSchedule held (Err (Image fault)) = ⊥
ReadsSchedule held (Err (OfScript fault)) = ⊥

-- a script was read likewise
abbrev pub ReadsScript : Supply → Result (Vec Command) Fault → Type 0
ReadsScript held (Ok commands) =
    (text : List ℕ) × Holds held text × (script_in text ≡ Ok commands.items)
ReadsScript held (Err (OfScript fault)) =
    (text : List ℕ) × Holds held text × (script_in text ≡ Err fault)
ReadsScript held (Err Read) = ⊤
ReadsScript held (Err Memory) = ⊤
ReadsScript held (Err Write) = ⊥
ReadsScript held (Err (Text fault)) = ⊥
ReadsScript held (Err (Image fault)) = ⊥
ReadsScript held (Err (OfSchedule fault)) = ⊥

-- a job has come to its end or to a fault, where these answers are right, with lines that gathered
-- before and gather now: the output of a right answer was added; a write failed, and a beginning of
-- it went out; an input is rightly told as faulty; or a read failed or memory ran out, and nothing
-- went out
abbrev pub Goes : (Answer → Type 0) → Option (List ℕ) → Option (List ℕ) → List ℕ → List ℕ
    → Result End Fault → Type 0
Goes Right before after gathered left (Ok end) =
    (text : List ℕ) × Right (ended end text) × Adds before after gathered left text
Goes Right before after gathered left (Err Write) =
    (answer : Answer) × Right answer × TakesBeginning before after (gathered ++ answer.output)
Goes Right before after gathered left (Err (Text fault)) =
    Right (faulty (text_fault_line fault)) × Keeps before after
Goes Right before after gathered left (Err (Image fault)) =
    Right (faulty (image_fault_line fault)) × Keeps before after
Goes Right before after gathered left (Err (OfSchedule fault)) =
    Right (faulty (schedule_fault_line fault)) × Keeps before after
Goes Right before after gathered left (Err (OfScript fault)) =
    Right (faulty (script_fault_line fault)) × Keeps before after
Goes Right before after gathered left (Err Read) = Keeps before after
Goes Right before after gathered left (Err Memory) = Keeps before after
