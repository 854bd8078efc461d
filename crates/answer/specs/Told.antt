-- What is told of a file in lines of JSON, all of it on the output.
use Rattle.std.specs.Prelude.{ℕ, ◌≡◌, true, false, List, [], Result, Ok, Err}
use Rattle.asm.specs.Reading as asm
use Rattle.image.specs.Reading as image
use Rattle.json.specs.Json.{Json}
use Rattle.model.specs.Set.{Set}
use Rattle.report_json.specs.declared.fault.InputFault.{InputFault}
use Rattle.report_json.specs.declared.fault.InputFault.TheVariants.{Text, Image, Schedule, Script, Unreadable}
use Rattle.report_json.specs.Fault.{fault_json}
use Rattle.report_json.specs.Line.{json_line}
use Rattle.drvhost_devices.specs.declared.fault.End.{End}
use Rattle.drvhost_devices.specs.Answer.{Answer, FileSays, ended, is_image}
use Rattle.drvhost_devices.specs.Device.{Holds, Supply}

-- a job ended so, with the line of this value
abbrev pub ended_line : End → Json → Answer
ended_line end value = ended end (json_line value)

-- the fault of the file of a name
abbrev pub fault_answer : List ℕ → InputFault → Answer
fault_answer name fault =
    record { status = 2; output = json_line (fault_json name fault); told = [] }

-- the file of a name can't be opened
abbrev pub IsUnopenedJson : List ℕ → Answer → Type 0
IsUnopenedJson name answer = answer ≡ fault_answer name Unreadable

-- this is the first fault of the bytes of the file of a set, an image's or a text's
abbrev pub IsFaultIn : List ℕ → InputFault → Type 0
IsFaultIn bytes (Text fault) = (is_image bytes ≡ false) × asm.IsFaultOf bytes fault
IsFaultIn bytes (Image fault) = (is_image bytes ≡ true) × image.IsFaultOf bytes fault
IsFaultIn bytes (Schedule fault) = ⊥
IsFaultIn bytes (Script fault) = ⊥
IsFaultIn bytes Unreadable = ⊥

-- what the bytes of a file say: the set that they name, or their first fault
abbrev pub SaysIn : List ℕ → Result Set InputFault → Type 0
SaysIn bytes (Ok set) = FileSays bytes (Ok set)
SaysIn bytes (Err fault) = IsFaultIn bytes fault

-- what is right for what the file of a name says, where these are the right answers for a set: for
-- the set that it names, or its first fault
abbrev pub IsToldOfSaid : (Set → Answer → Type 0) → List ℕ → Result Set InputFault → Answer → Type 0
IsToldOfSaid Right name (Ok set) answer = Right set answer
IsToldOfSaid Right name (Err fault) answer = answer ≡ fault_answer name fault

-- what is right for the bytes of the file of a name, where these are the right answers for bytes and
-- the set that they name
abbrev pub IsToldOfFile : (List ℕ → Set → Answer → Type 0) → List ℕ → List ℕ → Answer → Type 0
IsToldOfFile Right name bytes answer =
    (said : Result Set InputFault) × SaysIn bytes said
    × IsToldOfSaid (Right bytes) name said answer

-- what is right for what the source has that is the file of a name
abbrev pub IsToldOf : (List ℕ → Set → Answer → Type 0) → List ℕ → Supply → Answer → Type 0
IsToldOf Right name supply answer =
    (bytes : List ℕ) × Holds supply bytes × IsToldOfFile Right name bytes answer
