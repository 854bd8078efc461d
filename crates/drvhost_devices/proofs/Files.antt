-- A set was read of a file: by what its bytes name, as the image that they are, or as the text. And
-- a schedule.
use Rattle.std.proofs.Common.{◌≡◌, ℕ, true, List, Result, Ok, Err, subst}
use Rattle.model.specs.Set.{Set}
use Rattle.drvhost_devices.specs.declared.fault.Fault.{Fault}
use Rattle.drvhost_devices.specs.declared.fault.Fault.TheVariants.{Read, Write, Memory, Text, Image, Schedule as OfSchedule, Script as OfScript}
use Rattle.drvhost_devices.specs.Answer.{FileSays, is_image}
use Rattle.drvhost_devices.specs.Device.{Bytes, Holds, Supply}
use Rattle.drvhost_devices.specs.Fault.{ReadsSchedule, ReadsSet, SaysImage}
use Rattle.interleave.specs.declared.schedule.Schedule.{Schedule}
use Rattle.interleave.specs.Listing.{schedule_in}
use Rattle.report.specs.Fault.{image_fault_line, text_fault_line}

pub image_read : (held : Supply) (bytes : List ℕ) (said : Result Set Fault)
    → Holds held bytes → is_image bytes ≡ true → SaysImage bytes said → ReadsSet held said
image_read held bytes (Ok set) holds is says = (bytes, holds, rw is says)
image_read held bytes (Err (Image fault)) holds is says = (bytes, holds, rw is says)
image_read held bytes (Err Memory) holds is says = says
image_read held bytes (Err Read) holds is says = absurd says
image_read held bytes (Err Write) holds is says = absurd says
image_read held bytes (Err (Text fault)) holds is says = absurd says
image_read held bytes (Err (OfSchedule fault)) holds is says = absurd says
image_read held bytes (Err (OfScript fault)) holds is says = absurd says

-- what the bytes name that a source has, the source has
pub set_read : (held : Supply) (bytes : List ℕ) (said : Result Set Fault)
    → Holds held bytes → ReadsSet (Bytes bytes) said → ReadsSet held said
set_read held bytes (Ok set) holds (other, same, says) =
    let P : List ℕ → Type 0 = λ b. FileSays b (Ok set) in (bytes, holds, subst P same says)
set_read held bytes (Err (Text fault)) holds (other, same, says) =
    let P : List ℕ → Type 0 = λ b. FileSays b (Err (text_fault_line fault)) in
    (bytes, holds, subst P same says)
set_read held bytes (Err (Image fault)) holds (other, same, says) =
    let P : List ℕ → Type 0 = λ b. FileSays b (Err (image_fault_line fault)) in
    (bytes, holds, subst P same says)
set_read held bytes (Err Read) holds says = tt
set_read held bytes (Err Memory) holds says = tt
set_read held bytes (Err Write) holds says = absurd says
set_read held bytes (Err (OfSchedule fault)) holds says = absurd says
set_read held bytes (Err (OfScript fault)) holds says = absurd says

-- and the schedule likewise
pub schedule_read : (held : Supply) (text : List ℕ) (said : Result Schedule Fault)
    → Holds held text → ReadsSchedule (Bytes text) said → ReadsSchedule held said
schedule_read held text (Ok schedule) holds (other, same, says) =
    let P : List ℕ → Type 0 = λ t. schedule_in t ≡ Ok schedule in (text, holds, subst P same says)
schedule_read held text (Err (OfSchedule fault)) holds (other, same, says) =
    let P : List ℕ → Type 0 = λ t. schedule_in t ≡ Err fault in (text, holds, subst P same says)
schedule_read held text (Err Read) holds says = tt
schedule_read held text (Err Memory) holds says = tt
schedule_read held text (Err Write) holds says = absurd says
schedule_read held text (Err (Text fault)) holds says = absurd says
schedule_read held text (Err (Image fault)) holds says = absurd says
schedule_read held text (Err (OfScript fault)) holds says = absurd says
