-- What is told of a scenario, before it is written.
use Rattle.std.specs.Prelude.{⊤, Result, Ok, Err}
use Rattle.drvhost_devices.specs.Answer.{Answer, ended, faulty}
use Rattle.drvhost_devices.specs.declared.fault.Fault.{Fault}
use Rattle.drvhost_devices.specs.declared.fault.Fault.TheVariants.{Read, Write, Memory, Text, Image, Schedule as OfSchedule, Script as OfScript}
use Rattle.report.specs.Fault.{image_fault_line, schedule_fault_line, text_fault_line}
use Rattle.answer_scenarios.specs.declared.telling.Told.{Told}

-- a text was made, and with the way that the job ends it is a right answer; or an input is rightly
-- told as faulty, or a read failed or memory ran out
abbrev pub Tells : (Answer → Type 0) → Result Told Fault → Type 0
Tells Right (Ok told) = Right (ended told.end told.text.items)
Tells Right (Err (Text fault)) = Right (faulty (text_fault_line fault))
Tells Right (Err (Image fault)) = Right (faulty (image_fault_line fault))
Tells Right (Err (OfSchedule fault)) = Right (faulty (schedule_fault_line fault))
Tells Right (Err Read) = ⊤
Tells Right (Err Memory) = ⊤
Tells Right (Err Write) = ⊥
Tells Right (Err (OfScript fault)) = ⊥
