-- What is told of the text of a schedule.
use Rattle.std.specs.Prelude.{ℕ, ◌≡◌, ◌⊎◌, List, length, Result, Ok, Err}
use Rattle.interleave.specs.declared.schedule.Schedule.{Schedule}
use Rattle.interleave.specs.declared.schedule.ScheduleFault.{ScheduleFault}
use Rattle.interleave.specs.declared.schedule.ScheduleKind.{ScheduleKind}
use Rattle.interleave.specs.declared.schedule.ScheduleKind.TheVariants.{Lex, UnknownWord, OutOfRange, TooLong, Memory}
use Rattle.interleave.specs.Listing.{schedule_in}
use Rattle.pafteis.specs.declared.schedules.ScheduleFaultValue.{ScheduleFaultValue}
use Rattle.pafteis.specs.declared.schedules.ScheduleValue.{ScheduleValue}

-- how large a schedule is
abbrev pub schedule_value : Schedule → ScheduleValue
schedule_value s = record { events = length s.events; threads = s.threads }

-- a fault as a value, by the number of its kind; none where memory ran out
abbrev pub no_fault : ScheduleFaultValue
no_fault = record { line = 0; kind = 0 }

abbrev pub fault_at : ℕ → ScheduleKind → ScheduleFaultValue
fault_at line Lex = record { line = line; kind = 1 }
fault_at line UnknownWord = record { line = line; kind = 2 }
fault_at line OutOfRange = record { line = line; kind = 3 }
fault_at line TooLong = record { line = line; kind = 4 }
fault_at line Memory = no_fault

abbrev pub fault_value : ScheduleFault → ScheduleFaultValue
fault_value fault = fault_at fault.line fault.kind

-- the size of the schedule that a text lists is told, or its first fault
abbrev pub TellsListed : Result Schedule ScheduleFault → ScheduleValue → ScheduleValue
    → ScheduleFaultValue → ℕ → Type 0
TellsListed (Ok schedule) before after fault status =
    (after ≡ schedule_value schedule) × (fault ≡ no_fault) × (status ≡ 0)
TellsListed (Err found) before after fault status =
    (after ≡ before) × (fault ≡ fault_value found) × (status ≡ 2)

-- or memory ran out
abbrev pub TellsSchedule : List ℕ → ScheduleValue → ScheduleValue → ScheduleFaultValue → ℕ → Type 0
TellsSchedule text before after fault status =
    TellsListed (schedule_in text) before after fault status
    ⊎ ((after ≡ before) × (fault ≡ no_fault) × (status ≡ 3))
