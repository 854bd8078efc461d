-- What `hunt --scenario` answers: of a run that was found a scenario that fails by it, at its last
-- line, or the word that none does; and else what `hunt` answers.
use Rattle.std.specs.Prelude.{◌≡◌, ◌⊎◌, List, codes, ℕ}
use Rattle.drvhost_devices.specs.Answer.{Answer, IsOfFile, ended}
use Rattle.drvhost_devices.specs.Device.{Holds, Supply}
use Rattle.answer_hunts.specs.declared.hunt.Way.{Way}
use Rattle.answer_hunts.specs.Hunt.{IsToldBy, end_told}
use Rattle.answer_scenarios.specs.Finding.{FailsFound}
use Rattle.answer_scenarios.specs.Scenarios.{names_in}
use Rattle.hunt_facts.specs.declared.bounds.Bounds.{Bounds}
use Rattle.hunt_schedule.specs.declared.telling.Told.{Told}
use Rattle.hunt_schedule.specs.declared.telling.Told.TheVariants.{Found, Unlisted, All, More}
use Rattle.model.specs.Set.{Set}
use Rattle.scenario_names.specs.Names.{Named}

-- that no scenario shows a run that was found
abbrev pub unshown_line : List ℕ
unshown_line =
    codes "; a run was found that no scenario shows: hunt without --scenario for its schedule\n"

-- what is written of a run whose schedule a text lists
abbrev pub IsShown : Named → Set → List ℕ → List ℕ → Type 0
IsShown names set schedule text = FailsFound names set schedule text ⊎ (text ≡ unshown_line)

-- what is written of what is told of a hunt
abbrev pub IsWritten : Named → Set → Told → List ℕ → Type 0
IsWritten names set (Found schedule) text = IsShown names set schedule.items text
IsWritten names set (Unlisted line) text = text ≡ line.items
IsWritten names set (All line worlds) text = text ≡ line.items
IsWritten names set (More line worlds events) text = text ≡ line.items

-- what is right for a set that the bytes of a file name
abbrev pub IsFindBy : Way → Bounds → List ℕ → Set → Answer → Type 0
IsFindBy way bounds bytes set answer =
    (told : Told) × IsToldBy way set bounds told
    × ((text : List ℕ) × IsWritten (names_in bytes) set told text
    × (answer ≡ ended (end_told told) text))

-- what `hunt --scenario` answers for what its source has
abbrev pub IsFindOf : Way → Bounds → Supply → Answer → Type 0
IsFindOf way bounds supply answer =
    (bytes : List ℕ) × Holds supply bytes × IsOfFile (IsFindBy way bounds bytes) bytes answer
