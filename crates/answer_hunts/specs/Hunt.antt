-- What `hunt` answers: a schedule whose run ends as its first line tells, or that none was found; and,
-- where it is exact, that no run that is shorter ends amiss, or none at all.
use Rattle.std.specs.Prelude.{ℕ, ◌≡◌, List}
use Rattle.drvhost_devices.specs.Answer.{Answer, ended}
use Rattle.drvhost_devices.specs.declared.fault.End.{End}
use Rattle.drvhost_devices.specs.declared.fault.End.TheVariants.{Complete, Stopped}
use Rattle.drvhost_devices.specs.Device.{Supply}
use Rattle.drvhost_devices.specs.Ends.{IsOfSupply}
use Rattle.answer_hunts.specs.declared.hunt.Way.{Way}
use Rattle.answer_hunts.specs.declared.hunt.Way.TheVariants.{Quick, Exact}
use Rattle.hunt_schedule.specs.declared.telling.Told.{Told}
use Rattle.hunt_schedule.specs.declared.telling.Told.TheVariants.{Found, Unlisted, All, More}
use Rattle.hunt_schedule.specs.Exact.{IsToldExactly}
use Rattle.hunt_schedule.specs.Telling.{IsToldOf}
use Rattle.hunt_facts.specs.declared.bounds.Bounds.{Bounds}
use Rattle.model.specs.Set.{Set}

-- what is written of what is told
abbrev pub text_told : Told → List ℕ
text_told (Found text) = text.items
text_told (Unlisted line) = line.items
text_told (All line worlds) = line.items
text_told (More line worlds events) = line.items

-- the exit status is 1 where a run was found that ends amiss
abbrev pub end_told : Told → End
end_told (Found text) = Stopped
end_told (Unlisted line) = Stopped
end_told (All line worlds) = Complete
end_told (More line worlds events) = Complete

-- what may be told of a hunt in the runs of a set, within bounds
abbrev pub IsToldBy : Way → Set → Bounds → Told → Type 0
IsToldBy Quick set bounds told = IsToldOf set bounds told
IsToldBy Exact set bounds told = IsToldExactly set bounds told

-- what is right for a set
abbrev pub IsHuntBy : Way → Bounds → Set → Answer → Type 0
IsHuntBy way bounds set answer =
    (told : Told) × IsToldBy way set bounds told
    × (answer ≡ ended (end_told told) (text_told told))

-- what `hunt` answers for what its source has, in the way that is asked for
abbrev pub IsHuntOfWay : Way → Bounds → Supply → Answer → Type 0
IsHuntOfWay way bounds supply answer = IsOfSupply (IsHuntBy way bounds) supply answer

-- and where it is quick
abbrev pub IsHuntOf : Bounds → Supply → Answer → Type 0
IsHuntOf bounds supply answer = IsHuntOfWay Quick bounds supply answer
