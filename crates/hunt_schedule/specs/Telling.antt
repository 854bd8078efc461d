-- What is told of a hunt: a text that lists a schedule, and tells first how its run ends; that there
-- is such a run, and its schedule isn't told; or that there is none. Of a run that is stuck it is told
-- what isn't at rest at its end; that nothing comes to rest from there is the search's word.
use Rattle.std.specs.Prelude.{ℕ, ◌≡◌, ◌≤◌, ◌++◌, ◌∷◌, List, [], Option, None, Some, length, ⊤, nat_eq, true}
use Rattle.std.specs.List.{starts_with}
use Rattle.tell_audit.specs.declared.ending.Ending.{Ending}
use Rattle.tell_audit.specs.Ends.{EndsSo}
use Rattle.hunt_schedule.specs.declared.reading.Listed.{Listed}
use Rattle.hunt_schedule.specs.declared.telling.Told.{Told}
use Rattle.hunt_schedule.specs.declared.telling.Told.TheVariants.{Found, Unlisted, All, More}
use Rattle.hunt_schedule.specs.Headline.{headline}
use Rattle.hunt_schedule.specs.Lines.{all_line, more_line, unlisted_line}
use Rattle.hunt_facts.specs.declared.bounds.Bounds.{Bounds}
use Rattle.hunt_search.specs.declared.search.Find.{Find}
use Rattle.hunt_search.specs.Hunts.{IsFind, IsWanted}
use Rattle.interleave.specs.declared.schedule.Schedule.{Schedule}
use Rattle.interleave.specs.Listing.{Lists}
use Rattle.model.specs.declared.event.Event.{Event}
use Rattle.model.specs.Set.{Set}

-- a text lists a schedule of so many threads and these events
pub record IsListed (text : List ℕ) (listed : Listed) : Type 0 where
  pub schedule : Schedule
  pub lists : Lists text schedule
  pub threads : schedule.threads ≡ listed.threads
  pub events : schedule.events ≡ listed.run.items

-- the run of these events ends as a text tells first, on the threads of a hunt that looks for such an
-- end
pub record TellsEnd (set : Set) (bounds : Bounds) (before : List Event) (last : Event)
    (text : List ℕ) : Type 0 where
  pub ending : Ending
  pub ends : EndsSo set bounds.threads before last (Some ending)
  pub wanted : IsWanted bounds.goal ending
  pub begins : starts_with nat_eq text (headline ending) ≡ true

-- so many events are within a bound, if there is one
abbrev pub IsWithin : Option ℕ → ℕ → Type 0
IsWithin None events = ⊤
IsWithin (Some most) events = events ≤ most

-- a text lists a schedule within the bounds of a hunt whose run ends as its first line tells
pub record TellsItsEnd (set : Set) (bounds : Bounds) (text : List ℕ) : Type 0 where
  pub schedule : Schedule
  pub lists : Lists text schedule
  pub threads : schedule.threads ≡ bounds.threads
  pub before : List Event
  pub last : Event
  pub events : schedule.events ≡ before ++ last ∷ []
  pub within : IsWithin bounds.events (length schedule.events)
  pub tells : TellsEnd set bounds before last text

-- what is told of a hunt
abbrev pub IsToldOf : Set → Bounds → Told → Type 0
IsToldOf set bounds (Found text) = TellsItsEnd set bounds text.items
IsToldOf set bounds (Unlisted line) =
    (find : Find) × IsFind set bounds find × (line.items ≡ unlisted_line find.ending)
IsToldOf set bounds (All line worlds) = line.items ≡ all_line bounds worlds
IsToldOf set bounds (More line worlds events) = line.items ≡ more_line worlds events
