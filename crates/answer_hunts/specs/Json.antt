-- The object of a hunt.
use Rattle.std.specs.Prelude.{ℕ, ◌≡◌, List, [], ◌∷◌, Option, None, Some, String, codes, decimal, option_map, string_bytes}
use Rattle.std.specs.Global.{Global}
use Rattle.std.specs.Str.Lossy.{utf8_lossy}
use Rattle.answer.specs.Told.{IsToldOf, ended_line}
use Rattle.answer_hunts.specs.declared.hunt.Way.{Way}
use Rattle.answer_hunts.specs.declared.hunt.Way.TheVariants.{Quick, Exact}
use Rattle.answer_hunts.specs.Hunt.{IsToldBy, end_told, text_told}
use Rattle.drvhost_devices.specs.Answer.{Answer}
use Rattle.drvhost_devices.specs.Device.{Supply}
use Rattle.hunt_facts.specs.declared.bounds.Bounds.{Bounds}
use Rattle.hunt_facts.specs.declared.bounds.Goal.{Goal}
use Rattle.hunt_facts.specs.declared.bounds.Goal.TheVariants.{Amiss, AmissOrStuck}
use Rattle.hunt_schedule.specs.declared.telling.Told.{Told}
use Rattle.hunt_schedule.specs.declared.telling.Told.TheVariants.{Found, Unlisted, All, More}
use Rattle.json.specs.Json.{Json, null, number, string, object, no_members, member}
use Rattle.model.specs.Set.{Set}
use Rattle.report_json.specs.Told.{number_json}
use Rattle.report_json.specs.Verdict.{name_json}
use Rattle.text.specs.Cut.{lines_of}

-- the name of the shape, and its edition
abbrev pub hunt_format : List ℕ
hunt_format = codes "pafteis.hunt/1"

-- how runs are searched
abbrev pub way_name : Way → List ℕ
way_name Quick = codes "quick"
way_name Exact = codes "exact"

-- a number that there may be; it may be more than readers of JSON keep, so it is a text
abbrev pub limit_json : Option ℕ → Json
limit_json None = null
limit_json (Some limit) = string (decimal limit)

-- what is looked for
abbrev pub goal_name : Goal → List ℕ
goal_name Amiss = codes "amiss"
goal_name AmissOrStuck = codes "amiss_or_stuck"

-- within which bounds
abbrev pub bounds_json : Bounds → Json
bounds_json bounds =
    object
    (member (codes "threads") (number (decimal bounds.threads))
    (member (codes "packets") (number (decimal bounds.packets))
    (member (codes "worlds") (number (decimal bounds.worlds))
    (member (codes "events") (limit_json bounds.events)
    (member (codes "argument") (limit_json bounds.argument)
    (member (codes "goal") (string (goal_name bounds.goal))
    no_members))))))

-- what came of it
abbrev pub outcome_name : Told → List ℕ
outcome_name (Found text) = codes "found"
outcome_name (Unlisted line) = codes "unlisted"
outcome_name (All line worlds) = codes "none"
outcome_name (More line worlds events) = codes "more"

-- the first line of what is written of it
abbrev pub first_line : List (List ℕ) → List ℕ
first_line [] = []
first_line (line ∷ lines) = line

abbrev pub line_told : Told → List ℕ
line_told told = first_line (lines_of (text_told told))

-- the schedule of a run that was found (it is a text of ASCII, so nothing is lost of it)
abbrev pub schedule_told : Told → Option (List ℕ)
schedule_told (Found text) = Some (utf8_lossy text.items)
schedule_told (Unlisted line) = None
schedule_told (All line worlds) = None
schedule_told (More line worlds events) = None

-- where none was found, how many worlds were seen; and up to how many events, where there are more
abbrev pub worlds_told : Told → Option ℕ
worlds_told (Found text) = None
worlds_told (Unlisted line) = None
worlds_told (All line worlds) = Some worlds
worlds_told (More line worlds events) = Some worlds

abbrev pub events_told : Told → Option ℕ
events_told (Found text) = None
events_told (Unlisted line) = None
events_told (All line worlds) = None
events_told (More line worlds events) = Some events

-- what came of a hunt in the set of a file, with such a line, and a schedule, if there is one
abbrev pub hunt_json : List ℕ → Way → Bounds → Told → List ℕ → Option (String Global) → Json
hunt_json file way bounds told line schedule =
    object
    (member (codes "format") (string hunt_format)
    (member (codes "file") (string file)
    (member (codes "way") (string (way_name way))
    (member (codes "bounds") (bounds_json bounds)
    (member (codes "outcome") (string (outcome_name told))
    (member (codes "line") (string line)
    (member (codes "schedule") (name_json schedule)
    (member (codes "worlds") (number_json (worlds_told told))
    (member (codes "events") (number_json (events_told told))
    no_members)))))))))

-- what is right in JSON for the set of the file of a name
pub record IsHuntJsonBy (way : Way) (bounds : Bounds) (name : List ℕ) (set : Set) (answer : Answer)
    : Type 0 where
  pub told : Told
  pub tells : IsToldBy way set bounds told
  pub schedule : Option (String Global)
  pub listed : option_map string_bytes schedule ≡ schedule_told told
  pub is : answer
      ≡ ended_line (end_told told)
      (hunt_json name way bounds told (utf8_lossy (line_told told)) schedule)

-- what `hunt` answers in JSON for what the source has that is the file of a name
abbrev pub IsHuntJsonOf : Way → Bounds → List ℕ → Supply → Answer → Type 0
IsHuntJsonOf way bounds name supply answer =
    IsToldOf (λ _. IsHuntJsonBy way bounds name) name supply answer
