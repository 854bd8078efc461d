-- How deep the object of a hunt nests.
use Rattle.std.proofs.Common.{◌≤◌, ℕ, List, Option, None, Some, String, arith}
use Rattle.std.specs.Global.{Global}
use Rattle.answer_hunts.specs.declared.hunt.Way.{Way}
use Rattle.answer_hunts.specs.Json.{events_told, hunt_json, limit_json, worlds_told}
use Rattle.hunt_facts.specs.declared.bounds.Bounds.{Bounds}
use Rattle.hunt_schedule.specs.declared.telling.Told.{Told}
use Rattle.json.specs.Json.{max_depth}
use Rattle.json.specs.Tree.{depth}
use Rattle.report_json.specs.Nesting.{name_nests, number_nests}

limit_nests : (limit : Option ℕ) → depth (limit_json limit) ≤ 0
limit_nests None = omega arith
limit_nests (Some limit) = omega arith

pub hunt_nests : (file : List ℕ) (way : Way) (bounds : Bounds) (told : Told) (line : List ℕ)
    (schedule : Option (String Global))
    → depth (hunt_json file way bounds told line schedule) ≤ max_depth
hunt_nests file way bounds told line schedule =
    omega (
      arith,
      limit_nests bounds.events,
      limit_nests bounds.argument,
      name_nests schedule,
      number_nests (worlds_told told),
      number_nests (events_told told),
    )
