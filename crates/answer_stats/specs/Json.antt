-- The object of `stats`.
use Rattle.std.specs.Prelude.{ℕ, ◌≡◌, ◌⊎◌, List, [], ◌∷◌, Option, String, codes, decimal, length, map, option_and_then, option_map, slice_get, string_bytes}
use Rattle.std.specs.Global.{Global}
use Rattle.std.specs.Str.Lossy.{utf8_lossy}
use Rattle.answer.specs.Check.{IsRefusalJson, certified_routines, with_names}
use Rattle.answer.specs.Names.{routine_names}
use Rattle.answer.specs.Told.{IsToldOf, ended_line}
use Rattle.answer_stats.specs.declared.sizes.Sizes.{Sizes}
use Rattle.answer_stats.specs.Order.{orders_json}
use Rattle.answer_stats.specs.Sizes.{input_name, sizes_of}
use Rattle.drvhost_devices.specs.Answer.{Answer}
use Rattle.drvhost_devices.specs.declared.fault.End.TheVariants.{Complete}
use Rattle.drvhost_devices.specs.Device.{Supply}
use Rattle.json.specs.Json.{Json, array, number, string, object, Items, no_items, item, no_members, member}
use Rattle.model.specs.Set.{Set}
use Rattle.model.specs.Typable.{IsTypable}
use Rattle.report_json.specs.declared.verdict.CertifiedRoutine.{CertifiedRoutine}
use Rattle.report_json.specs.Told.{number_json}
use Rattle.report_json.specs.Verdict.{routine_members}
use Rattle.verifier_orders.specs.declared.order.LockOrder.{LockOrder}
use Rattle.verifier_orders.specs.Orders.{AreLockOrders}

-- the name of the shape, and its edition
abbrev pub stats_format : List ℕ
stats_format = codes "pafteis.stats/1"

-- how many instructions the routine of a number of a driver has
abbrev pub code_length : Set → ℕ → ℕ → Option ℕ
code_length set driver routine =
    option_map (λ r. length r.code)
    (option_and_then (λ d. slice_get d.routines routine) (slice_get set.drivers driver))

-- a routine of a set: as of a verdict, and how many instructions it has
abbrev pub routine_json : Set → CertifiedRoutine → Json
routine_json set routine =
    object
    (routine_members routine
    (member (codes "instructions") (number_json (code_length set routine.driver routine.routine))
    no_members))

abbrev pub routines_json : Set → List CertifiedRoutine → Items
routines_json set [] = no_items
routines_json set (routine ∷ routines) =
    item (routine_json set routine) (routines_json set routines)

-- the sizes of a set, and of what it was read from
abbrev pub sizes_json : Sizes → Json
sizes_json sizes =
    object
    (member (codes "drivers") (number (decimal sizes.drivers))
    (member (codes "devices") (number (decimal sizes.devices))
    (member (codes "routines") (number (decimal sizes.routines))
    (member (codes "instructions") (number (decimal sizes.instructions))
    (member (codes "locks") (number (decimal sizes.locks))
    (member (codes "input") (string (input_name sizes.input))
    (member (codes "bytes") (number (decimal sizes.bytes))
    no_members)))))))

-- what is told of the set of a file
abbrev pub stats_json : List ℕ → Set → List CertifiedRoutine → List LockOrder → Sizes → Json
stats_json file set routines orders sizes =
    object
    (member (codes "format") (string stats_format)
    (member (codes "file") (string file)
    (member (codes "routines") (array (routines_json set routines))
    (member (codes "orders") (array (orders_json 0 orders))
    (member (codes "sizes") (sizes_json sizes)
    no_members)))))

-- what is right in JSON for an accepted set that the bytes of the file of a name are: its routines,
-- with the names that the bytes give them, the lock order of each of its drivers, and its sizes
pub record IsStatsJson (name bytes : List ℕ) (set : Set) (answer : Answer) : Type 0 where
  pub names : List (String Global)
  pub named : map string_bytes names ≡ map utf8_lossy (routine_names bytes)
  pub orders : List LockOrder
  pub ordered : AreLockOrders set (length set.drivers) orders
  pub is : answer
      ≡ ended_line Complete
      (stats_json name set (with_names (certified_routines set) names) orders (sizes_of bytes set))

-- and for any set: a refused one is told as `check` tells it
abbrev pub IsStatsIn : List ℕ → List ℕ → Set → Answer → Type 0
IsStatsIn name bytes set answer =
    (IsTypable set × IsStatsJson name bytes set answer) ⊎ IsRefusalJson name set answer

-- what `stats` answers in JSON for what the source has that is the file of a name
abbrev pub IsStatsJsonOf : List ℕ → Supply → Answer → Type 0
IsStatsJsonOf name supply answer = IsToldOf (IsStatsIn name) name supply answer
