-- Threads that run in every interleaving, and how far that goes: up to so many worlds.
use Rattle.std.specs.Prelude.{ℕ, ◌&&◌, Bool, true, false, List, [], ◌∷◌, bytes_eq, codes, replicate, slice_set, Result, Ok, Err, if◌then◌else◌}
use Rattle.interleave.specs.Line.{and_then}
use Rattle.interleave.specs.declared.schedule.ScheduleKind.{ScheduleKind}
use Rattle.interleave.specs.declared.schedule.ScheduleKind.TheVariants.{UnknownWord}
use Rattle.scenario_names.specs.Operands.{number_of}
use Rattle.scenario_steps.specs.declared.scenario.Action.{Action}
use Rattle.scenario_steps.specs.declared.scenario.Action.TheVariants.{Together}
use Rattle.scenario_steps.specs.declared.scenario.TheConstants.{MAX_WORLDS, USUAL_WORLDS}

-- `to N worlds`, of which the words are given
abbrev pub bounded : List Bool → List ℕ → List ℕ → List ℕ → Result Action ScheduleKind
bounded threads to number worlds =
    if bytes_eq to (codes "to") && bytes_eq worlds (codes "worlds")
    then and_then (λ n. Ok (Together threads n)) (number_of 1 MAX_WORLDS number)
    else Err UnknownWord

abbrev pub bound_line : List Bool → List (List ℕ) → Result Action ScheduleKind
bound_line threads (to ∷ number ∷ worlds ∷ []) = bounded threads to number worlds
bound_line threads _ = Err UnknownWord

-- these threads and others, and what bounds them
abbrev pub threads_line : List Bool → List (List ℕ) → Result Action ScheduleKind
threads_line threads [] = Ok (Together threads USUAL_WORLDS)
threads_line threads (word ∷ operands) =
    if bytes_eq word (codes "up") then bound_line threads operands
    else and_then (λ t. threads_line (slice_set threads t true) operands) (number_of 0 63 word)

-- `T ..`, or `T .. up to N worlds`
abbrev pub together_line : List (List ℕ) → Result Action ScheduleKind
together_line [] = Err UnknownWord
together_line (thread ∷ operands) =
    and_then (λ t. threads_line (slice_set (replicate 64 false) t true) operands)
    (number_of 0 63 thread)
