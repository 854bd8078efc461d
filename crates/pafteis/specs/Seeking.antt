-- What the exported functions answer that look for runs and mends.
use Rattle.std.specs.Prelude.{ℕ, ◌/◌, ◌%◌, ◌&&◌, Bool, List, nat_eq, nat_le, if◌then◌else◌, Option, None, Some}
use Rattle.drvhost_devices.specs.Device.{Bytes}
use Rattle.answer_hunts.specs.Hunt.{IsHuntOf}
use Rattle.answer_mends.specs.declared.mend.MendOptions.{MendOptions}
use Rattle.answer_mends.specs.Mend.{IsMendOf}
use Rattle.hunt_facts.specs.declared.bounds.Bounds.{Bounds}
use Rattle.hunt_facts.specs.declared.bounds.Goal.{Goal}
use Rattle.hunt_facts.specs.declared.bounds.Goal.TheVariants.{Amiss, AmissOrStuck}
use Rattle.pafteis.specs.Called.{AnswersIf}
use Rattle.pafteis.specs.declared.seeking.HuntValue.{HuntValue}

-- from 1 up to the most
abbrev pub is_within : ℕ → ℕ → Bool
is_within most n = nat_le 1 n && nat_le n most

-- a number where a flag is 1
abbrev pub if_flag : ℕ → ℕ → Option ℕ
if_flag flag number = if nat_eq flag 1 then Some number else None

abbrev pub goal_named : ℕ → Goal
goal_named flag = if nat_eq flag 1 then AmissOrStuck else Amiss

-- how far a hunt goes, where its numbers are within their ranges
abbrev pub reach_named : HuntValue → Option Bounds
reach_named v =
    if is_within 64 v.threads && (is_within 4096 v.packets
    && (is_within 1000000000 v.worlds && nat_le v.flags 7))
    then Some (record {
      threads = v.threads;
      packets = v.packets;
      worlds = v.worlds;
      events = if_flag (v.flags / 2 % 2) v.events;
      argument = if_flag (v.flags / 4) v.argument;
      goal = goal_named (v.flags % 2);
    })
    else None

abbrev pub Hunts : List ℕ → HuntValue → List ℕ → List ℕ → ℕ → ℕ → Type 0
Hunts set asked before after needed status =
    AnswersIf (λ bounds. IsHuntOf bounds (Bytes set)) (reach_named asked) before after needed
    status

-- what is asked of a mend, where the number of tries is within its range
abbrev pub asked_named : ℕ → Option MendOptions
asked_named tries =
    if is_within 1000000 tries then Some (record { tries = tries }) else None

abbrev pub Mends : List ℕ → ℕ → List ℕ → List ℕ → ℕ → ℕ → Type 0
Mends set tries before after needed status =
    AnswersIf (λ asked. IsMendOf asked (Bytes set)) (asked_named tries) before after needed status
