-- One step of the walk by which the I/O manager completes a packet, on the packet table.
use Rattle.std.specs.Prelude.{ℕ, [], ◌∷◌, Option, None, Some, nat_lt, if◌then◌else◌}
use Rattle.model.specs.declared.event.Reply.TheVariants.{Topped}
use Rattle.model.specs.declared.world.Completion.{Completion}
use Rattle.model.specs.declared.world.Frame.TheVariants.{Routine, Walk as WalkFrame}
use Rattle.model.specs.declared.set.Sort.{Sort}
use Rattle.model.specs.declared.set.Sort.TheVariants.{Dispatch, StartIo, Dpc, Propagate, Hold, Cancel}
use Rattle.model.specs.declared.world.Packet.{Packet}
use Rattle.model.specs.Action.{Touches, Leaves, Ups, Marks, TopsOut as TopsOutAction}
use Rattle.model.specs.Effect.{Outcome, leaves, completes_with, lending, sort_of_completion}
use Rattle.model.specs.Set.{Set}
use Rattle.model.specs.World.{Shared, current_location, completion_of, left_location, moved_up, carried_up}
use Rattle.iomgr.specs.declared.walk.WalkStep.{WalkStep}
use Rattle.iomgr.specs.declared.walk.WalkStep.TheVariants.{Missing, Runs, Ascends, TopsOut}
use Rattle.iomgr.specs.Hold.{lent}
use Rattle.iomgr.specs.Slots.{SlotTable, key_of, packet_at, with_packet_at, without_packet_at}
use Rattle.iomgr.specs.Table.{Table, live_packet, table_of, with_live, with_table, without_live}

-- what a step leaves: the table, and what was done
pub record Walked : Type 0 where
  pub table : Table
  pub step : WalkStep

-- from a packet whose current location was left, and the completion routine that is set there
abbrev pub walk_up : Table → ℕ → Packet → Walked
walk_up table n p =
    record { table = with_live table n (carried_up p); step = Ascends p.pending_returned }

abbrev pub walk_out : Table → ℕ → Packet → Walked
walk_out table n p = record { table = without_live table n; step = TopsOut p.status p.info }

abbrev pub walk_from : Table → ℕ → Packet → Option Completion → Walked
walk_from table n p (Some c) = record { table = with_live table n (moved_up p); step = Runs c }
walk_from table n p None = if nat_lt 1 p.depth then walk_up table n p else walk_out table n p

abbrev pub walk_packet : Table → ℕ → Option Packet → Walked
walk_packet table n None = record { table = table; step = Missing }
walk_packet table n (Some p) =
    walk_from table n (left_location p) (completion_of (current_location p))

abbrev pub walked : Table → ℕ → Walked
walked table n = walk_packet table n (live_packet table n)

-- the same by the packet's key
pub record Stepped : Type 0 where
  pub slots : SlotTable
  pub step : WalkStep

abbrev pub steps_up : SlotTable → ℕ → Packet → Stepped
steps_up t key p =
    record { slots = with_packet_at t key (carried_up p); step = Ascends p.pending_returned }

abbrev pub steps_out : SlotTable → ℕ → Packet → Stepped
steps_out t key p = record { slots = without_packet_at t key; step = TopsOut p.status p.info }

abbrev pub steps_from : SlotTable → ℕ → Packet → Option Completion → Stepped
steps_from t key p (Some c) =
    record { slots = with_packet_at t key (moved_up p); step = Runs c }
steps_from t key p None = if nat_lt 1 p.depth then steps_up t key p else steps_out t key p

abbrev pub walked_at : SlotTable → ℕ → Packet → Stepped
walked_at t key p = steps_from t key (left_location p) (completion_of (current_location p))

abbrev pub walked_found : SlotTable → Option ℕ → Stepped
walked_found t None = record { slots = t; step = Missing }
walked_found t (Some key) = walked_at t key (packet_at t.live key)

abbrev pub walked_by : SlotTable → ℕ → Stepped
walked_by t n = walked_found t (key_of t n)

-- a completion routine that may hold the packet is lent it after that
abbrev pub lent_if : Sort → Shared → ℕ → Shared
lent_if Dispatch s n = s
lent_if StartIo s n = s
lent_if Dpc s n = s
lent_if Propagate s n = s
lent_if Hold s n = with_table s (lent (table_of s) n)
lent_if Cancel s n = s

-- what a run makes of a step, where the world's shared part has become this
abbrev pub walk_outcome : Set → Shared → ℕ → WalkStep → Outcome
walk_outcome set s n Missing = leaves s [] (Touches n ∷ [])
walk_outcome set s n (Runs c) =
    let sort : Sort = sort_of_completion set c in
    leaves (lent_if sort s n) (WalkFrame n ∷ Routine (completes_with set c n) ∷ [])
    (Touches n ∷ Leaves n ∷ Ups n ∷ lending sort n)
walk_outcome set s n (Ascends marked) =
    leaves s (WalkFrame n ∷ [])
    (Touches n ∷ Leaves n ∷ Ups n ∷ (if marked then Marks n ∷ [] else []))
walk_outcome set s n (TopsOut status info) =
    record (leaves s [] (Touches n ∷ Leaves n ∷ TopsOutAction n ∷ [])) {
      reply = Topped n status info;
    }
