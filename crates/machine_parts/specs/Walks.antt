-- One step of the completion of a packet by its key.
use Rattle.std.specs.Prelude.{ℕ, Option, None, Some, nat_lt, if◌then◌else◌}
use Rattle.model.specs.declared.world.Completion.{Completion}
use Rattle.model.specs.declared.world.Packet.{Packet}
use Rattle.model.specs.World.{carried_up, completion_of, current_location, left_location, moved_up}
use Rattle.laws_slots.specs.Slots.{SlotShared, with_packet_at, without_packet_at}
use Rattle.machine_parts.specs.declared.shared.walking.Walked.{Walked}
use Rattle.machine_parts.specs.declared.shared.walking.Walked.TheVariants.{Runs, Ascends, TopsOut}

-- what it leaves, and what was done
pub record WalkLeaves : Type 0 where
  pub shared : SlotShared
  pub done : Walked

abbrev pub walks_up : SlotShared → ℕ → Packet → WalkLeaves
walks_up s k p = record { shared = with_packet_at s k (carried_up p); done = Ascends }

abbrev pub walks_out : SlotShared → ℕ → Packet → WalkLeaves
walks_out s k p =
    record { shared = without_packet_at s k; done = TopsOut p.number p.status p.info }

-- from a packet whose current location was left, and the completion routine that was set there
abbrev pub walks_from : SlotShared → ℕ → Packet → Option Completion → WalkLeaves
walks_from s k p (Some c) = record { shared = with_packet_at s k (moved_up p); done = Runs c }
walks_from s k p None = if nat_lt 1 p.depth then walks_up s k p else walks_out s k p

abbrev pub walks : SlotShared → ℕ → Packet → WalkLeaves
walks s k p = walks_from s k (left_location p) (completion_of (current_location p))
