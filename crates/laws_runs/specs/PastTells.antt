-- What the past of a run tells of its world: of the packets, of the locks, and of the threads'
-- stacks of frames.
use Rattle.std.specs.Prelude.{ℕ, ◌≡◌, ◌≤◌, ◌&&◌, false, true, List, length, Some, is_none, is_some, nat_lt}
use Rattle.model.specs.declared.event.Event.{Event}
use Rattle.model.specs.declared.event.Lock.{Lock}
use Rattle.model.specs.declared.limits.TheConstants.{MAX_FRAMES}
use Rattle.model.specs.declared.world.Packet.{Packet}
use Rattle.model.specs.Fault.{topped, completing, armed, stack_size, depth, holds, holds_any}
use Rattle.model.specs.Run.{Run, frames_on, run}
use Rattle.model.specs.Set.{Set}
use Rattle.model.specs.Sound.{IsSound}
use Rattle.model.specs.Trace.{Entry}
use Rattle.model.specs.World.{owner_of, packet_of}

-- of a live packet: whether the I/O manager has it, whether it has a cancel routine, how many
-- locations it has, and how far down it was sent
pub record TellsOfPacket (past : List Entry) (n : ℕ) (p : Packet) : Type 0 where
  pub completion : completing past n ≡ p.completing
  pub armed : armed past n ≡ is_some p.armer
  pub size : stack_size past n ≡ length p.locations.items
  pub place : depth past n ≡ p.depth

-- a packet has topped out exactly where it was issued and isn't live; a thread holds a lock exactly
-- where it is the lock's owner, and holds any exactly where it owns one; and no thread has more
-- than 32 frames
pub record PastTells (r : Run) : Type 0 where
  pub gone : (n : ℕ)
      → topped r.past n ≡ (nat_lt n r.world.shared.issued && is_none (packet_of r.world.shared n))
  pub live : (n : ℕ) (p : Packet) → packet_of r.world.shared n ≡ Some p → TellsOfPacket r.past n p
  pub owner : (t : ℕ) (l : Lock) → holds r.past t l ≡ true
      → owner_of r.world.shared.locks l ≡ Some (Some t)
  pub holder : (t : ℕ) (l : Lock) → owner_of r.world.shared.locks l ≡ Some (Some t)
      → holds r.past t l ≡ true
  pub raised : (t : ℕ) → holds_any r.past t ≡ true → (l : Lock)
      × (owner_of r.world.shared.locks l ≡ Some (Some t))
  pub raises : (t : ℕ) (l : Lock) → owner_of r.world.shared.locks l ≡ Some (Some t)
      → holds_any r.past t ≡ true
  pub few : (t : ℕ) → length (frames_on r.world t) ≤ MAX_FRAMES

-- in every run of a sound set that hasn't stopped, accepted or not
abbrev pub PastTellsOfTheWorld : Type 0
PastTellsOfTheWorld =
    (set : Set) → IsSound set → (threads : ℕ) (events : List Event)
    → (run set threads events).stopped ≡ false
    → PastTells (run set threads events)
