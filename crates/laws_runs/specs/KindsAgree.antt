-- Registers are of the kinds that the verifier gives them, in every run of an accepted set. So a
-- machine whose words don't say of what kind they are needs no more than where a frame stands to
-- know what a register holds from which something may be taken.
use Rattle.std.specs.Prelude.{ℕ, ⊤, ◌≡◌, ◌<◌, ◌+◌, true, List, Some, is_some, slice_get}
use Rattle.model.specs.declared.abs.Kind.{Kind}
use Rattle.model.specs.declared.abs.Kind.TheVariants.{Blank, Num, Lower, New, Own, Queued, View}
use Rattle.model.specs.declared.event.Event.{Event}
use Rattle.model.specs.declared.status.Status.{Status}
use Rattle.model.specs.declared.world.Activation.{Activation}
use Rattle.model.specs.declared.world.Frame.TheVariants.{Routine}
use Rattle.model.specs.declared.world.Value.{Value}
use Rattle.model.specs.declared.world.Value.TheVariants.{Num as NumValue, Ref, Status as StatusValue}
use Rattle.model.specs.LocalRule.{kind_of}
use Rattle.model.specs.Run.{frames_on, run}
use Rattle.model.specs.Set.{Set}
use Rattle.model.specs.Shown.{MayBeTaken}
use Rattle.model.specs.Sound.{IsSound}
use Rattle.model.specs.Typable.{IsTypable}
use Rattle.model.specs.World.{Shared, packet_of, register}

-- a value refers to a packet that is live
abbrev pub NamesLive : Shared → Value → Type 0
NamesLive s v = (n : ℕ) × (v ≡ Ref n) × (n < s.issued) × (is_some (packet_of s n) ≡ true)

-- a value is of a kind: a number, a status, or a live packet; any value where the kind is blank
abbrev pub IsOfKind : Shared → Kind → Value → Type 0
IsOfKind s Blank v = ⊤
IsOfKind s Num v = (n : ℕ) × (v ≡ NumValue n)
IsOfKind s Lower v = (status : Status) × (v ≡ StatusValue status)
IsOfKind s New v = NamesLive s v
IsOfKind s Own v = NamesLive s v
IsOfKind s (Queued name stage) v = NamesLive s v
IsOfKind s View v = NamesLive s v

-- of each routine's frame, on top of its thread or below, each register from which an instruction
-- may take something is of the kind that the state arriving there gives it
pub record RegistersAreOfTheirKinds (set : Set) (threads : ℕ) (events : List Event) : Type 0 where
  pub each : (t k : ℕ) (a : Activation) (r : ℕ)
      → slice_get (frames_on (run set threads events).world t) k ≡ Some (Routine a)
      → (may : MayBeTaken set (slice_get (frames_on (run set threads events).world t) (k + 1)) a r)
      → IsOfKind (run set threads events).world.shared (kind_of may.state r) (register a r)

abbrev pub AcceptedRunsKeepKinds : Type 0
AcceptedRunsKeepKinds =
    (set : Set) → IsTypable set → IsSound set
    → (threads : ℕ) (events : List Event)
    → RegistersAreOfTheirKinds set threads events
