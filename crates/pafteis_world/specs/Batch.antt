-- Many events, applied in one call.
use Rattle.std.specs.Prelude.{ℕ, ◌≡◌, ◌≤◌, ◌++◌, ◌⊎◌, List, [], ◌∷◌, Option, None, Some, false, drop, length, map, slice_get, take}
use Rattle.model.specs.declared.event.Event.{Event}
use Rattle.model.specs.declared.event.Reply.{Reply}
use Rattle.model.specs.Shown.{Shown}
use Rattle.pafteis_values.specs.declared.event.EventValue.{EventValue}
use Rattle.pafteis_values.specs.declared.reply.ReplyValue.{ReplyValue}
use Rattle.pafteis_values.specs.Event.{event_named}
use Rattle.pafteis_values.specs.Reply.{reply_value}
use Rattle.pafteis_world.specs.declared.handle.Handle.{Handle}
use Rattle.pafteis_world.specs.Driven.{Applied, Does, world_in}

-- events are applied one after the other, and each has its reply
abbrev pub AppliesEach : List Event → Shown → List Reply → Shown → Type 0
AppliesEach [] before [] after = after ≡ before
AppliesEach (e ∷ events) before (reply ∷ replies) after =
    (between : Shown) × Applied e before reply between × AppliesEach events between replies after
AppliesEach [] before (reply ∷ replies) after = ⊥
AppliesEach (e ∷ events) before [] after = ⊥

-- the first of these values, so many, name events that were applied, and their replies stand first
-- among these places; the other places are as they were
pub record AppliesFirst (values : List EventValue) (before : Shown) (old new : List ReplyValue)
    (count : ℕ) (after : Shown) : Type 0 where
  pub events : List Event
  pub replies : List Reply
  pub named : map event_named (take count values) ≡ map Some events
  pub applies : AppliesEach events before replies after
  pub told : new ≡ map reply_value replies ++ drop count old
  pub values_few : count ≤ length values
  pub places_few : count ≤ length old
  pub many : length replies ≡ count

-- they are all; or there are no more places; or the next value names no event
abbrev pub Ended : List EventValue → List ReplyValue → ℕ → Type 0
Ended values places count =
    (count ≡ length values) ⊎ (count ≡ length places)
    ⊎ ((value : EventValue) × (slice_get values count ≡ Some value) × (event_named value ≡ None))

-- what is done to the world of a handle, and how many events were applied: nothing where there is
-- no world, and then the places are as they were
abbrev pub DrivesFirst : List EventValue → Handle → List ReplyValue → List ReplyValue → Option ℕ
    → Handle → Type 0
DrivesFirst values before old new count after =
    Does (λ m k n. AppliesFirst values m old new k n × Ended values old k) (world_in before) count
    (world_in after)
    × (before.live ≡ false → new ≡ old)
