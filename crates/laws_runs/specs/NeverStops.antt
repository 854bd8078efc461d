-- No run of an accepted set stops.
use Rattle.std.specs.Prelude.{ℕ, ◌≡◌, ◌≢◌, ◌<◌, false, List}
use Rattle.model.specs.declared.event.Bug.{Bug}
use Rattle.model.specs.declared.event.Event.{Event}
use Rattle.model.specs.declared.event.Event.TheVariants.{Step}
use Rattle.model.specs.declared.event.Place.{Place}
use Rattle.model.specs.declared.event.Reply.{Reply}
use Rattle.model.specs.declared.event.Reply.TheVariants.{Refused, Bug as BugCheckReply, Wrong}
use Rattle.model.specs.Machine.{reply_to}
use Rattle.model.specs.Run.{run}
use Rattle.model.specs.Set.{Set}
use Rattle.model.specs.Sound.{IsSound}
use Rattle.model.specs.Typable.{IsTypable}

-- a reply is neither a bug check nor that something went wrong
pub record LetsGoOn (reply : Reply) : Type 0 where
  pub bug : (bug : Bug) → reply ≢ BugCheckReply bug
  pub wrong : (place : Place) → reply ≢ Wrong place

-- a run hasn't stopped, no event stops it, and no step of a thread that it has is refused
pub record NeverStops (set : Set) (threads : ℕ) (events : List Event) : Type 0 where
  pub on : (run set threads events).stopped ≡ false
  pub replies : (e : Event) → LetsGoOn (reply_to set threads events e)
  pub stepped : (t : ℕ) → t < threads → reply_to set threads events (Step t) ≢ Refused

abbrev pub AcceptedRunsNeverStop : Type 0
AcceptedRunsNeverStop =
    (set : Set) → IsTypable set → IsSound set
    → (threads : ℕ) (events : List Event)
    → NeverStops set threads events
