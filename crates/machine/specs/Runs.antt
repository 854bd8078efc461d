-- Runs of accepted sets, as machines show them: they keep the rules, come to rest, and go on.
use Rattle.std.specs.Prelude.{ℕ, ◌≡◌, ◌≢◌, ◌<◌, ◌++◌, List, [], ◌∷◌}
use Rattle.model.specs.declared.event.Event.{Event}
use Rattle.model.specs.declared.event.Event.TheVariants.{Step}
use Rattle.model.specs.declared.event.Reply.{Reply}
use Rattle.model.specs.declared.event.Reply.TheVariants.{Refused}
use Rattle.model.specs.Machine.{Shows}
use Rattle.model.specs.Run.{run}
use Rattle.model.specs.Set.{Set}
use Rattle.model.specs.Shown.{Shown}
use Rattle.model.specs.World.{World}
use Rattle.laws_runs.specs.NeverStops.{LetsGoOn}
use Rattle.laws_runs.specs.Rules.{KeepsTheRules}
use Rattle.laws_runs.specs.Rest.{ComesToRest}
use Rattle.laws_slots.specs.Reads.{WordsMean}
use Rattle.laws_slots.specs.Words.{WordWorld}

-- words mean the world of some run of a set
pub record IsMeant (set : Set) (v : WordWorld) : Type 0 where
  pub threads : ℕ
  pub events : List Event
  pub means : WordsMean set v (run set threads events).world

-- what a machine shows is some run
pub record IsShown (m : Shown) : Type 0 where
  pub threads : ℕ
  pub events : List Event
  pub shows : Shows m threads events

-- whatever run it showed, that run with the event added keeps the rules
abbrev pub RulesKept : Shown → Event → Type 0
RulesKept m e = (threads : ℕ) (events : List Event) → Shows m threads events
    → KeepsTheRules m.set threads (events ++ e ∷ [])

-- and it comes to rest
abbrev pub RestKept : Shown → Event → Type 0
RestKept m e = (threads : ℕ) (events : List Event) → Shows m threads events
    → ComesToRest m.set threads (events ++ e ∷ [])

-- the reply was neither a bug check nor that something went wrong
abbrev pub GoesOn : Shown → Reply → Type 0
GoesOn m reply = (threads : ℕ) (events : List Event) → Shows m threads events → LetsGoOn reply

-- and where the event was a step of a thread that the run has, it was not refused
abbrev pub StepsThreads : Shown → Event → Reply → Type 0
StepsThreads m e reply =
    (threads : ℕ) (events : List Event) (t : ℕ) → Shows m threads events
    → t < threads → e ≡ Step t → reply ≢ Refused

-- it shows some run, and of the world of whatever run it shows an answer tells something
pub record TellsOf {A : Type 0} (m : Shown) (tell : World → A) (answer : A) : Type 0 where
  pub shown : IsShown m
  pub tells : (threads : ℕ) (events : List Event) → Shows m threads events
      → answer ≡ tell (run m.set threads events).world
