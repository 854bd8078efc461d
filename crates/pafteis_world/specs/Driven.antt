-- A world behind a handle, driven.
use Rattle.std.specs.Prelude.{ℕ, ⊤, ◌≡◌, ◌≢◌, ◌≤◌, ◌<◌, Bool, true, false, List, [], Option, None, Some}
use Rattle.machine.specs.declared.world.Steps.{Steps}
use Rattle.machine.specs.Registers.{LendsWords}
use Rattle.machine.specs.Runs.{GoesOn, RulesKept, StepsThreads, TellsOf}
use Rattle.machine.specs.Slots.{HasSlots, number_at}
use Rattle.machine.specs.Steps.{MakesSteps}
use Rattle.model.specs.declared.event.Event.{Event}
use Rattle.model.specs.declared.event.Event.TheVariants.{Step}
use Rattle.model.specs.declared.event.Reply.{Reply}
use Rattle.model.specs.declared.event.Reply.TheVariants.{Stepped as OnlyStepped}
use Rattle.model.specs.Machine.{Applies, Shows}
use Rattle.model.specs.Shown.{Shown}
use Rattle.model.specs.World.{World}
use Rattle.laws_runs.specs.Rules.{KeepsTheRules}
use Rattle.pafteis_values.specs.declared.verdict.Verdict.{Verdict}
use Rattle.pafteis_values.specs.declared.verdict.Verdict.TheVariants.{Accepted, Refused, Text, Image, NoMemory}
use Rattle.pafteis_world.specs.declared.handle.Handle.{Handle}
use Rattle.pafteis_world.specs.Judged.{IsJudged, Names}

-- what the world of a handle shows, if one is there
abbrev pub shown_if : Bool → Shown → Option Shown
shown_if true world = Some world
shown_if false world = None

abbrev pub world_in : Handle → Option Shown
world_in h = shown_if h.live h.world

-- a world of the set that bytes name, before the first event, and whose runs keep the rules
pub record IsOpened (bytes : List ℕ) (threads : ℕ) (m : Shown) : Type 0 where
  pub named : Names bytes m.set
  pub shows : Shows m threads []
  pub rules : (events : List Event) → KeepsTheRules m.set threads events

-- there is such a world
abbrev pub Holds : (Shown → Type 0) → Option Shown → Type 0
Holds Such None = ⊥
Holds Such (Some m) = Such m

-- a handle has the new world where the set is accepted, and is as it was else
abbrev pub Opens : List ℕ → ℕ → Verdict → Handle → Handle → Type 0
Opens bytes threads Accepted before after = Holds (IsOpened bytes threads) (world_in after)
Opens bytes threads (Refused refusal) before after = after ≡ before
Opens bytes threads (Text fault) before after = after ≡ before
Opens bytes threads (Image fault) before after = after ≡ before
Opens bytes threads NoMemory before after = after ≡ before

-- a handle that had no world has one where the set is accepted, and none else
abbrev pub OpensFree : List ℕ → ℕ → Verdict → Handle → Type 0
OpensFree bytes threads Accepted after = Holds (IsOpened bytes threads) (world_in after)
OpensFree bytes threads (Refused refusal) after = after.live ≡ false
OpensFree bytes threads (Text fault) after = after.live ≡ false
OpensFree bytes threads (Image fault) after = after.live ≡ false
OpensFree bytes threads NoMemory after = after.live ≡ false

-- a handle without a world has one then where the set is accepted, with the verdict; one that has a
-- world keeps it
abbrev pub OpensEmpty : List ℕ → ℕ → Option Verdict → Handle → Handle → Type 0
OpensEmpty bytes threads None before after =
    (before.live ≡ true) × (world_in after ≡ world_in before)
OpensEmpty bytes threads (Some verdict) before after =
    (before.live ≡ false) × IsJudged bytes verdict × OpensFree bytes threads verdict after

-- what is done to the world of a handle, and what is answered: nothing where there is none
abbrev pub Does : {A : Type 0} → (Shown → A → Shown → Type 0) → Option Shown → Option A
    → Option Shown → Type 0
Does Done None None None = ⊤
Does Done (Some before) (Some answer) (Some after) = Done before answer after
Does Done None None (Some after) = ⊥
Does Done None (Some answer) after = ⊥
Does Done (Some before) None after = ⊥
Does Done (Some before) (Some answer) None = ⊥

-- an event is applied, as `machine::World::apply` does
pub record Applied (e : Event) (before : Shown) (reply : Reply) (after : Shown) : Type 0 where
  pub applies : Applies before e after reply
  pub rules : RulesKept before e
  pub goes_on : GoesOn before reply
  pub threads : StepsThreads before e reply

abbrev pub Drives : Event → Handle → Option Reply → Handle → Type 0
Drives e before reply after = Does (Applied e) (world_in before) reply (world_in after)

-- steps of a thread are made, as `machine::World::steps` does
pub record Stepped (t count : ℕ) (before : Shown) (steps : Steps) (after : Shown) : Type 0 where
  pub few : steps.made ≤ count
  pub none : steps.made ≡ 0 → steps.last ≡ OnlyStepped
  pub makes : MakesSteps before t steps.made after steps.last
  pub all : steps.made < count → steps.last ≢ OnlyStepped
  pub goes_on : GoesOn before steps.last
  pub threads : StepsThreads before (Step t) steps.last

abbrev pub StepsOn : ℕ → ℕ → Handle → Option Steps → Handle → Type 0
StepsOn t count before steps after =
    Does (Stepped t count) (world_in before) steps (world_in after)

-- something is told of the world, which stays as it was
pub record Told {A : Type 0} (tell : World → A) (before : Shown) (answer : A) (after : Shown)
    : Type 0 where
  pub same : after ≡ before
  pub tells : TellsOf before tell answer

abbrev pub Tells : {A : Type 0} → (World → A) → Handle → Option A → Handle → Type 0
Tells tell before answer after = Does (Told tell) (world_in before) answer (world_in after)

-- the words in the registers of a thread's routine are told likewise
pub record ToldWords (t : ℕ) (before : Shown) (words : Option (List ℕ)) (after : Shown)
    : Type 0 where
  pub same : after ≡ before
  pub lends : LendsWords before t words

abbrev pub TellsWords : ℕ → Handle → Option (Option (List ℕ)) → Handle → Type 0
TellsWords t before words after = Does (ToldWords t) (world_in before) words (world_in after)

-- and the number of the packet in a slot
pub record ToldNumber (slot : ℕ) (before : Shown) (number : Option ℕ) (after : Shown)
    : Type 0 where
  pub same : after ≡ before
  pub is : number ≡ number_at before slot
  pub slots : HasSlots before

abbrev pub TellsNumber : ℕ → Handle → Option (Option ℕ) → Handle → Type 0
TellsNumber slot before number after =
    Does (ToldNumber slot) (world_in before) number (world_in after)
