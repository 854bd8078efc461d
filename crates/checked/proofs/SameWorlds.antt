-- Two runs that have led to one world go on alike: a machine that shows the one shows the other.
use Rattle.std.proofs.Common.{◌≡◌, ◌∙◌, ◌++◌, ℕ, List, [], ◌∷◌, refl, sym}
use Rattle.checked.proofs.Runs.{applies}
use Rattle.checked.specs.Step.{State, Taken, machine_of, state_now}
use Rattle.irql_locks.specs.Owns.{OwningTells}
use Rattle.laws_runs.specs.PastTells.{PastTellsOfTheWorld}
use Rattle.checked.specs.SameWorlds.{GoOnAlike, SameWorldsGoOnAlike, StandAlike}
use Rattle.model.specs.declared.event.Event.{Event}
use Rattle.model.specs.Machine.{AppliesWhole, ShowsWhole}
use Rattle.model.specs.Run.{Run, run}
use Rattle.model.specs.Set.{Set}
use Rattle.model.specs.Sound.{IsSound}

module _ (law : PastTellsOfTheWorld) (owning : OwningTells) (set : Set) (sound : IsSound set)
    (threads : ℕ) (events : List Event) (more : ℕ) (others : List Event) (e : Event)
    (alike : StandAlike set threads events more others) where
  abbrev state : State
  state =
      record {
        world = (run set threads events).world;
        stopped = (run set threads events).stopped;
      }

  abbrev now : Taken
  now = state_now set state e

  ran : AppliesWhole (machine_of set state) e (machine_of set now.state) now.reply
  ran = applies law owning set state now.state sound e now.reply refl

  one : ShowsWhole (machine_of set state) threads events
  one = record { world = refl; stopped = refl }

  other : ShowsWhole (machine_of set state) more others
  other = record { world = alike.world; stopped = alike.stopped }

  go_on : GoOnAlike set threads events more others e
  go_on =
      let here : ShowsWhole (machine_of set now.state) threads (events ++ e ∷ []) =
      ran.shows threads events one in
      let there : ShowsWhole (machine_of set now.state) more (others ++ e ∷ []) =
      ran.shows more others other in
      record {
        stand = record {
          world = sym here.world ∙ there.world;
          stopped = sym here.stopped ∙ there.stopped;
        };
        replies = sym (ran.replies threads events one) ∙ ran.replies more others other;
      }

pub same_go_on : PastTellsOfTheWorld → OwningTells → SameWorldsGoOnAlike
same_go_on law owning set sound threads events more others e alike =
    go_on law owning set sound threads events more others e alike
