-- The state shows each run with one event more.
use Rattle.std.proofs.Common.{◌≡◌, List, [], ◌∷◌, ◌++◌, Bool, true, false, cond, refl, ap, sym, ◌∙◌}
use Rattle.model.specs.declared.event.Event.{Event}
use Rattle.model.specs.declared.event.Reply.{Reply}
use Rattle.model.specs.declared.event.Reply.TheVariants.{Refused}
use Rattle.model.specs.Events.{effect}
use Rattle.model.specs.Machine.{AppliesWhole}
use Rattle.model.specs.Run.{Run, Answered, answered_on, begun, refused, thread_of, step, run_from, run}
use Rattle.model.specs.Set.{Set}
use Rattle.model.specs.Sound.{IsSound}
use Rattle.irql_locks.specs.Owns.{OwningTells}
use Rattle.laws_runs.specs.PastTells.{PastTells, PastTellsOfTheWorld}
use Rattle.checked.specs.Step.{State, Taken, event_now, machine_of, state_now, taken}
use Rattle.checked.proofs.Compare.{Same, compare_event}

-- an event, unless the run has stopped
abbrev unless_stopped : Set → Run → Event → Bool → Answered
unless_stopped set r e stopped =
    cond {A = Answered} stopped (refused r) (answered_on set r (effect set r.world e) (thread_of e))

-- one event more
run_more : (set : Set) (r : Run) (events : List Event) (e : Event) →
    run_from set r (events ++ e ∷ []) ≡ (step set (run_from set r events) e).run
run_more set r [] e = refl
run_more set r (d ∷ events) e = run_more set (step set r d).run events e

-- the state answers as the run does that it shows
record Answers (a : Answered) (x : Taken) : Type 0 where
  world : x.state.world ≡ a.run.world
  stopped : x.state.stopped ≡ a.run.stopped
  reply : x.reply ≡ a.reply

abbrev taken_unless : Set → State → Event → Bool → Taken
taken_unless set state e stopped =
    cond {A = Taken} stopped (record { state = state; reply = Refused })
    (taken (event_now set state.world e))

module _ (set : Set) (state : State) (r : Run) (e : Event) (stands : state.stopped ≡ r.stopped)
    (world : state.world ≡ r.world)
    (tells : r.stopped ≡ false → PastTells r) (owning : OwningTells) where
  answers_unless : (stopped on : Bool) → on ≡ stopped → r.stopped ≡ stopped →
      Answers (unless_stopped set r e stopped) (taken_unless set state e on)
  answers_unless true true same h = record { world = world; stopped = stands; reply = refl }
  answers_unless false false same h =
      let both : Same (answered_on set r (effect set r.world e) (thread_of e))
      (event_now set r.world e) =
      compare_event set r e h (tells h) owning in
      rw world (record {
        world = sym both.world;
        stopped = sym both.stopped;
        reply =
            sym both.reply;
      })
  answers_unless true false same h = cc
  answers_unless false true same h = cc

  answers : Answers (step set r e) (state_now set state e)
  answers = answers_unless r.stopped state.stopped stands refl

applies_now : PastTellsOfTheWorld → OwningTells → (set : Set) (state : State) → IsSound set
    → (e : Event) →
    AppliesWhole (machine_of set state) e (machine_of set (state_now set state e).state)
    (state_now set state e).reply
applies_now law owning set state sound e =
    record {
      set = refl;
      shows = λ threads events shows.
          let r : Run = run set threads events in
          let same : Answers (step set r e) (state_now set state e) =
          answers set state r e shows.stopped shows.world (law set sound threads events) owning in
          let more : run set threads (events ++ e ∷ []) ≡ (step set r e).run =
          run_more set (begun set threads) events e in
          record {
            world = same.world ∙ ap (λ (q : Run). q.world) (sym more);
            stopped = same.stopped ∙ ap (λ (q : Run). q.stopped) (sym more);
          };
      replies = λ threads events shows.
          (answers set state (run set threads events) e shows.stopped shows.world
          (law set sound threads events) owning).reply;
    }

abbrev pub taken_as : State → Reply → Taken
taken_as state reply = record { state = state; reply = reply }

-- what an event leaves of the state is what the run says
pub applies : PastTellsOfTheWorld → OwningTells → (set : Set) (state after : State) → IsSound set
    → (e : Event) (reply : Reply) →
    taken_as after reply ≡ state_now set state e
    → AppliesWhole (machine_of set state) e (machine_of set after) reply
applies law owning set state after sound e reply h =
    rw (ap (λ (x : Taken). x.state) h, ap (λ (x : Taken). x.reply) h)
    (applies_now law owning set state sound e)
