-- The induction over runs: what holds before the first event, and of the run after any event on a
-- run of which it holds, holds of every run. What is said of a world and its past is kept by the
-- events with which a run goes on.
use Rattle.laws_runs.proofs.Prelude.{refl, subst, sym, Bool, List, None, [], false, if◌then◌else◌, slice_get, true, ℕ, ◌∷◌, ◌≡◌, Change, effect, first_fault, Answered, Run, actor_on, begun, refused, root_of, run, run_from, step, Set, Actor, Entry, recorded, World, with_dpc, Event}
use Rattle.laws_runs.proofs.Runs.Events.{Happens, Sets, sets_nothing, queues, Concerns, a_thread, no_thread, concerns, Answers, refuses_stopped, refuses_over, goes_on_with, answers, set_in, answers_none}

module _ (P : Run → Type 0) (set : Set) (kept : (r : Run) (e : Event) → P r → P (step set r e).run)
  where
    kept_from : (r : Run) (events : List Event) → P r → P (run_from set r events)
    kept_from r [] h = h
    kept_from r (e ∷ events) h = kept_from (step set r e).run events (kept r e h)

    pub kept_run : (threads : ℕ) (events : List Event) → P (begun set threads)
        → P (run set threads events)
    kept_run threads events h = kept_from (begun set threads) events h

-- an event with which a run goes on: there is no bug check, and it passes no bound
pub record GoesOnBy (set : Set) (w : World) (past : List Entry) (actor : Actor) (c : Change)
    : Type 0 where
  pub happens : Happens set w actor.thread c
  pub root : actor.root ≡ root_of (slice_get w.threads actor.thread)
  pub quiet : first_fault past actor c.actions ≡ None
  pub within : c.over ≡ false

-- the world where the DPC of a device is queued or isn't
abbrev pub with_queued : World → ℕ → Bool → World
with_queued w d queued = record w { shared = with_dpc w.shared d queued }

-- what is said of the world and the past of a run that hasn't stopped
abbrev pub Until : (World → List Entry → Type 0) → Run → Type 0
Until P r = r.stopped ≡ false → P r.world r.past

module _ (P : World → List Entry → Type 0) (set : Set)
    (kept : (w : World) (past : List Entry) (actor : Actor) (c : Change) → P w past
    → GoesOnBy set w past actor c
    → P c.world (recorded past actor c.actions))
    (waits : (w : World) (past : List Entry) (d : ℕ) → P w past → P (with_queued w d true) past)
  where
    until_answered : (r : Run) (t : ℕ) (c : Change) (a : Answered) → Until P r
        → Happens set r.world t c
        → Answers set r t c a → Until P a.run
    until_answered r t c a h happens (refuses_stopped on) = h
    until_answered r t c a h happens (refuses_over on quiet over) = h
    until_answered r t c a h happens (goes_on_with on quiet within) =
        λ still. kept r.world r.past (actor_on r t) c (h on)
        (record { happens = happens; root = refl; quiet = quiet; within = within })
    until_answered r t c a h happens _ = λ still. cc

    until_sets : (r : Run) (c : Change) (stopped : Bool) → r.stopped ≡ stopped → Until P r
        → Sets set r.world c → Until P (if stopped then refused r else set_in r c).run
    until_sets r c true is h of = h
    until_sets r c false is h (sets_nothing reply right) = h
    until_sets r c false is h (queues d) = λ still. waits r.world r.past d (h still)

    until_concerned : (r : Run) (e : Event) → Until P r → Concerns set r.world e
        → Until P (step set r e).run
    until_concerned r e h (a_thread t is happens) =
        until_answered r t (effect set r.world e) (step set r e) h happens
        (answers set r t e is)
    until_concerned r e h (no_thread is of) =
        subst (λ (a : Answered). Until P a.run) (sym (answers_none set r e is))
        (until_sets r (effect set r.world e) r.stopped refl h of)

    until_step : (r : Run) (e : Event) → Until P r → Until P (step set r e).run
    until_step r e h = until_concerned r e h (concerns set r.world e)

    pub kept_until : (threads : ℕ) (events : List Event)
        → P (begun set threads).world [] → Until P (run set threads events)
    kept_until threads events h = kept_run (Until P) set until_step threads events (λ on. h)
