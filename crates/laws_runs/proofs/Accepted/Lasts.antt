-- The one induction over the runs of an accepted set: no event stops one, and all that it keeps
-- lasts.
use Rattle.laws_runs.proofs.Common.{ap, refl, subst, sym, ◌∙◌, Bool, List, None, Some, false, if◌then◌else◌, true, ℕ, ◌≡◌, Change, effect, Answered, Run, actor_on, goes, refused, run, step, thread_of, Set, Event, States, IsGood, right_event}
use Rattle.laws_runs.proofs.Accepted.Keeps.{Keeps, keeps_begun, goes_on_by, keeps_event, known_world, keeps_queued}
use Rattle.laws_runs.proofs.Certificates.Kept.{Tallied, tally_kept, tally_queued}
use Rattle.laws_runs.proofs.Certificates.Steps.{frame_due}
use Rattle.laws_runs.proofs.Certificates.Tally.{tally_begun}
use Rattle.laws_runs.proofs.Pending.Entries.{EntriesSay, entries_event}
use Rattle.laws_runs.proofs.Pending.Events.{Attends, attend_event, attends_begun, attends_queued}
use Rattle.laws_runs.proofs.Runs.Events.{nothing_stops, stops_run, Happens, Sets, sets_nothing, queues, Concerns, a_thread, no_thread, concerns, set_in, answers_none, past_with, Answers, refuses_stopped, refuses_over, goes_on_with, stops_for, stops_wrong, answers}
use Rattle.laws_runs.proofs.Runs.Kept.{GoesOnBy, kept_run}

module _ (set : Set) (states : States) (good : IsGood set states) (threads : ℕ) where
  pub record Lasts (r : Run) : Type 0 where
    pub on : r.stopped ≡ false
    pub keeps : Keeps set states threads r.world r.past
    pub tally : Tallied set r
    pub attends : Attends set states r.world r.past r.tags
    pub says : EntriesSay r.past

  -- what an event on it is answered: it isn't refused for want of room, and the run goes on
  pub record GoesOn (r : Run) (t : ℕ) (c : Change) (a : Answered) : Type 0 where
    pub is : a ≡ goes set r t (past_with r t c) c
    pub by : GoesOnBy set r.world r.past (actor_on r t) c
    pub right : stops_run c.reply ≡ false

  module _ (r : Run) (lasting : Lasts r) where
    by_event : (t : ℕ) (c : Change) → Happens set r.world t c
        → GoesOnBy set r.world r.past (actor_on r t) c
    by_event t c happens =
        goes_on_by set states threads r.world r.past good lasting.keeps (actor_on r t) c refl
        happens

    right_reply : (t : ℕ) (c : Change) → Happens set r.world t c → stops_run c.reply ≡ false
    right_reply t c happens =
        (right_event set states r.world r.past good lasting.keeps.stands t c happens).1

    goes_on_answer : (t : ℕ) (c : Change) (a : Answered)
        → Happens set r.world t c → Answers set r t c a → GoesOn r t c a
    goes_on_answer t c a happens (refuses_stopped stopped) =
        let no : true ≡ false = sym stopped ∙ lasting.on in cc
    goes_on_answer t c a happens (refuses_over on quiet over) =
        let no : true ≡ false = sym over ∙ (by_event t c happens).within in cc
    goes_on_answer t c a happens (goes_on_with on quiet within) =
        record {
          is = refl;
          by = by_event t c happens;
          right = right_reply t c happens;
        }
    goes_on_answer t c a happens (stops_for bug on fault) =
        let no : Some bug ≡ None = sym fault ∙ (by_event t c happens).quiet in cc
    goes_on_answer t c a happens (stops_wrong place on reply) =
        let no : true ≡ false = sym (ap stops_run reply) ∙ right_reply t c happens in cc

    pub goes_on_at : (t : ℕ) (e : Event) → thread_of e ≡ Some t
        → Happens set r.world t (effect set r.world e)
        → GoesOn r t (effect set r.world e) (step set r e)
    goes_on_at t e is happens =
        goes_on_answer t (effect set r.world e) (step set r e) happens
        (answers set r t e is)

    -- no reply stops the run
    right_set : (c : Change) (stopped : Bool) → Sets set r.world c
        → stops_run (if stopped then refused r else set_in r c).reply ≡ false
    right_set c true of = refl
    right_set c false (sets_nothing reply right) = nothing_stops reply right
    right_set c false (queues d) = refl

    right_concerned : (e : Event) → Concerns set r.world e → stops_run (step set r e).reply ≡ false
    right_concerned e (a_thread t is happens) =
        let on : GoesOn r t (effect set r.world e) (step set r e) =
        goes_on_at t e is happens in
        ap (λ (a : Answered). stops_run a.reply) on.is ∙ on.right
    right_concerned e (no_thread is of) =
        ap (λ (a : Answered). stops_run a.reply) (answers_none set r e is)
        ∙ right_set (effect set r.world e) r.stopped of

    pub right_answer : (e : Event) → stops_run (step set r e).reply ≡ false
    right_answer e = right_concerned e (concerns set r.world e)

    lasts_with : (t : ℕ) (c : Change) → GoesOnBy set r.world r.past (actor_on r t) c
        → Lasts (goes set r t (past_with r t c) c).run
    lasts_with t c by =
        let later : Keeps set states threads c.world (past_with r t c) =
        keeps_event set states threads r.world r.past good lasting.keeps (actor_on r t) c by in
        record {
          on = refl;
          keeps = later;
          attends = attend_event set states r.world r.past r.tags r.activations (actor_on r t)
              (known_world set states threads r.world r.past good lasting.keeps) lasting.attends c
              by.happens refl
              by.quiet
              (known_world set states threads c.world (past_with r t c) good later)
              lasting.keeps.«uses» later.«uses»;
          says = entries_event set states r.world r.past (actor_on r t) lasting.keeps.«uses» r.tags
              c
              (known_world set states threads r.world r.past good lasting.keeps) lasting.attends
              by.happens refl
              lasting.says;
          tally = tally_kept set states good r t lasting.keeps.stands lasting.tally c by.happens;
        }

    lasts_set : (c : Change) (stopped : Bool) → r.stopped ≡ stopped → Sets set r.world c
        → Lasts (if stopped then refused r else set_in r c).run
    lasts_set c true is of = lasting
    lasts_set c false is (sets_nothing reply right) = lasting
    lasts_set c false is (queues d) =
        record {
          on = lasting.on;
          keeps = keeps_queued set states threads r.world r.past good lasting.keeps d true;
          tally = tally_queued set r d lasting.tally;
          attends = attends_queued set states r.world r.past r.tags r.activations (actor_on r 0)
              (known_world set states threads r.world r.past good lasting.keeps) lasting.attends d
              true
              lasting.keeps.«uses»;
          says = lasting.says;
        }

    lasts_concerned : (e : Event) → Concerns set r.world e
        → Lasts (step set r e).run
    lasts_concerned e (a_thread t is happens) =
        let goes_on : GoesOn r t (effect set r.world e) (step set r e) =
        goes_on_at t e is happens in
        subst (λ (a : Answered). Lasts a.run) (sym goes_on.is)
        (lasts_with t (effect set r.world e) goes_on.by)
    lasts_concerned e (no_thread is of) =
        subst (λ (a : Answered). Lasts a.run) (sym (answers_none set r e is))
        (lasts_set (effect set r.world e) r.stopped refl of)

    lasts_step : (e : Event) → Lasts (step set r e).run
    lasts_step e = lasts_concerned e (concerns set r.world e)

  pub lasts : (events : List Event) → Lasts (run set threads events)
  lasts events =
      kept_run Lasts set (λ r e lasting. lasts_step r lasting e) threads events
      (record {
        on = refl;
        keeps = keeps_begun set states threads;
        tally = tally_begun (frame_due set) set threads;
        attends = attends_begun set states threads;
        says = tt;
      })
