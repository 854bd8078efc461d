-- By the reply to a step of a thread, whether it had frames.
use Rattle.std.proofs.Common.{◌≡◌, ℕ, ◌-◌, ◌++◌, List, [], ◌∷◌, length, arith, true, false, Bool, Option, None, Some, refl, sym, subst, ap, ◌∙◌, take}
use Rattle.std.specs.Prelude.{MatchBool, nat_eq, nat_lt, option_map, slice_get, if◌then◌else◌}
use Rattle.std.proofs.lemmas.Bool.{eqb-false, lt-ltb}
use Rattle.model.specs.History.{is_kept}
use Rattle.model.specs.declared.event.Event.TheVariants.{Step}
use Rattle.model.specs.declared.event.Reply.{Reply}
use Rattle.model.specs.declared.event.Reply.TheVariants.{Idle, Refused}
use Rattle.model.specs.declared.world.Frame.{Frame}
use Rattle.model.specs.declared.world.Thread.{Thread}
use Rattle.model.specs.Events.{Change, effect, step_thread, top_effect, unchanged}
use Rattle.model.specs.History.{events_of}
use Rattle.model.specs.Machine.{Applies, reply_to}
use Rattle.model.specs.Run.{Answered, Run, actor_on, answered_on, judged, refused, run, step}
use Rattle.model.specs.Set.{Set}
use Rattle.model.specs.Shown.{Shown}
use Rattle.model.specs.View.{busy_at, has_frames, thread_view}
use Rattle.model.specs.World.{World}
use Rattle.machine.specs.Runs.{TellsOf}
use Rattle.laws_runs.specs.Waits.{WaitingChangesNothing, says_unchanged}
use Rattle.hostcore.specs.Core.{CoreState, Log, counted}
use Rattle.hostcore.specs.Kept.{IsKept}
use Rattle.hostcore.specs.Stepping.{Makes, Steps, is_of_none}
use Rattle.hostcore.specs.declared.host_core.Stepped.TheVariants.{Entered, Idle as IdleStep, Waits}
use Rattle.hostcore.proofs.Keeping.{kept_unchanged, reply_is, shows_next, world_same}

no_frames : (frames : List Frame) → nat_lt 0 (length frames) ≡ false → frames ≡ []
no_frames [] h = refl
no_frames (f ∷ frames) h =
    let less : nat_lt 0 (length (f ∷ frames)) ≡ true =
    lt-ltb 0 (length (f ∷ frames)) (omega arith) in
    let never : true ≡ false = sym less ∙ h in cc

step_idle : (set : Set) (w : World) (t : ℕ) (thread : Thread) → thread.frames.items ≡ []
    → step_thread set w t (Some thread) ≡ unchanged w Idle
step_idle set w t thread is =
    ap (λ (frames : List Frame).
    top_effect set w t thread (take (length frames - 1) frames)
    (slice_get frames (length frames - 1))) is

answered_none : (set : Set) (r : Run) (t : ℕ) (o : Option Thread)
    → has_frames (option_map thread_view o) ≡ false
    → is_of_none (judged set r (actor_on r t) (step_thread set r.world t o)).reply ≡ true
answered_none set r t None h = refl
answered_none set r t (Some thread) h =
    subst (λ (c : Change). is_of_none (judged set r (actor_on r t) c).reply ≡ true)
    (sym (step_idle set r.world t thread (no_frames thread.frames.items h))) refl

stopped_or : (stopped : Bool) (x y : Answered) → is_of_none x.reply ≡ true
    → is_of_none y.reply ≡ true → is_of_none (if stopped then x else y).reply ≡ true
stopped_or true x y p q = p
stopped_or false x y p q = q

-- a step of a thread without frames is told as one
of_none : (set : Set) (r : Run) (t : ℕ) → busy_at r.world t ≡ false
    → is_of_none (step set r (Step t)).reply ≡ true
of_none set r t h =
    stopped_or r.stopped (refused r) (answered_on set r (effect set r.world (Step t)) (Some t)) refl
    (answered_none set r t (slice_get r.world.threads t) h)

of_none_unchanged : (reply : Reply) → is_of_none reply ≡ true → says_unchanged reply ≡ true
of_none_unchanged Idle h = refl
of_none_unchanged Refused h = refl
of_none_unchanged _ h = cc

else_busy : (busy : Bool) (reply : Reply) → (busy ≡ false → is_of_none reply ≡ true)
    → is_of_none reply ≡ false → busy ≡ true
else_busy true reply h says = refl
else_busy false reply h says = let of = h refl in cc

-- the core of a world, a history and seats
abbrev pub core_of : Shown → ℕ → Log → List (Option ℕ) → CoreState
core_of w threads log seats =
    record {
      set = w.set;
      threads = threads;
      log = log.most;
      history = log.entries;
      seats = seats;
    }

module _ (before after : Shown) (threads : ℕ) (log : Log) (seats : List (Option ℕ)) (t : ℕ)
    (reply : Reply) (kept : IsKept before threads log seats)
    (applies : Applies before (Step t) after reply) (law : WaitingChangesNothing) where
  -- whether the thread had frames, by what is told of that
  abbrev pub Told : Bool → Bool → Type 0
  Told of_one had =
      MatchBool of_one (TellsOf after (λ (w : World). busy_at w t) had) (had ≡ true)

  reply_told : reply ≡ reply_to before.set threads (events_of log.entries) (Step t)
  reply_told = reply_is before after threads log seats (Step t) reply kept applies

  busy_is : (had of_one : Bool) → is_of_none reply ≡ of_one → Told of_one had
      → busy_at (run before.set threads (events_of log.entries)).world t ≡ had
  busy_is had true is tells =
      ap (λ (w : World). busy_at w t)
      (sym (world_same before after threads log seats (Step t) reply kept applies law
      (of_none_unchanged reply is)))
      ∙ subst (λ (s : Set).
      busy_at (run s threads (events_of log.entries ++ Step t ∷ [])).world t ≡ had) applies.set
      (sym (tells.tells threads (events_of log.entries ++ Step t ∷ [])
      (shows_next before after threads log seats (Step t) reply kept applies)))
  busy_is had false is tells =
      else_busy _ reply
      (λ (idle : busy_at (run before.set threads (events_of log.entries)).world t ≡ false).
      subst (λ (x : Reply). is_of_none x ≡ true) (sym reply_told)
      (of_none before.set (run before.set threads (events_of log.entries)) t idle)) is
      ∙ sym tells

  of_none_told : (of_one : Bool) → is_of_none reply ≡ of_one → Told of_one false
      → is_of_none reply ≡ true
  of_none_told true is tells = is
  of_none_told false is tells = let no = tells in cc

  module _ (had : Bool) (told : Told (is_of_none reply) had) where
    busy : busy_at (run before.set threads (events_of log.entries)).world t ≡ had
    busy = busy_is had (is_of_none reply) refl told

    -- a thread without frames: nothing has changed
    pub keeps_idle : had ≡ false → IsKept after threads log seats
    keeps_idle none =
        kept_unchanged before after threads log seats (Step t) reply kept applies law
        (of_none_unchanged reply (of_none_told (is_of_none reply) refl
        (subst (λ (b : Bool). Told (is_of_none reply) b) none told)))

    pub is_idle : had ≡ false
        → Steps (core_of before threads log seats) t (core_of after threads log seats) IdleStep
    is_idle none = (
      busy ∙ none,
      ap (λ (s : Set). core_of (record before { set = s }) threads log seats)
          applies.set,
    )

    makes : had ≡ true → nat_eq (length log.entries) log.most ≡ false
        → Makes (core_of before threads log seats) t (is_kept reply)
    makes some room =
        record {
          busy = busy ∙ some;
          room = eqb-false (length log.entries) log.most room;
          kept = ap is_kept (sym reply_told);
        }

    -- one that waits
    pub waits : had ≡ true → nat_eq (length log.entries) log.most ≡ false → is_kept reply ≡ false
        → Steps (core_of before threads log seats) t (core_of after threads log seats) Waits
    waits some room unkept = (
      subst (λ (b : Bool). Makes (core_of before threads log seats) t b) unkept (makes some room),
      ap (λ (s : Set). core_of (record before { set = s }) threads log seats) applies.set,
    )

    -- one that makes its step
    pub enters : had ≡ true → nat_eq (length log.entries) log.most ≡ false → is_kept reply ≡ true
        → (grown : Log) (more : List (Option ℕ))
        → grown ≡ record log {
          entries = log.entries
              ++ record { thread = t; event = Step t; reply = reply; name = None } ∷ [];
        } → more ≡ counted seats t
        → Steps (core_of before threads log seats) t (core_of after threads grown more) Entered
    enters some room is grown more log_is seats_are = (
      subst (λ (b : Bool). Makes (core_of before threads log seats) t b) is (makes some room),
      rw (log_is, seats_are, applies.set)
          (ap (λ (x : Reply). core_of before threads (record log {
            entries = log.entries
                ++ record { thread = t; event = Step t; reply = x; name = None } ∷ [];
          }) (counted seats t)) reply_told),
    )
