-- Steps that go on come to an end, and rounds of steps to rest.
use Rattle.laws_runs.proofs.Common.{ap, append-nil, arith, append_assoc, eqb_tells, cases_eq, inl, inr, refl, subst, sym, take, ◌*◌, ◌-◌, ◌∙◌, Bool, List, None, Option, Some, [], false, if◌then◌else◌, length, list_any, nat_eq, nat_lt, option_map, slice_get, true, ℕ, ◌++◌, ◌+◌, ◌<◌, ◌∷◌, ◌≡◌, ◌≤◌, Outcome, frame_effect, top_of, told_to, Change, effect, finished_or, settled, standing, step_thread, with_stack, Answered, reply_to, run, Run, begun, step, Set, IsSound, IsTypable, Event, Step, Reply, Stepped, Frame, Walk, Thread, World, States, IsGood, comes, on_top, stack_sum, stood, told_is, led, slice_get_within}
use Rattle.model.specs.View.{busy_at, has_frames, thread_view}
use Rattle.laws_runs.specs.Waits.{says_unchanged}
use Rattle.laws_runs.proofs.Accepted.Lasts.{GoesOn as EventGoesOn, Lasts, goes_on_at, lasts}
use Rattle.laws_runs.proofs.History.Waits.{run_more, waits_same}
use Rattle.laws_runs.proofs.Holders.Sums.{last_sum, stack_append, thread_set}
use Rattle.laws_runs.proofs.Lists.{last_split}
use Rattle.laws_runs.proofs.Past.Packets.{lt_true}
use Rattle.laws_runs.proofs.Runs.Events.{StepsFrame, happens_step}
use Rattle.laws_runs.proofs.Runs.Threads.{thread_other}
use Rattle.laws_runs.specs.NoRing.{GoesOn}
use Rattle.laws_runs.specs.Order.{HasLockOrders}
use Rattle.laws_runs.specs.Rest.{AllGoOn, AreRounds, changes_one, steps_in, steps_of, up}
use Rattle.laws_runs.proofs.Climbing.{HasTop, accepted_no_ring, change_is, has_top}
use Rattle.laws_runs.proofs.Falling.{frame_falls}
use Rattle.laws_runs.proofs.Weights.{depths, measure, told_weighs, weight}

-- a reply that tells that something changed, of a thread that finished or not
finished_on : (frames : List Frame) (reply : Reply)
    → says_unchanged (finished_or frames reply) ≡ false → says_unchanged reply ≡ false
finished_on [] Stepped says = refl
finished_on [] _ says = says
finished_on (f ∷ frames) reply says = says

-- what stands after a step weighs no more than what stood below and what is left of the frame
module _ (set : Set) (w : World) (t : ℕ) (h : StepsFrame set w t) where
  abbrev o : Outcome
  o = h.outcome

  standing_weight : stack_sum (weight set) (standing set h.below o)
      ≤ stack_sum (weight set) h.below + stack_sum (weight set) o.frames
  standing_weight =
      elim (stood set w.shared t h.below h.frame o h.comes) [
        | inl kept ↦
            rw kept (omega (
              arith,
              stack_append (weight set) (told_to set h.below o.told) o.frames,
              ap (stack_sum (weight set)) (told_is set h.below o.told),
              last_sum set (weight set) o.told (told_weighs set o.told) h.below,
            ))
        | inr gone ↦
            rw gone.stands (omega (
              arith,
              ap (stack_sum (weight set)) gone.below_is,
              stack_append (weight set) gone.others (Walk gone.n ∷ []),
            ))
      ]

  step_falls : stack_sum (weight set) o.frames + up * depths o.shared.packets + 1
      ≤ weight set h.frame + up * depths w.shared.packets
      → measure set (settled set w t h.thread h.below o).world + 1 ≤ measure set w
  step_falls less =
      omega (
        arith,
        thread_set (weight set) w.threads t h.thread (with_stack h.thread (standing set h.below o))
            h.found,
        ap (stack_sum (weight set)) h.frames,
        stack_append (weight set) h.below (h.frame ∷ []),
        standing_weight,
        less,
      )

-- the step of a thread that has frames
abbrev steps_top : (set : Set) (w : World) (t : ℕ) → HasTop w t → StepsFrame set w t
steps_top set w t h =
    record {
      thread = h.thread;
      below = take (length h.thread.frames.items - 1) h.thread.frames.items;
      frame = h.frame;
      outcome = frame_effect set w.shared t
          (top_of (take (length h.thread.frames.items - 1) h.thread.frames.items)) h.frame;
      found = h.found;
      frames = last_split h.thread.frames.items h.frame h.top;
      comes = comes set w.shared t
          (top_of (take (length h.thread.frames.items - 1) h.thread.frames.items)) h.frame;
    }

-- and of one that has none
idle_frames_reply : (set : Set) (w : World) (t : ℕ) (thread : Thread) (frames : List Frame)
    → thread.frames.items ≡ frames → nat_lt 0 (length frames) ≡ false
    → says_unchanged (step_thread set w t (Some thread)).reply ≡ true
idle_frames_reply set w t thread [] is idle = rw is refl
idle_frames_reply set w t thread (f ∷ frames) is idle =
    let no : true ≡ false = sym (lt_true 0 (length (f ∷ frames)) (omega arith)) ∙ idle in cc

idle_reply : (set : Set) (w : World) (t : ℕ) (o : Option Thread)
    → has_frames (option_map thread_view o) ≡ false
    → says_unchanged (step_thread set w t o).reply ≡ true
idle_reply set w t None idle = refl
idle_reply set w t (Some thread) idle =
    idle_frames_reply set w t thread thread.frames.items refl idle

module _ (set : Set) (typable : IsTypable set) (sound : IsSound set) where
  abbrev states : States
  states = (led set typable sound).0

  good : IsGood set states
  good = record { sound = sound; led = (led set typable sound).1 }

  module _ (threads : ℕ) (events : List Event) where
    abbrev here : Run
    here = run set threads events

    lasting : Lasts set states good threads here
    lasting = lasts set states good threads events

    goes_at : (t : ℕ) → EventGoesOn set states good threads here t (effect set here.world (Step t))
        (step set here (Step t))
    goes_at t =
        goes_on_at set states good threads here lasting t (Step t) refl
        (happens_step set here.world t (slice_get here.world.threads t) refl)

    pub reply_of : (t : ℕ)
        → reply_to set threads events (Step t) ≡ (effect set here.world (Step t)).reply
    reply_of t = ap (λ (a : Answered). a.reply) (goes_at t).is

    world_after : (t : ℕ) → (run set threads (events ++ Step t ∷ [])).world
        ≡ (effect set here.world (Step t)).world
    world_after t =
        ap (λ (r : Run). r.world) (run_more set (begun set threads) events (Step t))
        ∙ ap (λ (a : Answered). a.run.world) (goes_at t).is

    -- a step that goes on makes less what is left to do
    on_falls : (t : ℕ) → GoesOn set threads events t
        → measure set (run set threads (events ++ Step t ∷ [])).world + 1 ≤ measure set here.world
    on_falls t on =
        let top : HasTop here.world t = has_top here.world t on.busy in
        let h : StepsFrame set here.world t = steps_top set here.world t top in
        let is : effect set here.world (Step t)
        ≡ settled set here.world t h.thread h.below h.outcome = change_is set here.world t top in
        let says : says_unchanged (finished_or (standing set h.below h.outcome) h.outcome.reply)
        ≡ false =
        ap (λ (c : Change). says_unchanged c.reply) (sym is)
        ∙ ap says_unchanged (sym (reply_of t)) ∙ on.on in
        rw (world_after t, is) (step_falls set here.world t h
        (frame_falls set states typable here.world.shared t (top_of h.below) h.frame h.outcome
        (on_top set states here.world here.past good lasting.keeps.stands t h)
        lasting.keeps.room.ways h.comes
        (finished_on (standing set h.below h.outcome) h.outcome.reply says)))

  -- so only so many go on
  pub few_go_on : (threads : ℕ) (events : List Event) (turns : List ℕ)
      → AllGoOn set threads events turns
      → length turns ≤ measure set (run set threads events).world
  few_go_on threads events [] all = omega arith
  few_go_on threads events (t ∷ turns) all =
      omega (
        arith,
        on_falls threads events t all.0,
        few_go_on threads (events ++ Step t ∷ []) turns all.1,
      )

  -- a step that goes on is of a thread with frames
  busy_by : (threads : ℕ) (events : List Event) (t : ℕ) (b : Bool)
      → busy_at (run set threads events).world t ≡ b
      → says_unchanged (reply_to set threads events (Step t)) ≡ false
      → GoesOn set threads events t
  busy_by threads events t true busy on = record { busy = busy; on = on }
  busy_by threads events t false idle on =
      let w : World = (run set threads events).world in
      let no : true ≡ false =
      sym (idle_reply set w t (slice_get w.threads t) idle)
      ∙ ap says_unchanged (sym (reply_of threads events t)) ∙ on in
      cc

  on_by : (threads : ℕ) (events : List Event) (t : ℕ)
      → says_unchanged (reply_to set threads events (Step t)) ≡ false
      → GoesOn set threads events t
  on_by threads events t on =
      busy_by threads events t (busy_at (run set threads events).world t) refl on

  -- a step that changes something is paid for by what it makes less
  pays_by : (threads : ℕ) (events : List Event) (t : ℕ) (b : Bool)
      → says_unchanged (reply_to set threads events (Step t)) ≡ b
      → (if b then 0 else 1) + measure set (run set threads (events ++ Step t ∷ [])).world
      ≤ measure set (run set threads events).world
  pays_by threads events t true says =
      omega (arith, ap (measure set) (waits_same set threads events (Step t) says))
  pays_by threads events t false says =
      omega (arith, on_falls threads events t (on_by threads events t says))

  pub step_pays : (threads : ℕ) (events : List Event) (t : ℕ)
      → changes_one set threads events (Step t)
      + measure set (run set threads (events ++ Step t ∷ [])).world
      ≤ measure set (run set threads events).world
  step_pays threads events t =
      pays_by threads events t (says_unchanged (reply_to set threads events (Step t))) refl

  module _ (threads : ℕ) where
    abbrev left : List Event → ℕ
    left events = measure set (run set threads events).world

    abbrev after : List Event → ℕ → List Event
    after events t = events ++ Step t ∷ []

    same_after : (events : List Event) (t : ℕ)
        → says_unchanged (reply_to set threads events (Step t)) ≡ true
        → (run set threads (after events t)).world ≡ (run set threads events).world
    same_after events t says = waits_same set threads events (Step t) says

    -- no step makes more of what is left to do
    step_le_by : (events : List Event) (t : ℕ) (b : Bool)
        → says_unchanged (reply_to set threads events (Step t)) ≡ b
        → left (after events t) ≤ left events
    step_le_by events t true says =
        omega (arith, ap (measure set) (same_after events t says))
    step_le_by events t false says =
        omega (arith, on_falls threads events t (on_by threads events t says))

    step_le : (events : List Event) (t : ℕ) → left (after events t) ≤ left events
    step_le events t =
        step_le_by events t (says_unchanged (reply_to set threads events (Step t))) refl

    -- one step and others, or others
    first_step : (events : List Event) (t : ℕ) (more : List Event)
        → events ++ Step t ∷ more ≡ after events t ++ more
    first_step events t more = sym (append_assoc events (Step t ∷ []) more)

    steps_le : (events : List Event) (turns : List ℕ)
        → left (events ++ steps_of turns) ≤ left events
    steps_le events [] = rw append-nil (omega arith)
    steps_le events (t ∷ turns) =
        rw (first_step events t (steps_of turns))
        (omega (arith, steps_le (after events t) turns, step_le events t))

    -- a thread that goes on does so while the others wait
    still_on : (events : List Event) (t u : ℕ)
        → says_unchanged (reply_to set threads events (Step t)) ≡ true
        → GoesOn set threads events u → GoesOn set threads (after events t) u
    still_on events t u says on =
        let same : (run set threads (after events t)).world ≡ (run set threads events).world =
        same_after events t says in
        record {
          busy = ap (λ (w : World). busy_at w u) same ∙ on.busy;
          on = ap says_unchanged (reply_of threads (after events t) u)
              ∙ ap (λ (w : World). says_unchanged (effect set w (Step u)).reply) same
              ∙ ap says_unchanged (sym (reply_of threads events u)) ∙ on.on;
        }

    -- a round in which a thread that goes on has its turn makes less of it
    among_rest : (t u : ℕ) (turns : List ℕ) → nat_eq u t ≡ false
        → list_any (λ v. nat_eq u v) (t ∷ turns) ≡ true
        → list_any (λ v. nat_eq u v) turns ≡ true
    among_rest t u turns apart among = rw apart at among

    round_waits : (events : List Event) (t : ℕ) (turns : List ℕ) (u : ℕ)
        → GoesOn set threads events u
        → list_any (λ v. nat_eq u v) (t ∷ turns) ≡ true
        → (GoesOn set threads (after events t) u → list_any (λ v. nat_eq u v) turns ≡ true
        → left (after events t ++ steps_of turns) + 1 ≤ left (after events t))
        → says_unchanged (reply_to set threads events (Step t)) ≡ true
        → left (after events t ++ steps_of turns) + 1 ≤ left events
    round_waits events t turns u on among later says =
        elim (eqb_tells u t) [
          | inl same ↦
              let no : true ≡ false =
              sym (subst (λ (v : ℕ). says_unchanged (reply_to set threads events (Step v)) ≡ true)
              (sym same.1) says) ∙ on.on in
              cc
          | inr apart ↦
              omega (
                arith,
                later (still_on events t u says on) (among_rest t u turns apart.0 among),
                ap (measure set) (same_after events t says),
              )
        ]

    round_by : (events : List Event) (t : ℕ) (turns : List ℕ) (u : ℕ)
        → GoesOn set threads events u
        → list_any (λ v. nat_eq u v) (t ∷ turns) ≡ true
        → (GoesOn set threads (after events t) u → list_any (λ v. nat_eq u v) turns ≡ true
        → left (after events t ++ steps_of turns) + 1 ≤ left (after events t))
        → (b : Bool) → says_unchanged (reply_to set threads events (Step t)) ≡ b
        → left (after events t ++ steps_of turns) + 1 ≤ left events
    round_by events t turns u on among later true says =
        round_waits events t turns u on among later says
    round_by events t turns u on among later false says =
        omega (
          arith,
          steps_le (after events t) turns,
          on_falls threads events t (on_by threads events t says),
        )

    round_falls : (events : List Event) (turns : List ℕ) (u : ℕ) → GoesOn set threads events u
        → list_any (λ v. nat_eq u v) turns ≡ true
        → left (events ++ steps_of turns) + 1 ≤ left events
    round_falls events [] u on among = cc
    round_falls events (t ∷ turns) u on among =
        rw (first_step events t (steps_of turns))
        (round_by events t turns u on among
        (λ still rest. round_falls (after events t) turns u still rest)
        (says_unchanged (reply_to set threads events (Step t))) refl)

    -- who has frames after a step had some before it
    busy_before : (events : List Event) (t v : ℕ) (b : Bool)
        → says_unchanged (reply_to set threads events (Step t)) ≡ b
        → busy_at (run set threads (after events t)).world v ≡ true
        → busy_at (run set threads events).world v ≡ true
    busy_before events t v true says busy =
        ap (λ (w : World). busy_at w v) (sym (same_after events t says)) ∙ busy
    busy_before events t v false says busy =
        let on : GoesOn set threads events t = on_by threads events t says in
        let w : World = (run set threads events).world in
        let top : HasTop w t = has_top w t on.busy in
        let h : StepsFrame set w t = steps_top set w t top in
        elim (cases_eq t v) [
          | inl same ↦ subst (λ (k : ℕ). busy_at w k ≡ true) same on.busy
          | inr apart ↦
              ap (λ (o : Option Thread). has_frames (option_map thread_view o))
              (sym (thread_other w t h.outcome.shared
              (with_stack h.thread (standing set h.below h.outcome)) v apart))
              ∙ ap (λ (x : World). busy_at x v)
              (sym (world_after threads events t
              ∙ ap (λ (c : Change). c.world) (change_is set w t top)))
              ∙ busy
        ]

    busy_before_all : (events : List Event) (turns : List ℕ) (v : ℕ)
        → busy_at (run set threads (events ++ steps_of turns)).world v ≡ true
        → busy_at (run set threads events).world v ≡ true
    busy_before_all events [] v busy =
        subst (λ (all : List Event). busy_at (run set threads all).world v ≡ true)
        (append-nil events) busy
    busy_before_all events (t ∷ turns) v busy =
        busy_before events t v (says_unchanged (reply_to set threads events (Step t))) refl
        (busy_before_all (after events t) turns v
        (subst (λ (all : List Event). busy_at (run set threads all).world v ≡ true)
        (first_step events t (steps_of turns)) busy))

    next_round : (events : List Event) (turns : List ℕ) (rounds : List (List ℕ))
        → events ++ steps_in (turns ∷ rounds) ≡ (events ++ steps_of turns) ++ steps_in rounds
    next_round events turns rounds = sym (append_assoc events (steps_of turns) (steps_in rounds))

    busy_before_rounds : (events : List Event) (rounds : List (List ℕ)) (v : ℕ)
        → busy_at (run set threads (events ++ steps_in rounds)).world v ≡ true
        → busy_at (run set threads events).world v ≡ true
    busy_before_rounds events [] v busy = busy_before_all events [] v busy
    busy_before_rounds events (turns ∷ rounds) v busy =
        busy_before_all events turns v
        (busy_before_rounds (events ++ steps_of turns) rounds v
        (subst (λ (all : List Event). busy_at (run set threads all).world v ≡ true)
        (next_round events turns rounds) busy))

    module _ (orders : HasLockOrders set) where
      someone : (events : List Event) (v : ℕ) → busy_at (run set threads events).world v ≡ true
          → (u : ℕ) × GoesOn set threads events u
      someone events v busy =
          (accepted_no_ring set typable sound orders threads events).on v busy

      is_thread : (events : List Event) (u : ℕ) → GoesOn set threads events u → u < threads
      is_thread events u on =
          let top : HasTop (run set threads events).world u =
          has_top (run set threads events).world u on.busy in
          omega (
            arith,
            slice_get_within (run set threads events).world.threads u top.thread top.found,
            (lasting threads events).keeps.count,
          )

      -- while a thread has frames each round makes less of it
      rounds_fall : (events : List Event) (rounds : List (List ℕ)) (v : ℕ)
          → AreRounds threads rounds
          → busy_at (run set threads (events ++ steps_in rounds)).world v ≡ true
          → length rounds < left events
      rounds_fall events [] v are busy =
          let on : (u : ℕ) × GoesOn set threads events u =
          someone events v (busy_before_rounds events [] v busy) in
          omega (arith, on_falls threads events on.0 on.1)
      rounds_fall events (turns ∷ rounds) v are busy =
          let on : (u : ℕ) × GoesOn set threads events u =
          someone events v (busy_before_rounds events (turns ∷ rounds) v busy) in
          omega (
            arith,
            round_falls events turns on.0 on.1 (are.0 on.0 (is_thread events on.0 on.1)),
            rounds_fall (events ++ steps_of turns) rounds v are.1
                (subst (λ (all : List Event). busy_at (run set threads all).world v ≡ true)
                (next_round events turns rounds) busy),
          )

      idle_by : (events : List Event) (rounds : List (List ℕ)) (v : ℕ) (b : Bool)
          → AreRounds threads rounds → left events ≤ length rounds
          → busy_at (run set threads (events ++ steps_in rounds)).world v ≡ b
          → b ≡ false
      idle_by events rounds v false are enough is = refl
      idle_by events rounds v true are enough is =
          let more : length rounds < left events = rounds_fall events rounds v are is in
          absurd (omega arith)

  pub comes_to_rest : HasLockOrders set → (threads : ℕ) (events : List Event)
      (rounds : List (List ℕ)) → AreRounds threads rounds
      → measure set (run set threads events).world ≤ length rounds
      → (t : ℕ) → busy_at (run set threads (events ++ steps_in rounds)).world t ≡ false
  comes_to_rest orders threads events rounds are enough t =
      idle_by threads orders events rounds t
      (busy_at (run set threads (events ++ steps_in rounds)).world t) are enough refl
