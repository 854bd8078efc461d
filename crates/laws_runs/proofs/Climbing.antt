-- A thread whose step changes nothing waits for an owner; whoever follows owners comes to higher and
-- higher levels, and so to a thread that goes on.
use Rattle.laws_runs.proofs.Common.{ap, arith, inl, inr, refl, ◌⊎◌, if◌then◌else◌, step_thread, top_effect, subst, sym, take, zero, ◌-◌, ◌∙◌, Bool, List, None, Option, Some, [], false, length, nat_eq, nat_lt, option_and_then, option_map, slice_get, suc, true, ℕ, ◌+◌, ◌<◌, ◌∷◌, ◌≡◌, ◌≤◌, Outcome, frame_effect, top_of, Change, effect, finished_or, settled, standing, Answered, frames_of, frames_on, reply_to, run, Run, Set, IsSound, IsTypable, Event, Step, Lock, SystemCancel, Reply, Stepped, Instr, Acquire, AcquireCancel, Activation, CancelStep, Frame, CancelFrame, Thread, Shared, World, owner_of, States, Comes, Cancels, awaits_cancel, awaits_lock, cancels, comes, lock_taken, led}
use Rattle.model.specs.View.{busy_at, has_frames, thread_view}
use Rattle.laws_runs.specs.OwnLocks.{OwnsWhatItsFrameSays, said_by}
use Rattle.laws_runs.specs.Waits.{says_unchanged}
use Rattle.laws_runs.proofs.Accepted.Lasts.{Lasts, goes_on_at, lasts}
use Rattle.laws_runs.proofs.Accepted.OwnLocks.{accepted_owners}
use Rattle.laws_runs.proofs.Past.Packets.{lt_true}
use Rattle.laws_runs.proofs.Runs.Events.{happens_step}
use Rattle.laws_runs.specs.NoRing.{GoesOn, HasNoRing}
use Rattle.laws_runs.specs.Order.{HasLockOrders, lock_names}
use Rattle.laws_runs.specs.Waiting.{WaitInTurn, acquired_by, other_owner, sought_by, sought_on, waits_for}
use Rattle.laws_runs.proofs.Rising.{level, level_low, owner_rises}

-- what a thread waits for: a lock that it seeks, and its owner
pub record Awaits (set : Set) (w : World) (t u : ℕ) : Type 0 where
  pub lock : Lock
  pub seeks : sought_on set w t ≡ Some lock
  pub owner : owner_of w.shared.locks lock ≡ Some (Some u)

owner_by : (t u owner : ℕ) (b : Bool) → nat_eq owner t ≡ b
    → (if b then None else Some owner) ≡ Some u → owner ≡ u
owner_by t u owner true same is = cc
owner_by t u owner false same is = cc

owner_in : (t u : ℕ) (o : Option (Option ℕ)) → other_owner t o ≡ Some u → o ≡ Some (Some u)
owner_in t u None is = cc
owner_in t u (Some None) is = cc
owner_in t u (Some (Some owner)) is =
    ap (λ (x : ℕ). Some (Some x)) (owner_by t u owner (nat_eq owner t) refl is)

awaits_by : (set : Set) (w : World) (t u : ℕ) (o : Option Lock) → sought_on set w t ≡ o
    → option_and_then (λ lock. other_owner t (owner_of w.shared.locks lock)) o ≡ Some u
    → Awaits set w t u
awaits_by set w t u None seeks is = cc
awaits_by set w t u (Some lock) seeks is =
    record { lock = lock; seeks = seeks; owner = owner_in t u (owner_of w.shared.locks lock) is }

pub awaits : (set : Set) (w : World) (t u : ℕ) → waits_for set w t ≡ Some u → Awaits set w t u
awaits set w t u is = awaits_by set w t u (sought_on set w t) refl is

-- an instruction that takes a lock seeks it
taken_sought : (a : Activation) (i : Instr) (lock : Lock) → lock_taken a i ≡ Some lock
    → acquired_by a (Some i) ≡ Some lock
taken_sought a (Acquire l) lock is = is
taken_sought a AcquireCancel lock is = is
taken_sought a _ lock is = cc

-- a step that changes nothing seeks a lock that another thread owns
pub record Meets (set : Set) (s : Shared) (f : Frame) : Type 0 where
  pub lock : Lock
  pub seeks : sought_by set f ≡ Some lock
  pub owner : ℕ
  pub owns : owner_of s.locks lock ≡ Some (Some owner)

module _ (set : Set) (s : Shared) (t : ℕ) where
  cancel_meets : (n : ℕ) (stage : CancelStep) (o : Outcome) → Cancels set s t n stage o
      → says_unchanged o.reply ≡ true
      → Meets set s (CancelFrame (record { packet = n; next = stage }))
  cancel_meets n stage o (awaits_cancel owner its other) says =
      record { lock = SystemCancel; seeks = refl; owner = owner; owns = its }
  cancel_meets n stage o _ says = cc

  step_meets : (under : Option Frame) (f : Frame) (o : Outcome) → Comes set s t under f o
      → says_unchanged o.reply ≡ true → Meets set s f
  step_meets under f o (awaits_lock a i lock owner at takes its other) says =
      record {
        lock = lock;
        seeks = ap (λ (x : Option Instr). acquired_by a x) at ∙ taken_sought a i lock takes;
        owner = owner;
        owns = its;
      }
  step_meets under f o (cancels n stage made moves) says = cancel_meets n stage made moves says
  step_meets under f o _ says = cc

finished_says : (frames : List Frame) (reply : Reply)
    → says_unchanged (finished_or frames reply) ≡ true → says_unchanged reply ≡ true
finished_says [] Stepped says = cc
finished_says [] _ says = says
finished_says (f ∷ frames) reply says = says

-- a thread with frames has one on top
pub record HasTop (w : World) (t : ℕ) : Type 0 where
  pub thread : Thread
  pub found : slice_get w.threads t ≡ Some thread
  pub frame : Frame
  pub top : top_of thread.frames.items ≡ Some frame

last_there : (frames : List Frame) → nat_lt 0 (length frames) ≡ true
    → (f : Frame) × (top_of frames ≡ Some f)
last_there [] h = cc
last_there (f ∷ []) h = (f, refl)
last_there (f ∷ g ∷ frames) h =
    let later : (e : Frame) × (top_of (g ∷ frames) ≡ Some e) =
    last_there (g ∷ frames) (lt_true 0 (length (g ∷ frames)) (omega arith)) in
    let next : length (f ∷ g ∷ frames) - 1 ≡ suc (length (g ∷ frames) - 1) = omega arith in
    (later.0, rw next later.1)

top_by : (w : World) (t : ℕ) (o : Option Thread) → slice_get w.threads t ≡ o
    → has_frames (option_map thread_view o) ≡ true → HasTop w t
top_by w t None found h = cc
top_by w t (Some thread) found h =
    let last : (f : Frame) × (top_of thread.frames.items ≡ Some f) =
    last_there thread.frames.items h in
    record { thread = thread; found = found; frame = last.0; top = last.1 }

pub has_top : (w : World) (t : ℕ) → busy_at w t ≡ true → HasTop w t
has_top w t busy = top_by w t (slice_get w.threads t) refl busy

-- who owns a lock has frames
busy_length : (frames : List Frame) (f : Frame) → top_of frames ≡ Some f
    → nat_lt 0 (length frames) ≡ true
busy_length [] f h = cc
busy_length (g ∷ frames) f h = lt_true 0 (length (g ∷ frames)) (omega arith)

busy_by : (o : Option Thread) (f : Frame) → top_of (frames_of o) ≡ Some f
    → has_frames (option_map thread_view o) ≡ true
busy_by None f h = cc
busy_by (Some thread) f h = busy_length thread.frames.items f h

owner_busy_by : (states : States) (w : World) (t : ℕ) (l : Lock) (o : Option Frame)
    → top_of (frames_on w t) ≡ o → said_by states o l ≡ true → busy_at w t ≡ true
owner_busy_by states w t l None top says = cc
owner_busy_by states w t l (Some f) top says = busy_by (slice_get w.threads t) f top

-- the step of a thread with frames
module _ (set : Set) (w : World) (t : ℕ) (h : HasTop w t) where
  abbrev below : List Frame
  below = take (length h.thread.frames.items - 1) h.thread.frames.items

  abbrev outcome : Outcome
  outcome = frame_effect set w.shared t (top_of below) h.frame

  pub change_is : effect set w (Step t) ≡ settled set w t h.thread below outcome
  change_is =
      ap (λ (o : Option Thread). step_thread set w t o) h.found
      ∙ ap (λ (o : Option Frame). top_effect set w t h.thread below o) h.top

  pub step_awaits : says_unchanged (effect set w (Step t)).reply ≡ true
      → (u : ℕ) × Awaits set w t u
  step_awaits says =
      let told : says_unchanged (finished_or (standing set below outcome) outcome.reply) ≡ true =
      ap (λ (c : Change). says_unchanged c.reply) (sym change_is) ∙ says in
      let meets : Meets set w.shared h.frame =
      step_meets set w.shared t (top_of below) h.frame outcome
      (comes set w.shared t (top_of below) h.frame)
      (finished_says (standing set below outcome) outcome.reply told) in
      let on : top_of (frames_on w t) ≡ Some h.frame =
      ap (λ (o : Option Thread). top_of (frames_of o)) h.found ∙ h.top in (
        meets.owner,
        record {
          lock = meets.lock;
          seeks = ap (λ (o : Option Frame). option_and_then (λ frame. sought_by set frame) o) on
              ∙ meets.seeks;
          owner = meets.owns;
        },
      )

-- who waits for a thread, through others or not, seeks a lock
pub turn_seeks : (set : Set) (w : World) (t : ℕ) (between : List ℕ) (u : ℕ)
    → WaitInTurn set w t between u → (l : Lock) × (sought_on set w t ≡ Some l)
turn_seeks set w t [] u wait =
    let on : Awaits set w t u = awaits set w t u wait in (on.lock, on.seeks)
turn_seeks set w t (v ∷ between) u wait =
    let on : Awaits set w t v = awaits set w t v wait.0 in (on.lock, on.seeks)

module _ (set : Set) (typable : IsTypable set) (sound : IsSound set) (orders : HasLockOrders set)
    (threads : ℕ) (events : List Event) where
  abbrev here : Run
  here = run set threads events

  abbrev states : States
  states = (accepted_owners set typable sound).0

  owns : OwnsWhatItsFrameSays set states threads events
  owns = (accepted_owners set typable sound).2 threads events

  abbrev rank : Lock → ℕ
  rank l = level set orders l

  rises : (t : ℕ) (held sought : Lock)
      → owner_of here.world.shared.locks held ≡ Some (Some t)
      → sought_on set here.world t ≡ Some sought → rank held < rank sought
  rises = owner_rises set orders typable sound threads events

  wait_rises : (t u : ℕ) (low high : Lock) → waits_for set here.world t ≡ Some u
      → sought_on set here.world t ≡ Some low → sought_on set here.world u ≡ Some high
      → rank low < rank high
  wait_rises t u low high wait seeks next =
      let on : Awaits set here.world t u = awaits set here.world t u wait in
      let same : Some on.lock ≡ Some low = sym on.seeks ∙ seeks in
      let is : on.lock ≡ low = cc in
      rises u low high
      (subst (λ (l : Lock). owner_of here.world.shared.locks l ≡ Some (Some u)) is on.owner) next

  -- whoever waits for a thread that seeks a lock seeks one of a lower level
  turn_rises : (t : ℕ) (between : List ℕ) (u : ℕ) (low high : Lock)
      → WaitInTurn set here.world t between u → sought_on set here.world t ≡ Some low
      → sought_on set here.world u ≡ Some high → rank low < rank high
  turn_rises t [] u low high wait seeks next = wait_rises t u low high wait seeks next
  turn_rises t (v ∷ between) u low high wait seeks next =
      let mid : (l : Lock) × (sought_on set here.world v ≡ Some l) =
      turn_seeks set here.world v between u wait.1 in
      let one : rank low < rank mid.0 = wait_rises t v low mid.0 wait.0 seeks mid.1 in
      let two : rank mid.0 < rank high = turn_rises v between u mid.0 high wait.1 mid.1 next in
      omega arith

  no_ring : (t : ℕ) (between : List ℕ) → WaitInTurn set here.world t between t → ⊥
  no_ring t between wait =
      let mine : (l : Lock) × (sought_on set here.world t ≡ Some l) =
      turn_seeks set here.world t between t wait in
      let up : rank mine.0 < rank mine.0 =
      turn_rises t between t mine.0 mine.0 wait mine.1 mine.1 in
      absurd (omega arith)

  -- the reply to the step of a thread with frames is that of its change
  lasting : Lasts set (led set typable sound).0 (record { sound = sound; led = (led set typable sound).1 }) threads here
  lasting = lasts set (led set typable sound).0 (record { sound = sound; led = (led set typable sound).1 }) threads events

  reply_is : (t : ℕ) → reply_to set threads events (Step t) ≡ (effect set here.world (Step t)).reply
  reply_is t =
      ap (λ (a : Answered). a.reply)
      (goes_on_at set (led set typable sound).0 (record { sound = sound; led = (led set typable sound).1 }) threads here lasting t (Step t) refl
      (happens_step set here.world t (slice_get here.world.threads t) refl)).is

  owner_busy : (t : ℕ) (l : Lock) → owner_of here.world.shared.locks l ≡ Some (Some t)
      → busy_at here.world t ≡ true
  owner_busy t l owner =
      owner_busy_by states here.world t l (top_of (frames_on here.world t)) refl
      (owns.owned t l owner)

  -- a thread with frames goes on, or waits for one with frames
  goes_or_awaits : (t : ℕ) → busy_at here.world t ≡ true → (b : Bool)
      → says_unchanged (reply_to set threads events (Step t)) ≡ b
      → GoesOn set threads events t ⊎ ((u : ℕ) × Awaits set here.world t u)
  goes_or_awaits t busy false says = inl (record { busy = busy; on = says })
  goes_or_awaits t busy true says =
      inr (step_awaits set here.world t (has_top here.world t busy)
      (ap says_unchanged (sym (reply_is t)) ∙ says))

  climbs : (steps t : ℕ) → busy_at here.world t ≡ true
      → ((l : Lock) → sought_on set here.world t ≡ Some l
      → lock_names + lock_names ≤ rank l + steps)
      → GoesOn set threads events t ⊎ ((u : ℕ) × Awaits set here.world t u)
      → (u : ℕ) × GoesOn set threads events u
  climbs steps t busy high (inl on) = (t, on)
  climbs zero t busy high (inr waits) =
      let up : lock_names + lock_names ≤ rank waits.1.lock + 0 =
      high waits.1.lock waits.1.seeks in
      let low : rank waits.1.lock < lock_names + lock_names =
      level_low set orders waits.1.lock in
      absurd (omega arith)
  climbs (suc steps) t busy high (inr waits) =
      let u : ℕ = waits.0 in
      let up : lock_names + lock_names ≤ rank waits.1.lock + suc steps =
      high waits.1.lock waits.1.seeks in
      let there : busy_at here.world u ≡ true = owner_busy u waits.1.lock waits.1.owner in
      climbs steps u there
      (λ l seeks.
      let more : rank waits.1.lock < rank l = rises u waits.1.lock l waits.1.owner seeks in
      omega arith)
      (goes_or_awaits u there (says_unchanged (reply_to set threads events (Step u))) refl)

  someone_goes_on : (t : ℕ) → busy_at here.world t ≡ true → (u : ℕ) × GoesOn set threads events u
  someone_goes_on t busy =
      climbs (lock_names + lock_names) t busy (λ l seeks. omega arith)
      (goes_or_awaits t busy (says_unchanged (reply_to set threads events (Step t))) refl)

  has_no_ring : HasNoRing set threads events
  has_no_ring = record { none = no_ring; on = someone_goes_on }

pub accepted_no_ring : (set : Set) → IsTypable set → IsSound set → HasLockOrders set
    → (threads : ℕ) (events : List Event) → HasNoRing set threads events
accepted_no_ring = has_no_ring
