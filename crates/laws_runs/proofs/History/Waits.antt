-- An event that waits, finds nothing to do or is refused leaves the world as it was.
use Rattle.laws_runs.proofs.Common.{ap, refl, subst, sym, zero, ◌∙◌, Bool, List, None, Option, Some, [], false, if◌then◌else◌, slice_get, slice_set, suc, true, ℕ, ◌++◌, ◌∷◌, ◌≡◌, Outcome, top_of, Change, effect, finished_or, root_over, settled, standing, with_stack, with_thread, Answered, Run, begun, refused, run, run_from, step, Set, Shared, World, Event, Reply, Stepped, CancelStep, Frame, CancelFrame, Irql, Thread, Cancels, Comes, awaits_cancel, awaits_lock, cancels}
use Rattle.laws_runs.specs.Waits.{WaitingChangesNothing, says_unchanged}
use Rattle.laws_runs.proofs.Runs.Roots.{Root, Beside, issues}
use Rattle.laws_runs.proofs.Runs.Events.{StepsFrame, Happens, nothing, steps, begins, Sets, sets_nothing, Concerns, a_thread, no_thread, concerns, Answers, goes_on_with, answers, set_in, answers_none}

-- a run with one event more
pub run_more : (set : Set) (r : Run) (events : List Event) (e : Event)
    → run_from set r (events ++ e ∷ []) ≡ (step set (run_from set r events) e).run
run_more set r [] e = refl
run_more set r (f ∷ events) e = run_more set (step set r f).run events e

-- what is written back to its place changes nothing
set_back : {A : Type 0} (xs : List A) (i : ℕ) (x : A) → slice_get xs i ≡ Some x
    → slice_set xs i x ≡ xs
set_back [] i x h = refl
set_back (z ∷ xs) zero x h = let same : z ≡ x = cc in rw same refl
set_back {A = A} (z ∷ xs) (suc i) x h = ap (λ (ys : List A). z ∷ ys) (set_back xs i x h)

-- a step that only waits: nothing but the same frame is left
record Stays (s : Shared) (f : Frame) (o : Outcome) : Type 0 where
  shared : o.shared ≡ s
  frames : o.frames ≡ f ∷ []
  below : o.taken_below ≡ false
  told : o.told ≡ None

module _ (set : Set) (s : Shared) (t : ℕ) where
  -- a step of IoCancelIrp that says that nothing changes only waits
  cancel_stays : (n : ℕ) (stage : CancelStep) (o : Outcome) → Cancels set s t n stage o
      → says_unchanged o.reply ≡ true
      → Stays s (CancelFrame (record { packet = n; next = stage })) o
  cancel_stays n stage o (awaits_cancel owner its other) says =
      record { shared = refl; frames = refl; below = refl; told = refl }
  cancel_stays n stage o _ says = cc

  -- so does a step of any frame
  step_stays : (under : Option Frame) (f : Frame) (o : Outcome) → Comes set s t under f o
      → says_unchanged o.reply ≡ true → Stays s f o
  step_stays under f o (awaits_lock a i lock owner at takes its other) says =
      record { shared = refl; frames = refl; below = refl; told = refl }
  step_stays under f o (cancels n stage made moves) says = cancel_stays n stage made moves says
  step_stays under f o _ says = cc

-- a thread with frames keeps its level
root_kept : (root : Irql) (below : List Frame) (f : Frame) → root_over root (below ++ f ∷ []) ≡ root
root_kept root [] f = refl
root_kept root (g ∷ below) f = refl

-- a thread with the frames that it has is the same thread
stack_kept : (thread : Thread) (below : List Frame) (f : Frame)
    → thread.frames.items ≡ below ++ f ∷ [] → with_stack thread (below ++ f ∷ []) ≡ thread
stack_kept thread below f is =
    ap (λ (root : Irql). record thread {
      root = root;
      frames = record { items = below ++ f ∷ [] };
    }) (root_kept thread.root below f)
    ∙ ap (λ (items : List Frame). record thread { frames = record { items = items } }) (sym is)

-- where a thread that may have finished says that nothing changes, its last step says so too
finished_says : (frames : List Frame) (reply : Reply)
    → says_unchanged (finished_or frames reply) ≡ true → says_unchanged reply ≡ true
finished_says [] Stepped says = cc
finished_says [] _ says = says
finished_says (f ∷ frames) reply says = says

module _ (set : Set) (w : World) (t : ℕ) where
  -- where the top frame only waits the world is as it was
  settled_same : (h : StepsFrame set w t) → Stays w.shared h.frame h.outcome
      → (settled set w t h.thread h.below h.outcome).world ≡ w
  settled_same h stays =
      let stands : standing set h.below h.outcome ≡ h.below ++ h.frame ∷ [] =
      rw (stays.below, stays.told, stays.frames) refl in
      let same : with_stack h.thread (standing set h.below h.outcome) ≡ h.thread =
      ap (λ (frames : List Frame). with_stack h.thread frames) stands
      ∙ stack_kept h.thread h.below h.frame h.frames in
      ap (λ (s : Shared). with_thread w t s
      (with_stack h.thread (standing set h.below h.outcome))) stays.shared
      ∙ ap (λ (thread : Thread). with_thread w t w.shared thread) same
      ∙ ap (λ (threads : List Thread). record w { threads = threads })
      (set_back w.threads t h.thread h.found)

  root_says : (root : Root) → Beside set w.shared root → says_unchanged root.reply ≡ true → ⊥
  root_says root (issues h) says = cc
  root_says root _ says = cc

  -- it is so after an event on a thread that says that nothing changes
  happens_same : (c : Change) → Happens set w t c → says_unchanged c.reply ≡ true → c.world ≡ w
  happens_same c (nothing reply right) says = refl
  happens_same c (steps h) says =
      settled_same h
      (step_stays set w.shared t (top_of h.below) h.frame h.outcome h.comes
      (finished_says (standing set h.below h.outcome) h.outcome.reply says))
  happens_same c (begins i root beside) says = absurd (root_says root beside says)

module _ (set : Set) (r : Run) where
  -- what a run answers to it leaves the world as it was
  answered_same : (t : ℕ) (c : Change) (a : Answered) → Happens set r.world t c
      → Answers set r t c a → says_unchanged a.reply ≡ true → a.run.world ≡ r.world
  answered_same t c a happens (goes_on_with on quiet within) says =
      happens_same set r.world t c happens says
  answered_same t c a happens _ says = refl

  -- and what it answers to an event about no thread
  none_same : (c : Change) (stopped : Bool) → Sets set r.world c
      → says_unchanged (if stopped then refused r else set_in r c).reply ≡ true
      → (if stopped then refused r else set_in r c).run.world ≡ r.world
  none_same c true sets says = refl
  none_same c false (sets_nothing reply right) says = refl
  none_same c false _ says = cc

  -- and to any event
  concerned_same : (e : Event) → Concerns set r.world e
      → says_unchanged (step set r e).reply ≡ true → (step set r e).run.world ≡ r.world
  concerned_same e (a_thread t is happens) says =
      answered_same t (effect set r.world e) (step set r e) happens (answers set r t e is) says
  concerned_same e (no_thread is sets) says =
      subst (λ (a : Answered). says_unchanged a.reply ≡ true → a.run.world ≡ r.world)
      (sym (answers_none set r e is)) (none_same (effect set r.world e) r.stopped sets) says

-- one event more, which says that nothing changes, leaves the world as it was
pub waits_same : WaitingChangesNothing
waits_same set threads events e says =
    let r : Run = run set threads events in
    ap (λ (after : Run). after.world) (run_more set (begun set threads) events e)
    ∙ concerned_same set r e (concerns set r.world e) says
