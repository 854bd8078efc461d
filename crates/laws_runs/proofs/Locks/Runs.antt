-- Locks and levels are kept in every run of an accepted set: every thread holds the locks that the
-- state of its top frame says.
use Rattle.laws_runs.proofs.Common.{ap, inl, inr, refl, subst, sym, ◌-◌, ◌∙◌, ne_eqb, append_assoc, Bool, List, None, Option, Some, [], false, slice_get, ℕ, ◌++◌, ◌∷◌, ◌≡◌, ◌≢◌, Action, OnLock, Outcome, answered_in, operand_of, top_of, Change, standing, with_stack, with_thread, ends_held, holds, lock_acts, with_lock_act, begun, frames_on, root_of, Set, instruction_at, Actor, Entry, entry, recorded, Shared, World, Lock, Status, Activation, Frame, CancelFrame, Routine, Walk, Irql, Thread, States, RootFrame, root_cancels, root_enters, IsGood, state_of, Low, Stacked, Stands, Standing, on_top, root_there, stands_there, told_frame, told_is, told_last, stood, fault_among, is_of_locks}
use Rattle.std.proofs.lemmas.List.{append-nil}
use Rattle.model.specs.Action.{LockAct}
use Rattle.laws_runs.proofs.Locks.Says.{frame_says, top_says, free_says}
use Rattle.laws_runs.proofs.Locks.Steps.{begun_says, own, lock_faults}
use Rattle.laws_runs.proofs.Runs.Events.{StepsFrame, Happens, nothing, steps, begins}
use Rattle.laws_runs.proofs.Runs.Roots.{root_told, with_root}
use Rattle.laws_runs.proofs.Runs.Threads.{frames_there, each_frames, idle_frames}
use Rattle.laws_runs.proofs.States.Begun.{root_free}
use Rattle.laws_runs.proofs.States.Standing.{low_there}

-- every thread holds the locks that the state of its top frame says
abbrev pub LocksAgree : States → World → List Entry → Type 0
LocksAgree states w past = (t : ℕ) (l : Lock) → holds past t l ≡ top_says states (frames_on w t) l

-- actions of one thread leave the locks of others
other_holds : (action : Action) (l : Lock) (acts : List LockAct)
    → with_lock_act action false l acts ≡ acts
other_holds (OnLock m act) l acts = refl
other_holds _ l acts = refl

other_threads : (past : List Entry) (actor : Actor) (k : ℕ) (actions : List Action) (l : Lock)
    → actor.thread ≢ k
    → holds (recorded past actor actions) k l ≡ holds past k l
other_threads past actor k [] l apart = refl
other_threads past actor k (action ∷ actions) l apart =
    let one : holds (entry past actor action ∷ past) k l ≡ holds past k l =
    rw (ne_eqb actor.thread k apart)
    (ap ends_held (other_holds action l (lock_acts past k l))) in
    other_threads (entry past actor action ∷ past) actor k actions l apart ∙ one

module _ (set : Set) (states : States) (issued : ℕ) (l : Lock) where
  -- of frames on frames only the top one says locks
  says_top : (below : List Frame) (f : Frame) (frames : List Frame)
      → top_says states (below ++ f ∷ frames) l ≡ top_says states (f ∷ frames) l
  says_top [] f frames = refl
  says_top (g ∷ []) f frames = refl
  says_top (g ∷ e ∷ below) f frames = says_top (e ∷ below) f frames

  below_says : (f g : Frame) → Stands set states issued (Some f) g → frame_says states g l ≡ false
  below_says (Walk n) (Routine a) h = free_says (state_of states a) a.device l h.1
  below_says (Routine b) (Routine a) h = free_says (state_of states a) a.device l h.1
  below_says (Routine b) (Walk m) h = refl
  below_says _ _ h = absurd h

  says_below : (below : List Frame) (f : Frame) (above : List Frame)
      → Stacked set states issued (below ++ f ∷ above)
      → top_says states below l ≡ false
  says_below [] f above h = refl
  says_below (g ∷ []) f [] h = below_says f g h.0
  says_below (g ∷ []) f (e ∷ above) h = below_says f g h.0
  says_below (g ∷ e ∷ below) f above h = says_below (e ∷ below) f above h.1

  -- a frame that is told something says the same
  answered_says : (a : Activation) (status : Status) (r : Option ℕ)
      → frame_says states (Routine (answered_in a status r)) l ≡ frame_says states (Routine a) l
  answered_says a status None = refl
  answered_says a status (Some r) = refl

  frame_told : (told : Option Status) (f : Frame) → frame_says states (told_frame set told f) l
      ≡ frame_says states f l
  frame_told None (Routine a) = refl
  frame_told None (Walk n) = refl
  frame_told (Some status) (Walk n) = refl
  frame_told None (CancelFrame c) = refl
  frame_told (Some status) (CancelFrame c) = refl
  frame_told (Some status) (Routine a) =
      answered_says a status (operand_of (instruction_at set a.driver a.routine (a.position - 1)))

  last_says : (told : Option Status) (below : List Frame)
      → top_says states (told_last set told below) l ≡ top_says states below l
  last_says told [] = refl
  last_says told (f ∷ []) = frame_told told f
  last_says told (f ∷ g ∷ []) = last_says told (g ∷ [])
  last_says told (f ∷ g ∷ e ∷ below) = last_says told (g ∷ e ∷ below)

  says_after : (below : List Frame) (f : Frame) (told : Option Status) (frames : List Frame)
      → Stacked set states issued (below ++ f ∷ [])
      → top_says states (told_last set told below ++ frames) l ≡ top_says states frames l
  says_after below f told [] h = rw append-nil (last_says told below ∙ says_below below f [] h)
  says_after below f told (g ∷ frames) h = says_top (told_last set told below) g frames

-- every event keeps that, and has no bug check about locks
module _ (set : Set) (states : States) (w : World) (past : List Entry) (good : IsGood set states)
    (stands : Standing set states w past) (agree : LocksAgree states w past) where
  own_top : (t : ℕ) (h : StepsFrame set w t) (l : Lock)
      → holds past t l ≡ frame_says states h.frame l
  own_top t h l =
      agree t l
      ∙ ap (λ (frames : List Frame). top_says states frames l) (frames_there w t h.thread h.found
      ∙ h.frames)
      ∙ says_top set states w.shared.issued l h.below h.frame []

  -- the threads after another stands in place of one
  agree_after : (actor : Actor) (actions : List Action) (s : Shared) (thread after : Thread)
      → slice_get w.threads actor.thread ≡ Some thread
      → ((l : Lock) → holds (recorded past actor actions) actor.thread l ≡ top_says states
      after.frames.items l)
      → LocksAgree states (with_thread w actor.thread s after) (recorded past actor actions)
  agree_after actor actions s thread after found own =
      each_frames w actor.thread s after
      (λ k frames. (l : Lock) → holds (recorded past actor actions) k l ≡ top_says states frames l)
      thread found own
      (λ k apart l. other_threads past actor k actions l apart ∙ agree k l)

  -- the thread that steps: those of the frames in place of the one that ran, or none where none is,
  -- as the frame below then says none
  stepped_locks : (actor : Actor) (h : StepsFrame set w actor.thread) (l : Lock)
      → holds (recorded past actor h.outcome.actions) actor.thread l
      ≡ top_says states (standing set h.below h.outcome) l
  stepped_locks actor h l =
      let o : Outcome = h.outcome in
      let stacked : Stacked set states w.shared.issued (h.below ++ h.frame ∷ []) =
      stands_there set states w past good stands actor.thread h in
      let now : holds (recorded past actor o.actions) actor.thread l ≡ top_says states o.frames l =
      own set states w.shared past actor (top_of h.below) h.frame o
      (on_top set states w past good stands actor.thread h) (own_top actor.thread h) h.comes l in
      elim (stood set w.shared actor.thread h.below h.frame o h.comes) [
        | inl kept ↦
            now ∙ sym (says_after set states w.shared.issued l h.below h.frame o.told o.frames
            stacked)
            ∙ ap (λ (frames : List Frame). top_says states frames l)
            (sym (kept ∙ ap (λ (below : List Frame). below ++ o.frames)
            (told_is set h.below o.told)))
        | inr gone ↦
            now ∙ ap (λ (frames : List Frame). top_says states frames l) gone.frames
            ∙ sym (says_below set states w.shared.issued l gone.others (Walk gone.n) (h.frame ∷ [])
            (subst (λ (frames : List Frame). Stacked set states w.shared.issued frames)
            (ap (λ (below : List Frame). below ++ h.frame ∷ []) gone.below_is
            ∙ append_assoc gone.others (Walk gone.n ∷ []) (h.frame ∷ [])) stacked))
            ∙ ap (λ (frames : List Frame). top_says states frames l) (sym gone.stands)
      ]

  root_says : {issued : ℕ} {level : Irql} {f : Frame} (l : Lock)
      → RootFrame set states issued level f → frame_says states f l ≡ false
  root_says {issued = issued} {level = level} l (root_enters a sort first root enters) =
      begun_says set states issued a sort first l enters (root_free level sort _ root)
  root_says l (root_cancels n low) = refl

  pub locks_kept : (actor : Actor) (c : Change) → Happens set w actor.thread c
      → LocksAgree states c.world (recorded past actor c.actions)
  locks_kept actor c (nothing reply right) = agree
  locks_kept actor c (steps h) =
      agree_after actor h.outcome.actions h.outcome.shared h.thread
      (with_stack h.thread (standing set h.below h.outcome)) h.found (stepped_locks actor h)
  locks_kept actor c (begins i root beside) =
      agree_after actor root.actions root.shared i.thread (with_root i.thread root) i.found
      (λ l. root_told set w.shared
      (λ actions. holds (recorded past actor actions) actor.thread l ≡ holds past actor.thread l)
      refl (λ n stack. refl) root beside
      ∙ agree actor.thread l
      ∙ ap (λ (frames : List Frame). top_says states frames l)
      (frames_there w actor.thread i.thread i.found ∙ i.idle)
      ∙ sym (root_says l (root_there set states w past good stands root beside)))

  pub lock_faults_none : (actor : Actor) → actor.root ≡ root_of (slice_get w.threads actor.thread)
      → (h : StepsFrame set w actor.thread)
      → fault_among is_of_locks past actor h.outcome.actions ≡ None
  lock_faults_none actor root h =
      lock_faults set states w.shared past actor (top_of h.below) h.frame h.outcome
      (subst (λ (level : Irql). Low set level h.frame) (sym (root ∙ ap root_of h.found))
      (low_there set states w past good stands actor.thread h))
      (on_top set states w past good stands actor.thread h) (own_top actor.thread h) h.comes

-- before the first event
pub locks_begun : (set : Set) (states : States) (threads : ℕ)
    → LocksAgree states (begun set threads).world []
locks_begun set states threads t l =
    ap (λ (frames : List Frame). top_says states frames l) (sym (idle_frames threads t))
