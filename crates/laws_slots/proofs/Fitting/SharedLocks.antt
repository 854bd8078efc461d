-- The lock that a routine takes or frees is there, and its thread doesn't own the one it takes; nor
-- the system cancel spin lock, where the I/O manager takes that to cancel a packet.
use Rattle.std.proofs.Common.{◌≡◌, ℕ, List, None, Some, true, false, refl, sym, ◌∙◌, ap}
use Rattle.std.specs.Prelude.{slice_get}
use Rattle.model.specs.declared.event.Event.{Event}
use Rattle.model.specs.declared.event.Lock.{Lock}
use Rattle.model.specs.declared.event.Lock.TheVariants.{SystemCancel}
use Rattle.model.specs.declared.instr.Instr.{Instr}
use Rattle.model.specs.declared.instr.Instr.TheVariants.{Release, ReleaseCancel}
use Rattle.model.specs.declared.world.Activation.{Activation}
use Rattle.model.specs.declared.world.CancelStep.TheVariants.{Acquire as AcquireStep}
use Rattle.model.specs.declared.world.Canceller.{Canceller}
use Rattle.model.specs.declared.world.Frame.{Frame}
use Rattle.model.specs.declared.world.Frame.TheVariants.{Routine, Walk, Cancel as CancelFrame}
use Rattle.model.specs.Run.{run}
use Rattle.model.specs.Set.{Set, instruction_at}
use Rattle.model.specs.Sound.{IsSound}
use Rattle.model.specs.Typable.{IsTypable}
use Rattle.model.specs.World.{Locks, owner_of}
use Rattle.laws_runs.proofs.Alike.Frames.{AlikeFrame}
use Rattle.laws_runs.proofs.Locks.Says.{cancelling_says, frame_says}
use Rattle.laws_runs.proofs.Runs.Events.{StepsFrame}
use Rattle.laws_runs.proofs.Steps.Comes.{none_freed, none_taken}
use Rattle.laws_runs.proofs.Steps.Words.{lock_freed, lock_taken}
use Rattle.laws_slots.proofs.Finding.{alike, good, keeps, run_steps}
use Rattle.laws_slots.proofs.Fitting.SharedCells.{is_found}
use Rattle.laws_slots.proofs.Fitting.SharedTop.{Executed, TopsRun, executed, finds_all, known, past, tops_run, world}
use Rattle.laws_slots.proofs.Threads.{lock_same, takes_free}
use Rattle.laws_slots.specs.Fits.{CanAcquire, HasLock}
use Rattle.laws_slots.specs.Rep.{Means, meant_frame, named}
use Rattle.laws_slots.specs.SlotStep.{top_frame}
use Rattle.laws_slots.specs.Slots.{SlotCancel, SlotRoutine, SlotThread, SlotWorld}

freed_same : (a c : Activation) → a.device ≡ c.device → (i : Instr)
    → lock_freed a i ≡ lock_freed c i
freed_same a c is (Release lock) = rw is refl
freed_same a c is ReleaseCancel = refl
freed_same a c is _ = refl

module _ (set : Set) (typable : IsTypable set) (sound : IsSound set) (threads : ℕ)
    (events : List Event) (v : SlotWorld) (rep : Means set v (run set threads events).world)
    (t : ℕ) (x : SlotThread) (found : slice_get v.threads t ≡ Some x) where
  abbrev locks : Locks
  locks = (run set threads events).world.shared.locks

  -- a lock of the slots is one of the run
  owner_same : (lock : Lock) → owner_of v.shared.locks lock ≡ owner_of locks lock
  owner_same lock = ap (λ (l : Locks). owner_of l lock) rep.shared.locks

  module _ (a : Activation) (top : top_frame x.frames ≡ Some (SlotRoutine a)) (i : Instr)
      (at : instruction_at set a.driver a.routine a.position ≡ Some i) where
    abbrev e : Executed set typable sound threads events v rep t x found a i
    e = executed set typable sound threads events v rep t x found a i top at

    pub can_acquire : (lock : Lock) → lock_taken a i ≡ Some lock → CanAcquire v.shared t lock
    can_acquire lock takes =
        record {
          there = rw (owner_same lock)
              (is_found (owner_of locks lock)
              (λ none. finds_all set typable sound threads events v rep t x found a i e
              (none_taken i lock e.at (lock_same e.routine a e.device i ∙ takes) none)));
          once = λ own.
              takes_free set (known set typable sound threads events v rep t x found) threads
              (world set typable sound threads events v rep t x found)
              (past set typable sound threads events v rep t x found)
              (good set typable sound threads events v rep t x found)
              (keeps set typable sound threads events v rep t x found) v rep.shared rep.order
              rep.cancels (alike set typable sound threads events v rep t x found) t None a
              e.routine e.like e.tops i at lock takes (sym (owner_same lock) ∙ own);
        }

    pub has_lock : (lock : Lock) → lock_freed a i ≡ Some lock → HasLock v.shared lock
    has_lock lock frees =
        rw (owner_same lock)
        (is_found (owner_of locks lock)
        (λ none. finds_all set typable sound threads events v rep t x found a i e
        (none_freed i lock e.at (freed_same e.routine a e.device i ∙ frees) none)))

  -- the I/O manager's frame that takes the system cancel spin lock to cancel a packet has it not
  takes_first : (n : ℕ) (f : Frame)
      → AlikeFrame set (known set typable sound threads events v rep t x found)
      (world set typable sound threads events v rep t x found).shared None
      (CancelFrame (record { packet = n; next = AcquireStep })) f
      → frame_says (known set typable sound threads events v rep t x found) f SystemCancel ≡ false
  takes_first n (CancelFrame c) like =
      ap (λ (y : Canceller). cancelling_says y.next SystemCancel) (sym like)
  takes_first n (Routine c) like = absurd like
  takes_first n (Walk m) like = absurd like

  pub cancel_can_acquire : (k n : ℕ) → top_frame x.frames ≡ Some (SlotCancel k n AcquireStep)
      → CanAcquire v.shared t SystemCancel
  cancel_can_acquire k n is =
      record {
        there = refl;
        once = λ own.
            let steps : (h : StepsFrame set (run set threads events).world t)
            × AlikeFrame set (known set typable sound threads events v rep t x found)
            (run set threads events).world.shared None
            (meant_frame (named v.shared) (SlotCancel k n AcquireStep)) h.frame =
            run_steps set typable sound threads events v rep t x found (SlotCancel k n AcquireStep)
            is in
            let tops : TopsRun set typable sound threads events v rep t x found steps.0.frame =
            tops_run set typable sound threads events v rep t x found steps.0 in
            let no : true ≡ false =
            sym (tops.says SystemCancel (sym (owner_same SystemCancel) ∙ own))
            ∙ takes_first n steps.0.frame steps.1 in
            cc;
      }
