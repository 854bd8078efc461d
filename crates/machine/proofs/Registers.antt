-- The words of a routine on the top of a thread, by what is shown of its registers.
use Rattle.std.proofs.Common.{◌≡◌, ◌-◌, ℕ, zero, suc, List, [], ◌∷◌, Option, None, Some, length, map, refl, sym, ◌∙◌, ap, arith, inl, inr}
use Rattle.std.specs.Prelude.{nat_eq, option_map, slice_get, if◌then◌else◌}
use Rattle.std.proofs.lemmas.Bool.Decides.{eqb_tells}
use Rattle.std.proofs.lemmas.List.{length-map}
use Rattle.model.specs.declared.status.Status.{Status}
use Rattle.model.specs.declared.status.Status.TheVariants.{Success, Pending, Busy, Unsuccessful, InvalidParameter, InvalidDeviceRequest, Cancelled}
use Rattle.model.specs.declared.world.Activation.{Activation}
use Rattle.model.specs.declared.world.Frame.{Frame}
use Rattle.model.specs.declared.world.Frame.TheVariants.{Routine, Walk, Cancel as CancelFrame}
use Rattle.model.specs.declared.world.Thread.{Thread}
use Rattle.model.specs.Effect.{top_of}
use Rattle.model.specs.Set.{Set}
use Rattle.model.specs.Shown.{Shown, ShowsFrame, ShowsFrames, ShowsThreads, ShownCancel, ShownFrame, ShownRegister, ShownRoutine, ShownThread, ShownWalk}
use Rattle.model.specs.Status.{status_code}
use Rattle.model.specs.World.{Shared, World}
use Rattle.machine.proofs.Walking.{top_above}
use Rattle.machine.specs.Registers.{routine_of_frame, routine_of_thread}
use Rattle.laws_slots.proofs.Words.{map_get}
use Rattle.laws_slots.specs.Rep.{named}
use Rattle.laws_slots.specs.ShownWords.{shown_frame, shown_thread, shown_word, shown_words, words_at, words_of_frame, words_of_thread}
use Rattle.laws_slots.specs.Words.{WordCancel, WordFrame, WordRoutine, WordThread, WordWalk, WordWorld, coded_status}
use Rattle.laws_slots.specs.WordStep.{top_frame}

-- the registers that are shown of the routine on the top of a thread, if one stands there
abbrev pub registers_of_frame : Option ShownFrame → Option (List ShownRegister)
registers_of_frame None = None
registers_of_frame (Some (ShownRoutine a)) = Some a.registers
registers_of_frame (Some (ShownWalk n)) = None
registers_of_frame (Some (ShownCancel c)) = None

abbrev pub registers_of_thread : Option ShownThread → Option (List ShownRegister)
registers_of_thread None = None
registers_of_thread (Some thread) =
    registers_of_frame (slice_get thread.frames (length thread.frames - 1))

abbrev pub registers_at : Shown → ℕ → Option (List ShownRegister)
registers_at m t = registers_of_thread (slice_get m.threads t)

-- a word that is read as a status is its 32-bit value
coded_or : (n : ℕ) (one : Status) (others : Option Status) (status : Status)
    → (others ≡ Some status → n ≡ status_code status)
    → (if nat_eq n (status_code one) then Some one else others) ≡ Some status
    → n ≡ status_code status
coded_or n one others status below h =
    elim (eqb_tells n (status_code one)) [
      | inl same ↦
          let is : Some one ≡ Some status = rw same.0 at h in
          let one_is : one ≡ status = cc in
          same.1 ∙ ap status_code one_is
      | inr apart ↦ below (rw apart.0 at h)
    ]

no_status : (n : ℕ) (status : Status) → None ≡ Some status → n ≡ status_code status
no_status n status h = cc

pub status_is : (n : ℕ) (status : Status) → coded_status n ≡ Some status → n ≡ status_code status
status_is n status =
    coded_or n Success _ status
    (coded_or n Pending _ status
    (coded_or n Busy _ status
    (coded_or n Unsuccessful _ status
    (coded_or n InvalidParameter _ status
    (coded_or n InvalidDeviceRequest _ status
    (coded_or n Cancelled None status (no_status n status)))))))

last_map : {A B : Type 0} (f : A → B) (xs : List A)
    → slice_get (map f xs) (length (map f xs) - 1) ≡ option_map f (slice_get xs (length xs - 1))
last_map f xs = rw (length-map xs f) (map_get f xs (length xs - 1))

pub unmapped : {A B : Type 0} (f : A → B) (o : Option A) → option_map f o ≡ None → o ≡ None
unmapped f None h = refl
unmapped f (Some x) h = cc

module _ (name : ℕ → ℕ) where
  frame_registers : (o : Option WordFrame)
      → registers_of_frame (option_map (shown_frame name) o)
      ≡ option_map (map (shown_word name)) (words_of_frame o)
  frame_registers None = refl
  frame_registers (Some (WordRoutine a)) = refl
  frame_registers (Some (WordWalk k)) = refl
  frame_registers (Some (WordCancel k n step)) = refl

  thread_registers : (o : Option WordThread)
      → registers_of_thread (option_map (shown_thread name) o)
      ≡ option_map (map (shown_word name)) (words_of_thread o)
  thread_registers None = refl
  thread_registers (Some thread) =
      ap registers_of_frame (last_map (shown_frame name) thread.frames)
      ∙ frame_registers (top_frame thread.frames)

-- what is shown of the registers of a routine is what is shown of its words
pub registers_shown : (set : Set) (w : WordWorld) (t : ℕ)
    → registers_at (shown_words set w) t
    ≡ option_map (map (shown_word (named w.shared))) (words_at w t)
registers_shown set w t =
    ap registers_of_thread (map_get (shown_thread (named w.shared)) w.threads t)
    ∙ thread_registers (named w.shared) (slice_get w.threads t)

-- where no routine stands on the top of a thread, none is shown
last_above : {A : Type 0} (x y : A) (xs : List A)
    → slice_get (x ∷ y ∷ xs) (length (x ∷ y ∷ xs) - 1) ≡ slice_get (y ∷ xs) (length (y ∷ xs) - 1)
last_above x y xs =
    let more : length (x ∷ y ∷ xs) - 1 ≡ suc (length (y ∷ xs) - 1) = omega arith in rw more refl

module _ (set : Set) (s : Shared) where
  top_none : (x : ShownFrame) (above : Option Frame) (f : Frame) → ShowsFrame set s above x f
      → routine_of_frame (Some f) ≡ None → registers_of_frame (Some x) ≡ None
  top_none (ShownRoutine x) above (Routine a) h empty = cc
  top_none (ShownRoutine x) above (Walk n) h empty = absurd h
  top_none (ShownRoutine x) above (CancelFrame c) h empty = absurd h
  top_none (ShownWalk m) above f h empty = refl
  top_none (ShownCancel b) above f h empty = refl

  frames_none : (xs : List ShownFrame) (frames : List Frame) → ShowsFrames set s xs frames
      → routine_of_frame (top_of frames) ≡ None
      → registers_of_frame (slice_get xs (length xs - 1)) ≡ None
  frames_none [] [] h empty = refl
  frames_none [] (f ∷ frames) h empty = absurd h
  frames_none (x ∷ xs) [] h empty = absurd h
  frames_none (x ∷ []) (f ∷ []) h empty = top_none x None f h.0 empty
  frames_none (x ∷ []) (f ∷ g ∷ frames) h empty = absurd h.1
  frames_none (x ∷ y ∷ xs) (f ∷ []) h empty = absurd h.1
  frames_none (x ∷ y ∷ xs) (f ∷ g ∷ frames) h empty =
      ap registers_of_frame (last_above x y xs)
      ∙ frames_none (y ∷ xs) (g ∷ frames) h.1
      (ap routine_of_frame (sym (top_above f g frames)) ∙ empty)

  pub threads_none : (xs : List ShownThread) (threads : List Thread) (t : ℕ)
      → ShowsThreads set s xs threads → routine_of_thread (slice_get threads t) ≡ None
      → registers_of_thread (slice_get xs t) ≡ None
  threads_none [] threads t h empty = refl
  threads_none (x ∷ xs) [] t h empty = absurd h
  threads_none (x ∷ xs) (thread ∷ threads) zero h empty =
      frames_none x.frames thread.frames.items h.0.1 empty
  threads_none (x ∷ xs) (thread ∷ threads) (suc t) h empty = threads_none xs threads t h.1 empty

-- a routine that stands on the top of a thread
pub record StandsOn (w : World) (t : ℕ) (a : Activation) : Type 0 where
  pub thread : Thread
  pub there : slice_get w.threads t ≡ Some thread
  pub top : top_of thread.frames.items ≡ Some (Routine a)

routine_is : (o : Option Frame) (a : Activation) → routine_of_frame o ≡ Some a
    → o ≡ Some (Routine a)
routine_is None a h = cc
routine_is (Some (Routine b)) a h =
    let same : b ≡ a = cc in ap (λ (c : Activation). Some (Routine c)) same
routine_is (Some (Walk n)) a h = cc
routine_is (Some (CancelFrame c)) a h = cc

pub stands_on : (w : World) (t : ℕ) (o : Option Thread) (a : Activation)
    → slice_get w.threads t ≡ o → routine_of_thread o ≡ Some a → StandsOn w t a
stands_on w t None a there h = cc
stands_on w t (Some thread) a there h =
    record { thread = thread; there = there; top = routine_is (top_of thread.frames.items) a h }
