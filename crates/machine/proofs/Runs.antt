-- A thread's steps on a world, where its routine goes on by itself.
use Rattle.std.proofs.Common.{◌≡◌, ◌<◌, ℕ, List, [], ◌∷◌, ◌++◌, Some, ap, refl, sym, ◌∙◌, arith, inl, inr, subst, length}
use Rattle.std.specs.Prelude.{slice_get, slice_set}
use Rattle.std.proofs.lemmas.List.{get_or-set_same, length-set, set-set}
use Rattle.std.proofs.lemmas.Option.{slice_get_within, slice_get-get_or}
use Rattle.std.proofs.lemmas.Bool.{cases_lt}
use Rattle.model.specs.declared.event.Reply.TheVariants.{Stepped}
use Rattle.model.specs.declared.event.Event.TheVariants.{Step}
use Rattle.laws_slots.specs.declared.activation.WordActivation.{WordActivation}
use Rattle.model.specs.Set.{Set}
use Rattle.laws_runs.proofs.Lists.{before_last, last_of}
use Rattle.machine_parts.proofs.FrameLists.{set_back}
use Rattle.laws_slots.specs.WordsFit.{WordEventFits, WordRoutineFits}
use Rattle.laws_slots.specs.WordStep.{WordAnswer, frame_step, goes_on, word_step, top_frame}
use Rattle.laws_slots.specs.Words.{WordFrame, WordRoutine, WordThread, WordWorld}
use Rattle.laws_slots.specs.Slots.{SlotShared}
use Rattle.machine.proofs.Stacks.{finished_more, root_more}
use Rattle.machine.specs.GoingOn.{FrameGoes, Goes, GoesOn, after, frame_rests, frame_runs, reply_after, rests, runs, stays, steps}

-- what is written at a place is found there
found_set : (threads : List WordThread) (t : ℕ) (x y : WordThread)
    → slice_get threads t ≡ Some x → slice_get (slice_set threads t y) t ≡ Some y
found_set threads t x y found =
    let within : t < length threads = slice_get_within threads t x found in
    let still : t < length (slice_set threads t y) =
    rw (length-set threads t y) within in
    slice_get-get_or (slice_set threads t y) t y still
    ∙ ap (λ (z : WordThread). Some z) (get_or-set_same threads t y y within)

module _ (set : Set) (v : WordWorld) (t : ℕ) (x : WordThread) (below : List WordFrame)
    (a : WordActivation) (found : slice_get v.threads t ≡ Some x)
    (stack : x.frames ≡ below ++ WordRoutine a ∷ []) where
  abbrev pub thread_of : WordActivation → WordThread
  thread_of b = record x { frames = below ++ WordRoutine b ∷ [] }

  abbrev pub world_of : WordActivation → WordWorld
  world_of b = record v { threads = slice_set v.threads t (thread_of b) }

  abbrev stepped : WordActivation → WordAnswer
  stepped c = record { world = world_of c; reply = Stepped }

  first : world_of a ≡ v
  first =
      ap (λ (threads : List WordThread). record v { threads = threads })
      (ap (λ (frames : List WordFrame). slice_set v.threads t (record x { frames = frames }))
      (sym stack)
      ∙ set_back v.threads t x found)

  -- a step of the routine on top
  one_more : (b c : WordActivation)
      → goes_on v.shared c ≡ frame_step set v.shared t (top_frame below) (WordRoutine b)
      → word_step set (world_of b) t ≡ stepped c
  one_more b c is =
      rw (
        found_set v.threads t x (thread_of b) found,
        last_of below (WordRoutine b),
        before_last below (WordRoutine b),
        ← is,
        root_more x.root below (WordRoutine c) [],
        finished_more below (WordRoutine c) [] Stepped,
        set-set v.threads t (thread_of b) (thread_of c),
      ) refl

  pub after_going : (k : ℕ) (b : WordActivation) → Goes set v.shared t (top_frame below) a k b
      → after set v t k ≡ world_of b
  after_going m e stays = sym first
  after_going m e (steps k b c goes is) =
      ap (λ (w : WordWorld). (word_step set w t).world) (after_going k b goes)
      ∙ ap (λ (o : WordAnswer). o.world) (one_more b c is)

  pub replies_going : (k : ℕ) (b : WordActivation) → Goes set v.shared t (top_frame below) a k b
      → (j : ℕ) → j < k → reply_after set v t j ≡ Stepped
  replies_going m e stays j low = absurd (omega (arith, low))
  replies_going m e (steps k b c goes is) j low =
      elim (cases_lt j k) [
        | inl less ↦ replies_going k b goes j less
        | inr last ↦
            let same : j ≡ k = omega (arith, low, last) in
            ap (λ (i : ℕ). reply_after set v t i) same
            ∙ ap (λ (w : WordWorld). (word_step set w t).reply) (after_going k b goes)
            ∙ ap (λ (o : WordAnswer). o.reply) (one_more b c is)
      ]

  -- each routine that it becomes has what it looks for, if each step of the thread has
  pub fits_going : ((k : ℕ) → WordEventFits set (after set v t k) (Step t))
      → (k : ℕ) (b : WordActivation) → Goes set v.shared t (top_frame below) a k b
      → WordRoutineFits set v.shared t b
  fits_going fits k b goes =
      let at : WordEventFits set (world_of b) (Step t) =
      subst (λ (w : WordWorld). WordEventFits set w (Step t)) (after_going k b goes) (fits k) in
      (at (thread_of b) (found_set v.threads t x (thread_of b) found)).top (WordRoutine b)
      (last_of below (WordRoutine b))

-- what a frame does on top, its thread does
pub thread_goes : (set : Set) (s : SlotShared) (t : ℕ) (x : WordThread) (below : List WordFrame)
    (f g : WordFrame) (k : ℕ) → x.frames ≡ below ++ f ∷ []
    → FrameGoes set s t (top_frame below) f k g
    → GoesOn set s t x k (record x { frames = below ++ g ∷ [] })
thread_goes set s t x below f g k stack frame_rests =
    subst (λ (frames : List WordFrame). GoesOn set s t x 0 (record x { frames = frames })) stack
    rests
thread_goes set s t x below f g k stack (frame_runs a b j is goes) =
    runs below a b j (stack ∙ ap (λ (h : WordFrame). below ++ h ∷ []) is) goes

-- a thread that has gone on in its place leaves the world after so many steps, each of which
-- stepped
module _ (set : Set) (v : WordWorld) (t : ℕ) (x : WordThread)
    (found : slice_get v.threads t ≡ Some x) where
  pub goes_world : (k : ℕ) (y : WordThread) → GoesOn set v.shared t x k y
      → record v { threads = slice_set v.threads t y } ≡ after set v t k
  goes_world m y rests =
      ap (λ (threads : List WordThread). record v { threads = threads })
      (set_back v.threads t x found)
  goes_world m y (runs below a b k stack goes) =
      sym (after_going set v t x below a found stack k b goes)

  pub goes_replies : (k : ℕ) (y : WordThread) → GoesOn set v.shared t x k y
      → (j : ℕ) → j < k → reply_after set v t j ≡ Stepped
  goes_replies m y rests j low = absurd (omega (arith, low))
  goes_replies m y (runs below a b k stack goes) j low =
      replies_going set v t x below a found stack k b goes j low
