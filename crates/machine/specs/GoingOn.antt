-- Steps of a thread that are made one after another.
use Rattle.std.specs.Prelude.{ℕ, ◌≡◌, ◌++◌, ◌∷◌, [], zero, suc, List, Option}
use Rattle.model.specs.declared.event.Reply.{Reply}
use Rattle.laws_slots.specs.declared.activation.WordActivation.{WordActivation}
use Rattle.model.specs.Set.{Set}
use Rattle.laws_slots.specs.WordsFit.{WordRoutineFits}
use Rattle.laws_slots.specs.WordStep.{frame_step, goes_on, word_step, top_frame}
use Rattle.laws_slots.specs.Words.{WordFrame, WordRoutine, WordThread, WordWorld}
use Rattle.laws_slots.specs.Slots.{SlotShared}

-- the world after so many steps of a thread, and the reply to the one after these
abbrev pub after : Set → WordWorld → ℕ → ℕ → WordWorld
after set v t zero = v
after set v t (suc k) = (word_step set (after set v t k) t).world

abbrev pub reply_after : Set → WordWorld → ℕ → ℕ → Reply
reply_after set v t k = (word_step set (after set v t k) t).reply

-- a routine on top has gone on by itself so many steps: what is shared has stayed
pub data Goes (set : Set) (s : SlotShared) (t : ℕ) (under : Option WordFrame) (a : WordActivation)
    : ℕ → WordActivation → Type 0 where
  stays : Goes set s t under a 0 a
  steps : (k : ℕ) (b c : WordActivation) → Goes set s t under a k b
      → goes_on s c ≡ frame_step set s t under (WordRoutine b)
      → Goes set s t under a (suc k) c

-- a frame that has gone on by itself so many steps, where it is a routine's, or has stayed
pub data FrameGoes (set : Set) (s : SlotShared) (t : ℕ) (under : Option WordFrame) (f : WordFrame)
    : ℕ → WordFrame → Type 0 where
  frame_rests : FrameGoes set s t under f 0 f
  frame_runs : (a b : WordActivation) (k : ℕ) → f ≡ WordRoutine a → Goes set s t under a k b
      → FrameGoes set s t under f k (WordRoutine b)

-- a thread on whose top a routine has gone on by itself so many steps, or which has stayed
pub data GoesOn (set : Set) (s : SlotShared) (t : ℕ) (x : WordThread) : ℕ → WordThread → Type 0 where
  rests : GoesOn set s t x 0 x
  runs : (below : List WordFrame) (a b : WordActivation) (k : ℕ)
      → x.frames ≡ below ++ WordRoutine a ∷ [] → Goes set s t (top_frame below) a k b
      → GoesOn set s t x k (record x { frames = below ++ WordRoutine b ∷ [] })

-- a routine on top, and each that it becomes by itself, has what it looks for
abbrev pub GoingOnFits : Set → SlotShared → ℕ → WordThread → Type 0
GoingOnFits set s t x =
    (below : List WordFrame) (a b : WordActivation) (k : ℕ)
    → x.frames ≡ below ++ WordRoutine a ∷ [] → Goes set s t (top_frame below) a k b
    → WordRoutineFits set s t b
