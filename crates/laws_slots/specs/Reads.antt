-- When a world of words is read as a world of slots, and so means a world.
use Rattle.std.specs.Prelude.{ℕ, ◌≡◌, ⊤, List, [], ◌∷◌}
use Rattle.model.specs.declared.world.Activation.{Activation}
use Rattle.model.specs.declared.world.CancelStep.{CancelStep}
use Rattle.model.specs.declared.world.Value.{Value}
use Rattle.model.specs.declared.world.Value.TheVariants.{Blank, Num, Ref, Status as StatusValue}
use Rattle.model.specs.Set.{Set}
use Rattle.model.specs.Status.{status_code}
use Rattle.model.specs.World.{World}
use Rattle.laws_slots.specs.Rep.{Means}
use Rattle.laws_slots.specs.Slots.{SlotCancel, SlotFrame, SlotRoutine, SlotThread, SlotWalk, SlotWorld}
use Rattle.laws_slots.specs.declared.activation.WordActivation.{WordActivation}
use Rattle.laws_slots.specs.Words.{WordCancel, WordFrame, WordRoutine, WordThread, WordWalk, WordWorld}

-- a word is read as a value: a number is itself, a status its 32-bit value, a packet the key of its
-- slot, and nothing may be any word
abbrev pub ReadsValue : Value → ℕ → Type 0
ReadsValue Blank n = ⊤
ReadsValue (Num m) n = n ≡ m
ReadsValue (Ref k) n = n ≡ k
ReadsValue (StatusValue status) n = n ≡ status_code status

-- two lists are of the same length, and what stands at a place of the one belongs to what stands
-- there in the other
abbrev pub Paired : {A B : Type 0} → (A → B → Type 0) → List A → List B → Type 0
Paired R [] [] = ⊤
Paired R [] (y ∷ ys) = ⊥
Paired R (x ∷ xs) [] = ⊥
Paired R (x ∷ xs) (y ∷ ys) = R x y × Paired R xs ys

-- a routine's activation with words in its registers
abbrev pub in_words : Activation → List ℕ → WordActivation
in_words a words =
    record {
      driver = a.driver;
      routine = a.routine;
      device = a.device;
      position = a.position;
      loops = a.loops;
      registers = words;
    }

-- a routine is read as one: each register is read, and all else is the same
pub record ReadsRoutine (a : Activation) (x : WordActivation) : Type 0 where
  pub rest : x ≡ in_words a x.registers
  pub registers : Paired ReadsValue a.registers x.registers

-- the I/O manager cancels the same packet, at the same step
pub record SameCancel (k n : ℕ) (step : CancelStep) (j m : ℕ) (other : CancelStep) : Type 0 where
  pub key : j ≡ k
  pub number : m ≡ n
  pub next : other ≡ step

abbrev pub ReadsFrame : SlotFrame → WordFrame → Type 0
ReadsFrame (SlotRoutine a) (WordRoutine x) = ReadsRoutine a x
ReadsFrame (SlotRoutine a) (WordWalk j) = ⊥
ReadsFrame (SlotRoutine a) (WordCancel j m other) = ⊥
ReadsFrame (SlotWalk k) (WordRoutine x) = ⊥
ReadsFrame (SlotWalk k) (WordWalk j) = j ≡ k
ReadsFrame (SlotWalk k) (WordCancel j m other) = ⊥
ReadsFrame (SlotCancel k n step) (WordRoutine x) = ⊥
ReadsFrame (SlotCancel k n step) (WordWalk j) = ⊥
ReadsFrame (SlotCancel k n step) (WordCancel j m other) = SameCancel k n step j m other

pub record ReadsThread (thread : SlotThread) (x : WordThread) : Type 0 where
  pub root : x.root ≡ thread.root
  pub frames : Paired ReadsFrame thread.frames x.frames

-- a world of words is read as a world of slots
pub record ReadsWorld (v : SlotWorld) (w : WordWorld) : Type 0 where
  pub threads : Paired ReadsThread v.threads w.threads
  pub shared : w.shared ≡ v.shared

-- a world of words means a world: that of slots which it is read as
pub record WordsMean (set : Set) (w : WordWorld) (world : World) : Type 0 where
  pub slots : SlotWorld
  pub reads : ReadsWorld slots w
  pub means : Means set slots world
