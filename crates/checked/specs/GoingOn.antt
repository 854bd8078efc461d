-- Steps of a thread whose top routine goes on by itself.
use Rattle.std.specs.Prelude.{ℕ, ◌≡◌, ◌++◌, ◌∷◌, ◌⊎◌, ◌&&◌, [], suc, nat_eq, Bool, true, false, List, Option, None, Some, slice_get}
use Rattle.model.specs.declared.event.Event.TheVariants.{Step}
use Rattle.model.specs.declared.event.Place.{Place}
use Rattle.model.specs.declared.event.Reply.TheVariants.{Stepped}
use Rattle.model.specs.declared.instr.Instr.{Instr}
use Rattle.model.specs.declared.world.Activation.{Activation}
use Rattle.model.specs.declared.world.Frame.{Frame}
use Rattle.model.specs.declared.world.Frame.TheVariants.{Routine}
use Rattle.model.specs.declared.world.Thread.{Thread}
use Rattle.model.specs.Effect.{Outcome, frame_effect, goes_on, goes_wrong, instruction_effect}
use Rattle.model.specs.Events.{with_thread}
use Rattle.model.specs.Machine.{AppliesWhole, Machine}
use Rattle.model.specs.Set.{Set}
use Rattle.model.specs.World.{Shared, World}

-- it is an activation of the same routine on the same device
pub record SameRoutine (a b : Activation) : Type 0 where
  pub driver : b.driver ≡ a.driver
  pub routine : b.routine ≡ a.routine
  pub device : b.device ≡ a.device

-- an instruction with this outcome was made, whatever is shared: that stays. Or it is wrong there,
-- and the activation stays
abbrev pub Makes : Activation → (Shared → Outcome) → Activation → Bool → Type 0
Makes a o b true = ((s : Shared) → o s ≡ goes_on s b []) × SameRoutine a b
Makes a o b false = ((s : Shared) → o s ≡ goes_wrong s a) × (b ≡ a)

-- what an instruction of the one does is that it becomes the other, whatever is shared, whoever
-- runs, and over whatever frame
abbrev pub MakesAlone : Set → Instr → Activation → Activation → Type 0
MakesAlone set i a b =
    (s : Shared) (t : ℕ) (under : Option Frame)
    → instruction_effect set s t under a i ≡ goes_on s b []

-- a step of the one is that it becomes the other, likewise
pub record GoesAlone (set : Set) (a b : Activation) : Type 0 where
  pub goes : (s : Shared) (t : ℕ) (under : Option Frame)
      → frame_effect set s t under (Routine a) ≡ goes_on s b []
  pub same : SameRoutine a b

-- the instruction at this place is its next one, if a place is given
abbrev pub is_there : Option Place → Activation → Bool
is_there None a = false
is_there (Some place) a =
    nat_eq a.position place.position && nat_eq a.routine place.routine
    && nat_eq a.driver place.driver

-- it can't go on by itself, unless it is there: its next instruction may change anything but it, or
-- is wrong there, or there is none
abbrev pub RoutineGoesNoFurther : Option Place → Set → Activation → Type 0
RoutineGoesNoFurther until set a =
    (b : Activation) → GoesAlone set a b → is_there until a ≡ true

-- a routine has gone on by itself so many steps, and before none of them was it there
pub data RoutineGoes (until : Option Place) (set : Set) (a : Activation)
    : ℕ → Activation → Type 0 where
  stays : RoutineGoes until set a 0 a
  steps : (k : ℕ) (b c : Activation) → RoutineGoes until set a k b → is_there until b ≡ false
      → GoesAlone set b c → RoutineGoes until set a (suc k) c

-- a frame that has gone on by itself so many steps, where it is a routine's, or has stayed
pub data FrameGoes (until : Option Place) (set : Set) (f : Frame) : ℕ → Frame → Type 0 where
  frame_rests : FrameGoes until set f 0 f
  frame_runs : (a b : Activation) (k : ℕ) → f ≡ Routine a → RoutineGoes until set a k b
      → FrameGoes until set f k (Routine b)

-- a frame that can't go on by itself, unless it is there: it is no routine's, or that can't
abbrev pub FrameGoesNoFurther : Option Place → Set → Frame → Type 0
FrameGoesNoFurther until set f =
    (a : Activation) → f ≡ Routine a → RoutineGoesNoFurther until set a

-- a thread with these frames, and a routine on top
abbrev pub with_top : Thread → List Frame → Activation → Thread
with_top x below a = record x { frames = record { items = below ++ Routine a ∷ [] } }

-- a thread on whose top a routine has gone on by itself so many steps, or which has stayed
pub data ThreadGoes (until : Option Place) (set : Set) (x : Thread) : ℕ → Thread → Type 0 where
  rests : ThreadGoes until set x 0 x
  runs : (below : List Frame) (a b : Activation) (k : ℕ)
      → x.frames.items ≡ below ++ Routine a ∷ [] → RoutineGoes until set a k b
      → ThreadGoes until set x k (with_top x below b)

-- a thread on whose top no routine stands that can go on by itself, unless it is there
abbrev pub ThreadGoesNoFurther : Option Place → Set → Thread → Type 0
ThreadGoesNoFurther until set x =
    (below : List Frame) (a : Activation)
    → x.frames.items ≡ below ++ Routine a ∷ [] → RoutineGoesNoFurther until set a

-- a world on whose thread a routine has gone on by itself so many steps, or which has stayed
pub data WorldGoes (until : Option Place) (set : Set) (w : World) (t : ℕ)
    : ℕ → World → Type 0 where
  world_rests : WorldGoes until set w t 0 w
  world_runs : (x y : Thread) (k : ℕ) → slice_get w.threads t ≡ Some x
      → ThreadGoes until set x k y → WorldGoes until set w t k (with_thread w t w.shared y)

-- the world after such a step of a thread: nothing but the activation on its top is another
pub record StepsAlone (set : Set) (w : World) (t : ℕ) (v : World) : Type 0 where
  pub thread : Thread
  pub below : List Frame
  pub before : Activation
  pub now : Activation
  pub there : slice_get w.threads t ≡ Some thread
  pub stack : thread.frames.items ≡ below ++ Routine before ∷ []
  pub alone : GoesAlone set before now
  pub left : v ≡ with_thread w t w.shared (with_top thread below now)

-- no step of the thread changes nothing but the activation on its top, unless that is there
abbrev pub WorldGoesNoFurther : Option Place → Set → World → ℕ → Type 0
WorldGoesNoFurther until set w t =
    (v : World) (step : StepsAlone set w t v) → is_there until step.before ≡ true

-- no such step can be made short of a place, if one is given: the machine has stopped, or none of
-- the thread is such a step, or its top is there
abbrev pub GoesNoFurther : Option Place → ℕ → Machine → Type 0
GoesNoFurther until t m = (m.stopped ≡ true) ⊎ WorldGoesNoFurther until m.set m.world t

-- so many steps of a thread are applied, one after another: each replies that the thread stepped,
-- and changes nothing but the activation on its top
pub data GoesOn (t : ℕ) (m : Machine) : ℕ → Machine → Type 0 where
  none : GoesOn t m 0 m
  more : (k : ℕ) (n o : Machine) → GoesOn t m k n → AppliesWhole n (Step t) o Stepped
      → StepsAlone n.set n.world t o.world
      → GoesOn t m (suc k) o

-- such steps, and before each of them the activation on the top wasn't there
pub data GoesUpTo (until : Option Place) (t : ℕ) (m : Machine) : ℕ → Machine → Type 0 where
  here : GoesUpTo until t m 0 m
  nearer : (k : ℕ) (n o : Machine) → GoesUpTo until t m k n → AppliesWhole n (Step t) o Stepped
      → (alone : StepsAlone n.set n.world t o.world) → is_there until alone.before ≡ false
      → GoesUpTo until t m (suc k) o
