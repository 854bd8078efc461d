-- The words that a machine lends of a routine's registers. A word doesn't say what it is. Where
-- something may be taken from its register, the run does: a number, a status by its 32-bit value,
-- or a packet by the slot in which it stands.
use Rattle.std.specs.Prelude.{ℕ, ◌≡◌, ◌<◌, ⊤, List, length, Option, None, Some, slice_get, slice_index_or}
use Rattle.model.specs.declared.event.Event.{Event}
use Rattle.model.specs.declared.limits.TheConstants.{REGISTERS}
use Rattle.model.specs.declared.world.Activation.{Activation}
use Rattle.model.specs.declared.world.Frame.{Frame}
use Rattle.model.specs.declared.world.Frame.TheVariants.{Routine, Walk, Cancel as CancelFrame}
use Rattle.model.specs.declared.world.Thread.{Thread}
use Rattle.model.specs.declared.world.Value.{Value}
use Rattle.model.specs.declared.world.Value.TheVariants.{Blank, Num, Ref, Status as StatusValue}
use Rattle.model.specs.Effect.{top_of}
use Rattle.model.specs.Machine.{Shows}
use Rattle.model.specs.Run.{run}
use Rattle.model.specs.Shown.{MayBeTaken, Shown}
use Rattle.model.specs.Status.{status_code}
use Rattle.model.specs.World.{Shared, World, register}
use Rattle.machine.specs.Runs.{IsShown}
use Rattle.machine.specs.Slots.{IsLive, number_at}

-- what a register has, by its word: nothing may be any word
abbrev pub WordIs : Shown → Shared → ℕ → Value → Type 0
WordIs m s word Blank = ⊤
WordIs m s word (Num n) = word ≡ n
WordIs m s word (StatusValue status) = word ≡ status_code status
WordIs m s word (Ref n) = (number_at m word ≡ Some n) × IsLive s n

-- the routine on the top of a thread of a run's world, if one stands there
abbrev pub routine_of_frame : Option Frame → Option Activation
routine_of_frame None = None
routine_of_frame (Some (Routine a)) = Some a
routine_of_frame (Some (Walk n)) = None
routine_of_frame (Some (CancelFrame c)) = None

abbrev pub routine_of_thread : Option Thread → Option Activation
routine_of_thread None = None
routine_of_thread (Some thread) = routine_of_frame (top_of thread.frames.items)

abbrev pub routine_at : World → ℕ → Option Activation
routine_at w t = routine_of_thread (slice_get w.threads t)

-- there is a word for each register of a routine: it tells what the register has, if an instruction
-- may take something from that
pub record WordsOf (m : Shown) (s : Shared) (a : Activation) (words : Option (List ℕ))
    : Type 0 where
  pub found : List ℕ
  pub is : words ≡ Some found
  pub all : length found ≡ REGISTERS
  pub tells : (r : ℕ) → r < REGISTERS → MayBeTaken m.set None a r
      → WordIs m s (slice_index_or found r 0) (register a r)

-- there are words exactly where a routine stands
abbrev pub WordsOfRoutine : Shown → Shared → Option Activation → Option (List ℕ) → Type 0
WordsOfRoutine m s None words = words ≡ None
WordsOfRoutine m s (Some a) words = WordsOf m s a words

-- it shows some run, and whatever run it shows, these are the words of the routine on the top of a
-- thread
pub record LendsWords (m : Shown) (t : ℕ) (words : Option (List ℕ)) : Type 0 where
  pub shown : IsShown m
  pub tells : (threads : ℕ) (events : List Event) → Shows m threads events
      → WordsOfRoutine m (run m.set threads events).world.shared
      (routine_at (run m.set threads events).world t) words
