-- What a world of words shows: a word may be read as a number, as the status of which it is the
-- value, and as the packet of the slot of which it is the key.
use Rattle.std.specs.Prelude.{ℕ, ◌≡◌, ◌<◌, List, [], length, Option, None, Some, map, option_map, slice_get, slice_index_or}
use Rattle.model.specs.declared.event.Event.{Event}
use Rattle.model.specs.declared.limits.TheConstants.{REGISTERS}
use Rattle.model.specs.declared.world.Activation.{Activation}
use Rattle.model.specs.declared.world.Frame.TheVariants.{Routine}
use Rattle.model.specs.declared.world.Packet.{Packet}
use Rattle.model.specs.declared.world.Thread.{Thread}
use Rattle.model.specs.Effect.{top_of}
use Rattle.model.specs.Run.{run}
use Rattle.model.specs.Set.{Set}
use Rattle.model.specs.Shown.{MayBeTaken, Reads, Shown, ShownActivation, ShownCancel, ShownFrame, ShownRegister, ShownRoutine, ShownThread, ShownWalk, ShowsWorld}
use Rattle.model.specs.Sound.{IsSound}
use Rattle.model.specs.Typable.{IsTypable}
use Rattle.model.specs.World.{World, register}
use Rattle.laws_slots.specs.Rep.{named}
use Rattle.laws_slots.specs.ShownSlots.{shown_slots}
use Rattle.laws_slots.specs.declared.activation.WordActivation.{WordActivation}
use Rattle.laws_slots.specs.Reads.{WordsMean}
use Rattle.laws_slots.specs.Words.{WordCancel, WordFrame, WordRoutine, WordThread, WordWalk, WordWorld, coded_status}
use Rattle.laws_slots.specs.WordStep.{top_frame}

-- what is shown of a word, a routine, a frame and a thread, by what keys name
abbrev pub shown_word : (ℕ → ℕ) → ℕ → ShownRegister
shown_word name n =
    record { number = Some n; status = coded_status n; packet = Some (name n) }

abbrev pub shown_routine : (ℕ → ℕ) → WordActivation → ShownActivation
shown_routine name a =
    record {
      driver = a.driver;
      routine = a.routine;
      device = a.device;
      position = a.position;
      loops = a.loops.items;
      registers = map (shown_word name) a.registers;
    }

abbrev pub shown_frame : (ℕ → ℕ) → WordFrame → ShownFrame
shown_frame name (WordRoutine a) = ShownRoutine (shown_routine name a)
shown_frame name (WordWalk k) = ShownWalk (name k)
shown_frame name (WordCancel k n step) = ShownCancel (record { packet = n; next = step })

abbrev pub shown_thread : (ℕ → ℕ) → WordThread → ShownThread
shown_thread name thread =
    record { root = thread.root; frames = map (shown_frame name) thread.frames }

-- what is shown of a slot: the number of the packet in it, if it has one
abbrev pub shown_slot : Option Packet → Option ℕ
shown_slot o = option_map (λ packet. packet.number) o

-- what threads share is shown as slots show it, with the row of the slots themselves
abbrev pub shown_words : Set → WordWorld → Shown
shown_words set w =
    record (shown_slots set (record { threads = []; shared = w.shared })) {
      threads = map (shown_thread (named w.shared)) w.threads;
      slots = map shown_slot w.shared.slots;
    }

-- it shows each world that it means
abbrev pub WordsShowWhatTheyMean : Type 0
WordsShowWhatTheyMean =
    (set : Set) (w : WordWorld) (world : World) → WordsMean set w world
    → ShowsWorld (shown_words set w) world

-- the words of the routine that stands on the top of a thread, where one does
abbrev pub words_of_frame : Option WordFrame → Option (List ℕ)
words_of_frame None = None
words_of_frame (Some (WordRoutine a)) = Some a.registers
words_of_frame (Some (WordWalk k)) = None
words_of_frame (Some (WordCancel k n step)) = None

abbrev pub words_of_thread : Option WordThread → Option (List ℕ)
words_of_thread None = None
words_of_thread (Some thread) = words_of_frame (top_frame thread.frames)

abbrev pub words_at : WordWorld → ℕ → Option (List ℕ)
words_at w t = words_of_thread (slice_get w.threads t)

-- a routine has a word for each of its registers: where something may be taken from the register,
-- the word may be read as what the register has
pub record TellsRegisters (set : Set) (w : WordWorld) (a : Activation) (words : Option (List ℕ))
    : Type 0 where
  pub found : List ℕ
  pub is : words ≡ Some found
  pub all : length found ≡ REGISTERS
  pub tells : (r : ℕ) → r < REGISTERS → MayBeTaken set None a r
      → Reads (shown_word (named w.shared) (slice_index_or found r 0)) (register a r)

-- so do the words of each routine on the top of a thread of a world that words mean
abbrev pub WordsTellRegisters : Type 0
WordsTellRegisters =
    (set : Set) (w : WordWorld) (world : World) → WordsMean set w world
    → (t : ℕ) (thread : Thread) (a : Activation) → slice_get world.threads t ≡ Some thread
    → top_of thread.frames.items ≡ Some (Routine a) → TellsRegisters set w a (words_at w t)

-- of an accepted set: words that mean the world of a run mean that of each run that they show. They
-- don't say what they are, but in both runs the verifier does
abbrev pub WordsMeanWhatTheyShow : Type 0
WordsMeanWhatTheyShow =
    (set : Set) → IsTypable set → IsSound set
    → (threads others : ℕ) (events more : List Event) (w : WordWorld)
    → WordsMean set w (run set threads events).world
    → ShowsWorld (shown_words set w) (run set others more).world
    → WordsMean set w (run set others more).world
