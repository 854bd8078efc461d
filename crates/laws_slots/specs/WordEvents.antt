-- What the other events do to a world whose registers hold words: IoCancelIrp, an interrupt, a DPC
-- and a StartIo routine that begin. What they do to what threads share is that of slots.
use Rattle.std.specs.Prelude.{ℕ, ◌&&◌, not, Bool, true, false, [], ◌∷◌, length, replicate, Option, None, Some, nat_eq, nat_lt, slice_get, slice_set, if◌then◌else◌}
use Rattle.model.specs.declared.event.Reply.TheVariants.{Started, Stepped, Finished, Idle, Refused}
use Rattle.model.specs.declared.world.CancelStep.TheVariants.{Acquire as AcquireStep}
use Rattle.model.specs.declared.world.Irql.{Irql}
use Rattle.model.specs.declared.world.Irql.TheVariants.{Passive, Dispatch as DispatchLevel}
use Rattle.model.specs.Effect.{routine_of_device}
use Rattle.model.specs.Queues.{StartState, head_of, without_first_to_start}
use Rattle.model.specs.Set.{Set}
use Rattle.laws_slots.specs.Rep.{named}
use Rattle.laws_slots.specs.SlotEvents.{key_of, opening_slots, slot_queued, with_slot_dpc}
use Rattle.laws_slots.specs.Slots.{SlotShared, slot_start, with_slot_start}
use Rattle.laws_slots.specs.Words.{WordCancel, WordFrame, WordRoutine, WordThread, WordWorld, dpc_activation, entered}
use Rattle.laws_slots.specs.WordStep.{WordAnswer, stays}

-- before the first event: idle threads, and so many free slots
abbrev pub idle_words : WordThread
idle_words = record { root = Passive; frames = [] }

abbrev pub opening_words : ℕ → ℕ → ℕ → WordWorld
opening_words devices threads slots =
    record {
      threads = replicate threads idle_words;
      shared = (opening_slots devices threads slots).shared;
    }

-- the same with another thread in place of one, and with another shared part
abbrev pub with_word_thread : WordWorld → ℕ → SlotShared → WordThread → WordWorld
with_word_thread v t s thread = record { threads = slice_set v.threads t thread; shared = s }

abbrev pub rooted_word : Irql → WordFrame → WordThread
rooted_word level f = record { root = level; frames = f ∷ [] }

abbrev pub has_none : WordThread → Bool
has_none thread = nat_eq (length thread.frames) 0

-- IoCancelIrp begins
abbrev pub cancel_key : WordWorld → ℕ → ℕ → Irql → Option ℕ → WordAnswer
cancel_key v t n level None = stays v Finished
cancel_key v t n level (Some k) =
    record {
      world = with_word_thread v t v.shared (rooted_word level (WordCancel k n AcquireStep));
      reply = Started n;
    }

abbrev pub cancel_word : WordWorld → ℕ → ℕ → Option Irql → Option WordThread → WordAnswer
cancel_word v t n level None = stays v Refused
cancel_word v t n None (Some thread) = stays v Refused
cancel_word v t n (Some level) (Some thread) =
    if has_none thread && nat_lt n v.shared.issued
    then cancel_key v t n level (key_of v.shared.slots v.shared.order n)
    else stays v Refused

-- a DPC is queued, and begins
abbrev pub interrupt_word : WordWorld → ℕ → Option ℕ → WordAnswer
interrupt_word v d None = stays v Refused
interrupt_word v d (Some routine) =
    if slot_queued v.shared d then stays v Idle
    else record { world = record v { shared = with_slot_dpc v.shared d true }; reply = Stepped }

abbrev pub dpc_word : Set → WordWorld → ℕ → ℕ → Option WordThread → Option ℕ → WordAnswer
dpc_word set v t d None routine = stays v Refused
dpc_word set v t d (Some thread) None = stays v Refused
dpc_word set v t d (Some thread) (Some routine) =
    if not (has_none thread) then stays v Refused else
    (if slot_queued v.shared d
    then record {
      world =
          with_word_thread v t (with_slot_dpc v.shared d false)
          (rooted_word DispatchLevel (WordRoutine (dpc_activation set d routine)));
      reply = Stepped;
    }
    else stays v Idle)

-- a StartIo routine begins for the first packet of its device's start list, which is told by its
-- number
abbrev pub startio_key : Set → WordWorld → ℕ → ℕ → ℕ → StartState → Option ℕ → WordAnswer
startio_key set v t d routine start None = stays v Idle
startio_key set v t d routine start (Some k) =
    record {
      world =
          with_word_thread v t (with_slot_start v.shared d (without_first_to_start start))
          (rooted_word DispatchLevel
          (WordRoutine (entered (routine_of_device (slice_get set.devices d)) routine d k)));
      reply = Started (named v.shared k);
    }

abbrev pub startio_from : Set → WordWorld → ℕ → ℕ → ℕ → Option StartState → WordAnswer
startio_from set v t d routine None = stays v Refused
startio_from set v t d routine (Some start) =
    startio_key set v t d routine start (head_of start.start_list)

abbrev pub startio_word : Set → WordWorld → ℕ → ℕ → Option WordThread → Option ℕ → WordAnswer
startio_word set v t d None routine = stays v Refused
startio_word set v t d (Some thread) None = stays v Refused
startio_word set v t d (Some thread) (Some routine) =
    if has_none thread then startio_from set v t d routine (slot_start v.shared d)
    else stays v Refused
