-- A step of a thread, as the machine does it where the thread stands.
use Rattle.std.specs.Prelude.{ℕ, ◌-◌, List, length, Option, None, Some, slice_set, take}
use Rattle.model.specs.declared.event.Reply.{Reply}
use Rattle.model.specs.declared.event.Reply.TheVariants.{Idle, Refused}
use Rattle.model.specs.Set.{Set}
use Rattle.laws_slots.specs.WordStep.{WordAnswer, WordOutcome, ends_or, frame_step, frames_after, level_over, stays, top_frame}
use Rattle.laws_slots.specs.Words.{WordFrame, WordThread, WordWorld}
use Rattle.laws_slots.specs.Slots.{SlotShared}

-- what a thread's step leaves: the shared part, the thread, and the reply
pub record Moved : Type 0 where
  pub shared : SlotShared
  pub thread : WordThread
  pub reply : Reply

-- a thread with other frames: one that is left without any is idle, at PASSIVE_LEVEL
abbrev pub standing_on : WordThread → List WordFrame → WordThread
standing_on thread frames =
    record { root = level_over thread.root frames; frames = frames }

abbrev pub moved_to : SlotShared → WordThread → List WordFrame → Reply → Moved
moved_to s thread frames reply =
    record { shared = s; thread = standing_on thread frames; reply = ends_or frames reply }

abbrev pub moved_by : Set → WordThread → List WordFrame → WordOutcome → Moved
moved_by set thread below o = moved_to o.shared thread (frames_after set below o) o.reply

abbrev pub top_moves : Set → SlotShared → ℕ → WordThread → List WordFrame → Option WordFrame
    → Moved
top_moves set s t thread below None = record { shared = s; thread = thread; reply = Idle }
top_moves set s t thread below (Some f) =
    moved_by set thread below (frame_step set s t (top_frame below) f)

abbrev pub thread_moves : Set → SlotShared → ℕ → WordThread → Moved
thread_moves set s t thread =
    top_moves set s t thread (take (length thread.frames - 1) thread.frames)
    (top_frame thread.frames)

-- the world in which a thread has moved in its place, if it is there
abbrev pub placed : WordWorld → ℕ → Moved → WordAnswer
placed v t m =
    record {
      world = record { threads = slice_set v.threads t m.thread; shared = m.shared };
      reply = m.reply;
    }

abbrev pub stepped_on : Set → WordWorld → ℕ → Option WordThread → WordAnswer
stepped_on set v t None = stays v Refused
stepped_on set v t (Some x) = placed v t (thread_moves set v.shared t x)
