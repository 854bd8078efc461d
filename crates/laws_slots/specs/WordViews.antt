-- What there is to tell of a thread, a packet and a device of a world of words.
use Rattle.std.specs.Prelude.{ℕ, ◌≡◌, length, Option, option_map, slice_get}
use Rattle.model.specs.declared.view.FrameView.{FrameView}
use Rattle.model.specs.declared.view.FrameView.TheVariants.{Routine as RoutineView, Walk as WalkView, Cancel as CancelView}
use Rattle.model.specs.declared.view.ThreadView.{ThreadView}
use Rattle.model.specs.View.{due_at, due_view, packet_at, packet_view, thread_at}
use Rattle.laws_slots.specs.Rep.{named}
use Rattle.laws_slots.specs.ShownSlots.{meant, meant_shared}
use Rattle.laws_slots.specs.Slots.{SlotWorld}
use Rattle.laws_slots.specs.Reads.{ReadsWorld}
use Rattle.laws_slots.specs.Words.{WordCancel, WordFrame, WordRoutine, WordThread, WordWalk, WordWorld}
use Rattle.laws_slots.specs.WordStep.{top_frame}

abbrev pub word_frame_view : (ℕ → ℕ) → WordFrame → FrameView
word_frame_view name (WordRoutine a) = RoutineView a.driver a.routine a.device a.position
word_frame_view name (WordWalk k) = WalkView (name k)
word_frame_view name (WordCancel k n step) = CancelView (record { packet = n; next = step })

abbrev pub word_thread_view : (ℕ → ℕ) → WordThread → ThreadView
word_thread_view name thread =
    record {
      root = thread.root;
      frames = length thread.frames;
      top = option_map (word_frame_view name) (top_frame thread.frames);
    }

-- the thread of a number, if there is one
abbrev pub word_thread_at : WordWorld → ℕ → Option ThreadView
word_thread_at w t = option_map (word_thread_view (named w.shared)) (slice_get w.threads t)

-- words tell what the slots tell that they are read as
pub record TellsAsSlots (v : SlotWorld) (w : WordWorld) : Type 0 where
  pub threads : (t : ℕ) → word_thread_at w t ≡ thread_at (meant v) t
  pub packets : (n : ℕ) → packet_view (meant_shared w.shared) n ≡ packet_at (meant v) n
  pub due : (d : ℕ) → due_view (meant_shared w.shared) d ≡ due_at (meant v) d

abbrev pub WordsTellAsSlots : Type 0
WordsTellAsSlots = (v : SlotWorld) (w : WordWorld) → ReadsWorld v w → TellsAsSlots v w
