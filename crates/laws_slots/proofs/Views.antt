-- What words tell of threads, packets and devices is what the slots tell that they are read as.
use Rattle.std.proofs.Common.{◌≡◌, ℕ, zero, suc, List, [], ◌∷◌, Option, None, Some, length, map, refl, sym, ◌∙◌, ap}
use Rattle.std.specs.Prelude.{option_map, slice_get}
use Rattle.std.proofs.lemmas.List.{length-map}
use Rattle.model.specs.declared.view.FrameView.TheVariants.{Routine as RoutineView, Walk as WalkView, Cancel as CancelView}
use Rattle.model.specs.declared.view.ThreadView.{ThreadView}
use Rattle.model.specs.Effect.{top_of}
use Rattle.model.specs.View.{due_view, frame_view, packet_view, thread_view}
use Rattle.laws_slots.proofs.Stacks.{top_meant}
use Rattle.laws_slots.specs.Rep.{meant_frame, meant_thread, named}
use Rattle.laws_slots.specs.ShownSlots.{meant_shared}
use Rattle.laws_slots.specs.SlotStep as slots
use Rattle.laws_slots.specs.Slots.{SlotCancel, SlotFrame, SlotRoutine, SlotShared, SlotThread, SlotWalk}
use Rattle.laws_slots.specs.declared.activation.WordActivation.{WordActivation}
use Rattle.laws_slots.specs.Reads.{Paired, ReadsFrame, ReadsThread}
use Rattle.laws_slots.specs.Words.{WordCancel, WordFrame, WordRoutine, WordThread, WordWalk}
use Rattle.laws_slots.specs.WordStep.{top_frame}
use Rattle.laws_slots.specs.WordViews.{WordsTellAsSlots, word_frame_view, word_thread_view}
use Rattle.laws_slots.proofs.Pairs.{PairedOption, paired_last, paired_length}

module _ (name : ℕ → ℕ) where
  frame_told : (o : Option SlotFrame) (p : Option WordFrame) → PairedOption ReadsFrame o p
      → option_map (word_frame_view name) p
      ≡ option_map frame_view (option_map (meant_frame name) o)
  frame_told None None h = refl
  frame_told (Some (SlotRoutine a)) (Some (WordRoutine x)) h =
      ap (λ (y : WordActivation). Some (RoutineView y.driver y.routine y.device y.position)) h.rest
  frame_told (Some (SlotWalk k)) (Some (WordWalk j)) h =
      ap (λ (i : ℕ). Some (WalkView (name i))) h
  frame_told (Some (SlotCancel k n step)) (Some (WordCancel j m other)) h =
      λ i. Some (CancelView (record { packet = h.number i; next = h.next i }))
  frame_told _ _ h = absurd h

  thread_told : (thread : SlotThread) (x : WordThread) → ReadsThread thread x
      → word_thread_view name x ≡ thread_view (meant_thread name thread)
  thread_told thread x h =
      let count : length x.frames ≡ length (map (meant_frame name) thread.frames) =
      sym (paired_length ReadsFrame thread.frames x.frames h.frames)
      ∙ sym (length-map thread.frames (meant_frame name)) in
      let last : option_map (word_frame_view name) (top_frame x.frames)
      ≡ option_map frame_view (top_of (map (meant_frame name) thread.frames)) =
      frame_told (slots.top_frame thread.frames) (top_frame x.frames)
      (paired_last ReadsFrame thread.frames x.frames h.frames)
      ∙ ap (option_map frame_view) (sym (top_meant name thread.frames)) in
      λ i. record { root = h.root i; frames = count i; top = last i }

  threads_told : (threads : List SlotThread) (others : List WordThread) (t : ℕ)
      → Paired ReadsThread threads others
      → option_map (word_thread_view name) (slice_get others t)
      ≡ option_map thread_view (slice_get (map (meant_thread name) threads) t)
  threads_told [] [] t h = refl
  threads_told (thread ∷ threads) (x ∷ others) zero h =
      ap (λ (view : ThreadView). Some view) (thread_told thread x h.0)
  threads_told (thread ∷ threads) (x ∷ others) (suc t) h = threads_told threads others t h.1
  threads_told _ _ t h = absurd h

pub tell_as_slots : WordsTellAsSlots
tell_as_slots v w reads =
    record {
      threads = λ t.
          ap (λ (s : SlotShared). option_map (word_thread_view (named s)) (slice_get w.threads t))
          reads.shared
          ∙ threads_told (named v.shared) v.threads w.threads t reads.threads;
      packets = λ n. ap (λ (s : SlotShared). packet_view (meant_shared s) n) reads.shared;
      due = λ d. ap (λ (s : SlotShared). due_view (meant_shared s) d) reads.shared;
    }
