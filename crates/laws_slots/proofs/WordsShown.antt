-- A world of words shows each world that it means.
use Rattle.std.proofs.Common.{ℕ, zero, suc, List, [], ◌∷◌, Option, Some, sym, ◌∙◌, ap, subst, map}
use Rattle.std.specs.Prelude.{slice_get, slice_index_or}
use Rattle.model.specs.declared.world.Activation.{Activation}
use Rattle.model.specs.declared.world.Frame.{Frame}
use Rattle.model.specs.declared.world.Frame.TheVariants.{Routine, Walk, Cancel as CancelFrame}
use Rattle.model.specs.declared.world.Thread.{Thread}
use Rattle.model.specs.declared.world.Value.{Value}
use Rattle.model.specs.declared.world.Value.TheVariants.{Blank, Num, Ref, Status as StatusValue}
use Rattle.model.specs.Set.{Set}
use Rattle.model.specs.Shown.{Reads, ShowsFrame, ShowsFrames, ShowsRoutine, ShowsThreads, ShowsWorld, blank_register, whole_frame, whole_register, whole_thread}
use Rattle.model.specs.World.{Shared}
use Rattle.laws_slots.proofs.Shown.{slots_show}
use Rattle.laws_slots.specs.Rep.{meant_frame, meant_routine, meant_thread, meant_value, named}
use Rattle.laws_slots.specs.ShownSlots.{shown_slots}
use Rattle.laws_slots.specs.Slots.{SlotCancel, SlotFrame, SlotRoutine, SlotThread, SlotWalk, SlotWorld}
use Rattle.laws_slots.specs.declared.activation.WordActivation.{WordActivation}
use Rattle.laws_slots.specs.Reads.{Paired, ReadsFrame, ReadsThread, ReadsValue, in_words}
use Rattle.laws_slots.specs.ShownWords.{WordsShowWhatTheyMean, shown_frame, shown_routine, shown_thread, shown_word, shown_words}
use Rattle.laws_slots.specs.Words.{WordCancel, WordFrame, WordRoutine, WordThread, WordWalk, WordWorld, coded_status}
use Rattle.laws_slots.proofs.WordsLaws.{same_world}
use Rattle.laws_slots.proofs.Operands.{coded}
use Rattle.laws_slots.proofs.WordsStacks.{w as as_words}

module _ (name : ℕ → ℕ) where
  -- a word may be read as whatever the value may be that it is read as
  pub word_reads : (v : Value) (n : ℕ) → ReadsValue v n → (to : Value)
      → Reads (whole_register (meant_value name v)) to → Reads (shown_word name n) to
  word_reads v n is Blank h = tt
  word_reads (Num m) n is (Num k) h = ap (λ (i : ℕ). Some i) is ∙ h
  word_reads (Ref m) n is (Ref k) h = ap (λ (i : ℕ). Some (name i)) is ∙ h
  word_reads (StatusValue one) n is (StatusValue status) h = ap coded_status is ∙ coded one ∙ h
  word_reads _ n is _ h = cc

  registers_read : (values : List Value) (words : List ℕ) → Paired ReadsValue values words
      → (r : ℕ) (to : Value)
      → Reads (slice_index_or (map whole_register (map (meant_value name) values)) r blank_register)
      to
      → Reads (slice_index_or (map (shown_word name) words) r blank_register) to
  registers_read [] [] h r to reads = reads
  registers_read (v ∷ values) (n ∷ words) h zero to reads = word_reads v n h.0 to reads
  registers_read (v ∷ values) (n ∷ words) h (suc r) to reads =
      registers_read values words h.1 r to reads
  registers_read _ _ h r to reads = absurd h

  module _ (set : Set) (s : Shared) where
    routine_shown : (above : Option Frame) (a : Activation) (words : List ℕ) (c : Activation)
        → Paired ReadsValue a.registers words
        → ShowsFrame set s above (whole_frame (Routine (meant_routine name a))) (Routine c)
        → ShowsRoutine set above (shown_routine name (in_words a words)) c
    routine_shown above a words c h shows =
        record {
          driver = shows.driver;
          routine = shows.routine;
          device = shows.device;
          position = shows.position;
          loops = shows.loops;
          registers = λ r may.
              registers_read a.registers words h r _ (shows.registers r may);
        }

    frame_shown : (above : Option Frame) (f : SlotFrame) (x : WordFrame) (c : Frame)
        → ReadsFrame f x → ShowsFrame set s above (whole_frame (meant_frame name f)) c
        → ShowsFrame set s above (shown_frame name x) c
    frame_shown above (SlotRoutine a) (WordRoutine x) (Routine c) h shows =
        subst (λ (y : WordActivation). ShowsRoutine set above (shown_routine name y) c)
        (sym h.rest) (routine_shown above a x.registers c h.registers shows)
    frame_shown above (SlotWalk k) (WordWalk j) (Walk n) h shows = λ live. ap name h ∙ shows live
    frame_shown above (SlotCancel k n step) (WordCancel j m other) (CancelFrame c) h shows =
        (λ i. record { packet = h.number i; next = h.next i }) ∙ shows
    frame_shown above (SlotRoutine a) (WordRoutine x) _ h shows = absurd shows
    frame_shown above (SlotWalk k) (WordWalk j) _ h shows = absurd shows
    frame_shown above (SlotCancel k n step) (WordCancel j m other) _ h shows = absurd shows
    frame_shown above _ _ c h shows = absurd h

    frames_shown : (frames : List SlotFrame) (others : List WordFrame) (stack : List Frame)
        → Paired ReadsFrame frames others
        → ShowsFrames set s (map whole_frame (map (meant_frame name) frames)) stack
        → ShowsFrames set s (map (shown_frame name) others) stack
    frames_shown [] [] stack h shows = shows
    frames_shown (f ∷ frames) (x ∷ others) [] h shows = absurd shows
    frames_shown (f ∷ frames) (x ∷ others) (c ∷ stack) h shows = (
      frame_shown (slice_get stack 0) f x c h.0 shows.0,
      frames_shown frames others stack h.1 shows.1,
    )
    frames_shown _ _ stack h shows = absurd h

    threads_shown : (threads : List SlotThread) (others : List WordThread) (all : List Thread)
        → Paired ReadsThread threads others
        → ShowsThreads set s (map whole_thread (map (meant_thread name) threads)) all
        → ShowsThreads set s (map (shown_thread name) others) all
    threads_shown [] [] all h shows = shows
    threads_shown (thread ∷ threads) (x ∷ others) [] h shows = absurd shows
    threads_shown (thread ∷ threads) (x ∷ others) (c ∷ all) h shows = (
      (
        h.0.root ∙ shows.0.0,
        frames_shown thread.frames x.frames c.frames.items h.0.frames shows.0.1,
      ),
      threads_shown threads others all h.1 shows.1,
    )
    threads_shown _ _ all h shows = absurd h

pub words_show : WordsShowWhatTheyMean
words_show set w world mean =
    let v : SlotWorld = mean.slots in
    let shows : ShowsWorld (shown_slots set v) world = slots_show set v world mean.means in
    let all : ShowsWorld (shown_words set (as_words v w.threads mean.reads.threads)) world =
    record {
      threads =
          threads_shown (named v.shared) set world.shared v.threads w.threads world.threads
          mean.reads.threads shows.threads;
      packets = shows.packets;
      issued = shows.issued;
      locks = shows.locks;
      cells = shows.cells;
      queues = shows.queues;
      starts = shows.starts;
      dpcs = shows.dpcs;
    } in
    subst (λ (x : WordWorld). ShowsWorld (shown_words set x) world)
    (sym (same_world v w mean.reads)) all
