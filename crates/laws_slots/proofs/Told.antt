-- What the words tell of a routine on the top of a thread.
use Rattle.std.proofs.Common.{◌≡◌, ◌<◌, ℕ, zero, suc, List, [], ◌∷◌, Option, None, Some, length, map, refl, sym, ◌∙◌, ap, subst, arith, ◌-◌}
use Rattle.std.specs.Prelude.{slice_get, slice_index_or}
use Rattle.model.specs.declared.limits.TheConstants.{REGISTERS}
use Rattle.model.specs.declared.world.Activation.{Activation}
use Rattle.model.specs.declared.world.Frame.{Frame}
use Rattle.model.specs.declared.world.Frame.TheVariants.{Routine}
use Rattle.model.specs.declared.world.Thread.{Thread}
use Rattle.model.specs.declared.world.Value.{Value}
use Rattle.model.specs.Effect.{top_of}
use Rattle.model.specs.Set.{Set}
use Rattle.model.specs.Shown.{MayBeTaken, Reads, ShowsFrame, ShowsFrames, ShowsThreads, blank_register, whole_frame, whole_register, whole_thread}
use Rattle.model.specs.World.{Shared, register}
use Rattle.laws_slots.specs.Rep.{EachFrame, EachThread, IsWhole, meant_frame, meant_thread, meant_value, named}
use Rattle.laws_slots.specs.Slots.{SlotCancel, SlotFrame, SlotRoutine, SlotThread, SlotWalk, SlotWorld}
use Rattle.laws_slots.specs.Reads.{Paired, ReadsFrame, ReadsThread, ReadsValue}
use Rattle.laws_slots.specs.ShownWords.{TellsRegisters, WordsTellRegisters, shown_word, words_at, words_of_frame, words_of_thread}
use Rattle.laws_slots.specs.Words.{WordCancel, WordFrame, WordRoutine, WordThread, WordWalk, WordWorld}
use Rattle.laws_slots.specs.WordStep.{top_frame}
use Rattle.laws_slots.proofs.WordsLaws.{same_world}
use Rattle.laws_slots.proofs.Pairs.{paired_length}
use Rattle.laws_slots.proofs.WordsShown.{word_reads}

-- the last of several
last_above : {A : Type 0} (x y : A) (xs : List A)
    → slice_get (x ∷ y ∷ xs) (length (x ∷ y ∷ xs) - 1) ≡ slice_get (y ∷ xs) (length (y ∷ xs) - 1)
last_above x y xs =
    let more : length (x ∷ y ∷ xs) - 1 ≡ suc (length (y ∷ xs) - 1) = omega arith in rw more refl

none_below : {A : Type 0} (n : ℕ) → n < 0 → A
none_below n less = absurd (omega (arith, less))

module _ (name : ℕ → ℕ) where
  -- a word at a place that there is
  read_at : (values : List Value) (words : List ℕ) → Paired ReadsValue values words → (r : ℕ)
      → r < length words → (to : Value)
      → Reads (slice_index_or (map whole_register (map (meant_value name) values)) r blank_register)
      to
      → Reads (shown_word name (slice_index_or words r 0)) to
  read_at [] [] h r less to reads = none_below r less
  read_at (v ∷ values) (n ∷ words) h zero less to reads = word_reads name v n h.0 to reads
  read_at (v ∷ values) (n ∷ words) h (suc r) less to reads =
      let fewer : r < length words = omega (arith, less) in
      read_at values words h.1 r fewer to reads
  read_at _ _ h r less to reads = absurd h

  module _ (set : Set) (s : Shared) where
    -- what the words tell, by what keys name
    pub record TellsBy (a : Activation) (words : Option (List ℕ)) : Type 0 where
      pub found : List ℕ
      pub is : words ≡ Some found
      pub all : length found ≡ REGISTERS
      pub tells : (r : ℕ) → r < REGISTERS → MayBeTaken set None a r
          → Reads (shown_word name (slice_index_or found r 0)) (register a r)

    top_tells : (f : SlotFrame) (x : WordFrame) (a : Activation) → ReadsFrame f x → IsWhole f
        → ShowsFrame set s None (whole_frame (meant_frame name f)) (Routine a)
        → TellsBy a (words_of_frame (Some x))
    top_tells (SlotRoutine b) (WordRoutine x) a h long shows =
        let whole : length x.registers ≡ REGISTERS =
        sym (paired_length ReadsValue b.registers x.registers h.registers) ∙ long in
        record {
          found = x.registers;
          is = refl;
          all = whole;
          tells = λ r less may.
              read_at b.registers x.registers h.registers r
              (subst (λ (n : ℕ). r < n) (sym whole) less) (register a r)
              (shows.registers r may);
        }
    top_tells (SlotWalk k) (WordWalk j) a h long shows = absurd shows
    top_tells (SlotCancel k n step) (WordCancel j m other) a h long shows = absurd shows
    top_tells _ _ a h long shows = absurd h

    frames_tell : (frames : List SlotFrame) (others : List WordFrame) (stack : List Frame)
        (a : Activation) → Paired ReadsFrame frames others → EachFrame IsWhole frames
        → ShowsFrames set s (map whole_frame (map (meant_frame name) frames)) stack
        → top_of stack ≡ Some (Routine a) → TellsBy a (words_of_frame (top_frame others))
    frames_tell [] [] [] a h long shows is = cc
    frames_tell [] [] (c ∷ stack) a h long shows is = absurd shows
    frames_tell (f ∷ frames) (x ∷ others) [] a h long shows is = cc
    frames_tell (f ∷ []) (x ∷ []) (c ∷ []) a h long shows is =
        let same : c ≡ Routine a = cc in
        top_tells f x a h.0 long.0
        (subst (λ (d : Frame). ShowsFrame set s None (whole_frame (meant_frame name f)) d) same
        shows.0)
    frames_tell (f ∷ []) (x ∷ []) (c ∷ d ∷ stack) a h long shows is = absurd shows.1
    frames_tell (f ∷ g ∷ frames) (x ∷ y ∷ others) (c ∷ []) a h long shows is = absurd shows.1
    frames_tell (f ∷ g ∷ frames) (x ∷ y ∷ others) (c ∷ d ∷ stack) a h long shows is =
        subst (λ (o : Option WordFrame). TellsBy a (words_of_frame o))
        (sym (last_above x y others))
        (frames_tell (g ∷ frames) (y ∷ others) (d ∷ stack) a h.1 long.1 shows.1
        (sym (last_above c d stack) ∙ is))
    frames_tell (f ∷ []) (x ∷ y ∷ others) (c ∷ stack) a h long shows is = absurd h.1
    frames_tell (f ∷ g ∷ frames) (x ∷ []) (c ∷ stack) a h long shows is = absurd h.1
    frames_tell _ _ stack a h long shows is = absurd h

    threads_tell : (threads : List SlotThread) (others : List WordThread) (all : List Thread)
        (t : ℕ) (thread : Thread) (a : Activation) → Paired ReadsThread threads others
        → EachThread IsWhole threads
        → ShowsThreads set s (map whole_thread (map (meant_thread name) threads)) all
        → slice_get all t ≡ Some thread → top_of thread.frames.items ≡ Some (Routine a)
        → TellsBy a (words_of_thread (slice_get others t))
    threads_tell [] [] [] t thread a h long shows there is = cc
    threads_tell [] [] (c ∷ all) t thread a h long shows there is = absurd shows
    threads_tell (b ∷ threads) (x ∷ others) [] t thread a h long shows there is = cc
    threads_tell (b ∷ threads) (x ∷ others) (c ∷ all) zero thread a h long shows there is =
        let same : c ≡ thread = cc in
        frames_tell b.frames x.frames c.frames.items a h.0.frames long.0 shows.0.1
        (ap (λ (d : Thread). top_of d.frames.items) same ∙ is)
    threads_tell (b ∷ threads) (x ∷ others) (c ∷ all) (suc t) thread a h long shows there is =
        threads_tell threads others all t thread a h.1 long.1 shows.1 there is
    threads_tell _ _ all t thread a h long shows there is = absurd h

pub words_tell : WordsTellRegisters
words_tell set w world mean t thread a there is =
    let v : SlotWorld = mean.slots in
    let tells : TellsBy (named v.shared) set world.shared a (words_at w t) =
    threads_tell (named v.shared) set world.shared v.threads w.threads world.threads t thread a
    mean.reads.threads mean.means.whole mean.means.threads there is in
    subst (λ (x : WordWorld). TellsRegisters set x a (words_at x t))
    (sym (same_world v w mean.reads))
    (record { found = tells.found; is = tells.is; all = tells.all; tells = tells.tells })
