-- What is shown of what slots mean is what the run's world can't be told from, and the other way
-- round.
use Rattle.std.proofs.Common.{◌≡◌, ℕ, suc, List, [], ◌∷◌, length, Option, None, Some, refl, sym, ◌∙◌, ap, subst, map}
use Rattle.std.specs.Prelude.{slice_get}
use Rattle.std.proofs.lemmas.List.{length-map, length-set}
use Rattle.model.specs.declared.limits.TheConstants.{REGISTERS}
use Rattle.model.specs.declared.status.Status.TheVariants.{Success}
use Rattle.model.specs.declared.world.Activation.{Activation}
use Rattle.model.specs.declared.world.Frame.{Frame}
use Rattle.model.specs.declared.world.Frame.TheVariants.{Routine, Walk, Cancel as CancelFrame}
use Rattle.model.specs.declared.world.OpenLoop.{OpenLoop}
use Rattle.model.specs.declared.world.Thread.{Thread}
use Rattle.model.specs.declared.world.Value.TheVariants.{Status as StatusValue}
use Rattle.model.specs.Effect.{answered_in}
use Rattle.model.specs.Set.{Set}
use Rattle.model.specs.Shown.{Reads, ShownRegister, ShowsFrame, ShowsFrames, ShowsRoutine, ShowsThreads, ShownActivation, told_register, whole_frame, whole_register, whole_thread}
use Rattle.model.specs.World.{Shared, register}
use Rattle.laws_runs.proofs.Alike.Frames.{AlikeActivation, AlikeFrame, AlikeFrames, waiting_for}
use Rattle.laws_runs.proofs.Alike.Registers.{SameRegisters}
use Rattle.laws_runs.proofs.Alike.Shows.{may_be_taken, reads_same, same_all, value_there, whole_get}
use Rattle.laws_runs.proofs.Alike.Stacks.{AlikeThreads}
use Rattle.laws_runs.proofs.States.Frames.{IsGood, Ready, state_of}
use Rattle.laws_runs.proofs.States.Inside.{Waits, kinds_long, waits_under}
use Rattle.laws_runs.proofs.States.Stacks.{Stacked, Stands}
use Rattle.laws_runs.specs.ArrivingStates.{States}
use Rattle.laws_slots.specs.Rep.{EachFrame, EachThread, IsWhole, meant_frame, meant_routine, meant_thread, meant_value}
use Rattle.laws_slots.specs.Slots.{SlotCancel, SlotFrame, SlotRoutine, SlotThread, SlotWalk}

abbrev shown_routine : Activation → ShownActivation
shown_routine a =
    record {
      driver = a.driver;
      routine = a.routine;
      device = a.device;
      position = a.position;
      loops = a.loops.items;
      registers = map whole_register a.registers;
    }

module _ (set : Set) (states : States) (good : IsGood set states) where
  -- a frame of a run has all its registers
  answered_long : (issued : ℕ) (a : Activation) (q : Option ℕ)
      → Ready set states issued (answered_in a Success q) → length a.registers ≡ REGISTERS
  answered_long issued a None ready =
      kinds_long issued (state_of states a).kinds a.registers ready.1.kinds ∙ ready.1.sixteen
  answered_long issued a (Some q) ready =
      sym (length-set a.registers q (StatusValue Success))
      ∙ kinds_long issued (state_of states a).kinds
      (answered_in a Success (Some q)).registers ready.1.kinds ∙ ready.1.sixteen

  long : (issued : ℕ) (above : Option Frame) (a : Activation)
      → Stands set states issued above (Routine a) → length a.registers ≡ REGISTERS
  long issued above a h =
      let waits : Waits set states issued above a = waits_under set states issued above a h in
      answered_long issued a waits.register waits.ready

  -- a routine's frame that is shown
  registers_same : (issued : ℕ) (above : Option Frame) (b a : Activation) (q : Option ℕ)
      → told_register set above a ≡ q → Ready set states issued (answered_in a Success q)
      → ShowsRoutine set above (shown_routine b) a → length b.registers ≡ length a.registers
      → SameRegisters (waiting_for q (state_of states a).kinds) b.registers a.registers
  registers_same issued above b a q told ready shows even =
      same_all (waiting_for q (state_of states a).kinds) b.registers a.registers even
      (λ r some. reads_same (register b r) (register a r)
      (value_there set states good issued a q ready r some)
      (subst (λ (x : ShownRegister). Reads x (register a r)) (whole_get b.registers r)
      (shows.registers r (may_be_taken set states good issued above a q told ready r some))))

  routine_alike : (issued : ℕ) (above : Option Frame) (b a : Activation)
      → Stands set states issued above (Routine a) → length b.registers ≡ REGISTERS
      → ShowsRoutine set above (shown_routine b) a → AlikeActivation set states above b a
  routine_alike issued above b a stands whole shows =
      let waits : Waits set states issued above a = waits_under set states issued above a stands in
      let even : length b.registers ≡ length a.registers =
      whole ∙ sym (long issued above a stands) in
      record {
        registers = b.registers;
        is = rw (← shows.driver, ← shows.routine, ← shows.device, ← shows.position)
            (ap (λ (items : List OpenLoop). record b { loops = record { items = items } })
            shows.loops);
        long = even;
        same = rw waits.told (registers_same issued above b a waits.register waits.told waits.ready
            shows even);
      }

  module _ (name : ℕ → ℕ) (s : Shared) where
    frame_alike : (issued : ℕ) (above : Option Frame) (x : SlotFrame) (f : Frame) → IsWhole x
        → Stands set states issued above f
        → ShowsFrame set s above (whole_frame (meant_frame name x)) f
        → AlikeFrame set states s above (meant_frame name x) f
    frame_alike issued above (SlotRoutine b) (Routine a) whole stands shows =
        routine_alike issued above (meant_routine name b) a stands
        (length-map b.registers (meant_value name) ∙ whole) shows
    frame_alike issued above (SlotWalk k) (Walk n) whole stands shows = shows
    frame_alike issued above (SlotCancel k n step) (CancelFrame c) whole stands shows = shows
    frame_alike issued above (SlotRoutine b) (Walk n) whole stands shows = absurd shows
    frame_alike issued above (SlotRoutine b) (CancelFrame c) whole stands shows = absurd shows
    frame_alike issued above (SlotWalk k) (Routine a) whole stands shows = absurd shows
    frame_alike issued above (SlotWalk k) (CancelFrame c) whole stands shows = absurd shows
    frame_alike issued above (SlotCancel k n step) (Routine a) whole stands shows = absurd shows
    frame_alike issued above (SlotCancel k n step) (Walk m) whole stands shows = absurd shows

    abbrev meant : List SlotFrame → List Frame
    meant frames = map (meant_frame name) frames

    frames_alike : (issued : ℕ) (xs : List SlotFrame) (ys : List Frame) → EachFrame IsWhole xs
        → Stacked set states issued ys → ShowsFrames set s (map whole_frame (meant xs)) ys
        → AlikeFrames set states s None (meant xs) ys
    frames_alike issued [] [] whole stands shows = tt
    frames_alike issued (x ∷ []) (y ∷ []) whole stands shows =
        (frame_alike issued None x y whole.0 stands shows.0, tt)
    frames_alike issued (x ∷ u ∷ xs) (y ∷ z ∷ ys) whole stands shows = (
      frame_alike issued (Some z) x y whole.0 stands.0 shows.0,
      frames_alike issued (u ∷ xs) (z ∷ ys) whole.1 stands.1 shows.1,
    )
    frames_alike issued (x ∷ u ∷ xs) (y ∷ []) whole stands shows = absurd shows.1
    frames_alike issued (x ∷ []) (y ∷ z ∷ ys) whole stands shows = absurd shows.1
    frames_alike issued [] (y ∷ ys) whole stands shows = absurd shows
    frames_alike issued (x ∷ xs) [] whole stands shows = absurd shows

    pub threads_alike : (issued : ℕ) (xs : List SlotThread) (ys : List Thread)
        → EachThread IsWhole xs
        → ((t : ℕ) (y : Thread) → slice_get ys t ≡ Some y
        → Stacked set states issued y.frames.items)
        → ShowsThreads set s (map whole_thread (map (meant_thread name) xs)) ys
        → AlikeThreads set states s (map (meant_thread name) xs) ys
    threads_alike issued [] [] whole stands shows = tt
    threads_alike issued (x ∷ xs) (y ∷ ys) whole stands shows = (
      record {
        root = shows.0.0;
        frames = frames_alike issued x.frames y.frames.items whole.0 (stands 0 y refl) shows.0.1;
      },
      threads_alike issued xs ys whole.1 (λ t. stands (suc t)) shows.1,
    )
    threads_alike issued [] (y ∷ ys) whole stands shows = absurd shows
    threads_alike issued (x ∷ xs) [] whole stands shows = absurd shows

    -- frames that can't be told from those of a run have all their registers
    frame_whole : (issued : ℕ) (above : Option Frame) (x : SlotFrame) (f : Frame)
        → Stands set states issued above f → AlikeFrame set states s above (meant_frame name x) f
        → IsWhole x
    frame_whole issued above (SlotRoutine b) (Routine a) stands alike =
        let same : map (meant_value name) b.registers ≡ alike.registers =
        ap (λ (c : Activation). c.registers) alike.is in
        sym (length-map b.registers (meant_value name)) ∙ ap length same ∙ alike.long
        ∙ long issued above a stands
    frame_whole issued above (SlotRoutine b) (Walk n) stands alike = absurd alike
    frame_whole issued above (SlotRoutine b) (CancelFrame c) stands alike = absurd alike
    frame_whole issued above (SlotWalk k) f stands alike = tt
    frame_whole issued above (SlotCancel k n step) f stands alike = tt

    frames_whole : (issued : ℕ) (xs : List SlotFrame) (ys : List Frame)
        → Stacked set states issued ys → AlikeFrames set states s None (meant xs) ys
        → EachFrame IsWhole xs
    frames_whole issued [] ys stands alike = tt
    frames_whole issued (x ∷ []) (y ∷ []) stands alike =
        (frame_whole issued None x y stands alike.0, tt)
    frames_whole issued (x ∷ u ∷ xs) (y ∷ z ∷ ys) stands alike = (
      frame_whole issued (Some z) x y stands.0 alike.0,
      frames_whole issued (u ∷ xs) (z ∷ ys) stands.1 alike.1,
    )
    frames_whole issued (x ∷ u ∷ xs) (y ∷ []) stands alike = absurd alike.1
    frames_whole issued (x ∷ []) (y ∷ z ∷ ys) stands alike = absurd alike.1
    frames_whole issued (x ∷ xs) [] stands alike = absurd alike

    pub threads_whole : (issued : ℕ) (xs : List SlotThread) (ys : List Thread)
        → ((t : ℕ) (y : Thread) → slice_get ys t ≡ Some y
        → Stacked set states issued y.frames.items)
        → AlikeThreads set states s (map (meant_thread name) xs) ys → EachThread IsWhole xs
    threads_whole issued [] ys stands alike = tt
    threads_whole issued (x ∷ xs) (y ∷ ys) stands alike = (
      frames_whole issued x.frames y.frames.items (stands 0 y refl) alike.0.frames,
      threads_whole issued xs ys (λ t. stands (suc t)) alike.1,
    )
    threads_whole issued (x ∷ xs) [] stands alike = absurd alike
