-- The routine on top of a thread has an instruction, among the first 1,024 of its code, and its
-- thread has room for another frame.
use Rattle.std.proofs.Common.{◌≡◌, ◌<◌, ◌≤◌, ℕ, suc, List, [], ◌∷◌, Option, None, Some, length, map, refl, ◌∙◌, ap, subst, arith, inl, inr}
use Rattle.std.specs.Prelude.{option_and_then, slice_get}
use Rattle.std.proofs.lemmas.Bool.Decides.{eqb_tells}
use Rattle.std.proofs.lemmas.List.{length-map}
use Rattle.model.specs.declared.event.Event.{Event}
use Rattle.model.specs.declared.instr.Instr.{Instr}
use Rattle.model.specs.declared.limits.TheConstants.{MAX_FRAMES, MAX_INSTRUCTIONS}
use Rattle.model.specs.declared.set.Driver.{Driver}
use Rattle.model.specs.declared.set.Routine.{Routine as RoutineOf}
use Rattle.model.specs.declared.world.Activation.{Activation}
use Rattle.model.specs.declared.world.Frame.{Frame}
use Rattle.model.specs.declared.world.Frame.TheVariants.{Routine, Walk, Cancel as CancelFrame}
use Rattle.model.specs.declared.world.Thread.{Thread}
use Rattle.model.specs.Run.{frames_on, run}
use Rattle.model.specs.Set.{Set, default_number, default_routine, instruction_at, routine_of}
use Rattle.model.specs.Sound.{DriverFits, IsSound, RoutineFits}
use Rattle.model.specs.Typable.{IsTypable}
use Rattle.model.specs.World.{Shared, World}
use Rattle.laws_runs.proofs.Alike.Frames.{AlikeActivation, AlikeFrame, AlikeFrames}
use Rattle.laws_runs.proofs.Alike.Stacks.{AlikeThread}
use Rattle.laws_runs.proofs.Depth.Kept.{few_frames}
use Rattle.laws_runs.proofs.Lists.{all_at}
use Rattle.laws_runs.proofs.Runs.Events.{StepsFrame}
use Rattle.laws_runs.proofs.Runs.Threads.{frames_there}
use Rattle.laws_runs.proofs.States.Frames.{Stays}
use Rattle.laws_runs.proofs.States.Lacking.{never_lacks}
use Rattle.laws_runs.proofs.States.OnTop.{OnTop}
use Rattle.laws_runs.proofs.Steps.Comes.{no_instruction}
use Rattle.laws_runs.specs.ArrivingStates.{States}
use Rattle.laws_slots.proofs.Finding.{keeps, run_steps, run_thread}
use Rattle.laws_slots.proofs.Fitting.SharedCells.{some_found}
use Rattle.laws_slots.proofs.Fitting.SharedTop.{TopsRun, known, tops_run, world}
use Rattle.laws_slots.specs.Rep.{Means, meant_frame, meant_routine, meant_thread, named}
use Rattle.laws_slots.specs.SlotStep.{top_frame}
use Rattle.laws_slots.specs.Slots.{SlotRoutine, SlotThread, SlotWorld}

-- frames that can't be told apart are as many
as_many : (set : Set) (states : States) (s : Shared) (above : Option Frame) (xs ys : List Frame)
    → AlikeFrames set states s above xs ys → length xs ≡ length ys
as_many set states s above [] [] like = refl
as_many set states s above [] (f ∷ ys) like = absurd like
as_many set states s above (f ∷ xs) [] like = absurd like
as_many set states s above (f ∷ xs) (g ∷ ys) like =
    ap suc (as_many set states s above xs ys like.1)

-- no routine of a sound set is longer than it may be
few_in : (set : Set) (driver number : ℕ) (routine : RoutineOf) → IsSound set → (o : Option Driver)
    → slice_get set.drivers driver ≡ o
    → option_and_then (λ (d : Driver). slice_get d.routines number) o ≡ Some routine
    → length routine.code ≤ MAX_INSTRUCTIONS
few_in set driver number routine sound None there is = cc
few_in set driver number routine sound (Some d) there is =
    let fits : DriverFits d = all_at DriverFits set.drivers driver d sound.drivers there in
    (all_at RoutineFits d.routines number routine fits.routines is).few

few_instructions : (set : Set) (driver number : ℕ) (routine : RoutineOf) → IsSound set
    → routine_of set driver number ≡ Some routine → length routine.code ≤ MAX_INSTRUCTIONS
few_instructions set driver number routine sound is =
    elim (eqb_tells number default_number) [
      | inl own ↦
          let there : Some default_routine ≡ Some routine = rw own.0 at is in
          let same : default_routine ≡ routine = cc in
          subst (λ (r : RoutineOf). length r.code ≤ MAX_INSTRUCTIONS) same (omega arith)
      | inr other ↦
          few_in set driver number routine sound (slice_get set.drivers driver) refl
          (rw other.0 at is)
    ]

module _ (set : Set) (typable : IsTypable set) (sound : IsSound set) (threads : ℕ)
    (events : List Event) (v : SlotWorld) (rep : Means set v (run set threads events).world)
    (t : ℕ) (x : SlotThread) (found : slice_get v.threads t ≡ Some x) where
  abbrev w : World
  w = world set typable sound threads events v rep t x found

  abbrev states : States
  states = known set typable sound threads events v rep t x found

  pub has_room : length x.frames < MAX_FRAMES
  has_room =
      let there : (y : Thread) × (slice_get w.threads t ≡ Some y)
      × AlikeThread set states w.shared (meant_thread (named v.shared) x) y =
      run_thread set typable sound threads events v rep t x found in
      let few : length (frames_on w t) ≤ 18 =
      few_frames set w t sound (keeps set typable sound threads events v rep t x found).falls in
      let same : frames_on w t ≡ there.0.frames.items = frames_there w t there.0 there.1 in
      let all : length (frames_on w t) ≡ length there.0.frames.items = ap length same in
      let meant : length (map (meant_frame (named v.shared)) x.frames)
      ≡ length there.0.frames.items =
      as_many set states w.shared None (map (meant_frame (named v.shared)) x.frames)
      there.0.frames.items there.2.frames in
      let long : length (map (meant_frame (named v.shared)) x.frames) ≡ length x.frames =
      length-map x.frames (meant_frame (named v.shared)) in
      omega arith

  -- the routine of the run that it can't be told from
  pub record RunRoutine (a : Activation) : Type 0 where
    pub steps : StepsFrame set w t
    pub routine : Activation
    pub is : steps.frame ≡ Routine routine
    pub like : AlikeActivation set states None (meant_routine (named v.shared) a) routine
    pub top : OnTop set states w.shared (Routine routine)

  run_routine_on : (a : Activation) (h : StepsFrame set w t) (f : Frame) → h.frame ≡ f
      → AlikeFrame set states w.shared None (Routine (meant_routine (named v.shared) a)) f
      → TopsRun set typable sound threads events v rep t x found f → RunRoutine a
  run_routine_on a h (Routine c) is like tops =
      record { steps = h; routine = c; is = is; like = like; top = tops.top }
  run_routine_on a h (Walk n) is like tops = absurd like
  run_routine_on a h (CancelFrame c) is like tops = absurd like

  pub run_routine : (a : Activation) → top_frame x.frames ≡ Some (SlotRoutine a) → RunRoutine a
  run_routine a is =
      let h : (h : StepsFrame set w t)
      × AlikeFrame set states w.shared None (Routine (meant_routine (named v.shared) a)) h.frame =
      run_steps set typable sound threads events v rep t x found (SlotRoutine a) is in
      run_routine_on a h.0 h.0.frame refl h.1
      (tops_run set typable sound threads events v rep t x found h.0)

  module _ (a : Activation) (is : top_frame x.frames ≡ Some (SlotRoutine a)) where
    abbrev here : RunRoutine a
    here = run_routine a is

    abbrev c : Activation
    c = here.routine

    pub has_instruction : (i : Instr)
        × (instruction_at set a.driver a.routine a.position ≡ Some i)
    has_instruction =
        let there : (i : Instr) × (instruction_at set c.driver c.routine c.position ≡ Some i) =
        some_found (instruction_at set c.driver c.routine c.position)
        (λ none. never_lacks set states w.shared c here.top (no_instruction none)) in (
          there.0,
          ap (λ (y : Activation). instruction_at set y.driver y.routine y.position) here.like.is
              ∙ there.1,
        )

    pub is_near : a.position < MAX_INSTRUCTIONS
    is_near =
        let stays : Stays set states w.shared.issued here.top.stands.0 c = here.top.stands.1 in
        let few : length here.top.stands.0.code ≤ MAX_INSTRUCTIONS =
        few_instructions set c.driver c.routine here.top.stands.0 sound stays.is_of in
        let within : c.position < length here.top.stands.0.code = stays.within in
        let same : a.position ≡ c.position =
        ap (λ (y : Activation). y.position) here.like.is in
        omega arith
