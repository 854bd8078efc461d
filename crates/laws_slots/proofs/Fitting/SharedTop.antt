-- The routine on top of a thread of slots that mean the world of a run of an accepted set, and the
-- run's routine that it can't be told from: that lacks nothing, fills no list, and takes no lock
-- that its thread owns.
use Rattle.std.proofs.Common.{◌≡◌, ℕ, List, Option, None, Some, false, refl, sym, ◌∙◌, ap, subst}
use Rattle.std.specs.Prelude.{slice_get}
use Rattle.model.specs.declared.event.Event.{Event}
use Rattle.model.specs.declared.instr.Instr.{Instr}
use Rattle.model.specs.declared.world.Activation.{Activation}
use Rattle.model.specs.declared.world.Frame.{Frame}
use Rattle.model.specs.declared.world.Frame.TheVariants.{Routine, Walk, Cancel as CancelFrame}
use Rattle.model.specs.Effect.{Outcome}
use Rattle.model.specs.Run.{run}
use Rattle.model.specs.Set.{Set, instruction_at}
use Rattle.model.specs.Sound.{IsSound}
use Rattle.model.specs.Trace.{Entry}
use Rattle.model.specs.Typable.{IsTypable}
use Rattle.model.specs.World.{World}
use Rattle.laws_runs.proofs.Accepted.Keeps.{Keeps}
use Rattle.laws_runs.proofs.Alike.Frames.{AlikeActivation, AlikeFrame}
use Rattle.laws_runs.proofs.Claims.Full.{OwnApart, never_full, own_apart}
use Rattle.laws_runs.proofs.Holders.Counts.{Holding}
use Rattle.laws_runs.proofs.Holders.Runs.{top_holding}
use Rattle.laws_runs.proofs.Runs.Events.{StepsFrame}
use Rattle.laws_runs.proofs.States.Frames.{IsGood}
use Rattle.laws_runs.proofs.States.Known.{led}
use Rattle.laws_runs.proofs.States.Lacking.{never_lacks}
use Rattle.laws_runs.proofs.Steps.Comes.{Comes, Executing, Lacks}
use Rattle.laws_runs.specs.ArrivingStates.{States}
use Rattle.laws_slots.proofs.Finding.{alike, good, keeps, run_steps}
use Rattle.laws_slots.proofs.Threads.{Tops, tops_at}
use Rattle.laws_slots.specs.Rep.{Means, meant_routine, named}
use Rattle.laws_slots.specs.SlotStep.{top_frame}
use Rattle.laws_slots.specs.Slots.{SlotRoutine, SlotThread, SlotWorld}

module _ (set : Set) (typable : IsTypable set) (sound : IsSound set) (threads : ℕ)
    (events : List Event) (v : SlotWorld) (rep : Means set v (run set threads events).world)
    (t : ℕ) (x : SlotThread) (found : slice_get v.threads t ≡ Some x) where
  abbrev pub known : States
  known = (led set typable sound).0

  abbrev pub world : World
  world = (run set threads events).world

  abbrev pub past : List Entry
  past = (run set threads events).past

  abbrev its_good : IsGood set known
  its_good = good set typable sound threads events v rep t x found

  abbrev its_keeps : Keeps set known threads world past
  its_keeps = keeps set typable sound threads events v rep t x found

  -- a top frame of the run
  abbrev pub TopsRun : Frame → Type 0
  TopsRun g =
      Tops set known threads world past its_good its_keeps v rep.shared rep.order rep.cancels
      (alike set typable sound threads events v rep t x found) t g

  pub tops_run : (h : StepsFrame set world t) → TopsRun h.frame
  tops_run h =
      tops_at set known threads world past its_good its_keeps v rep.shared rep.order rep.cancels
      (alike set typable sound threads events v rep t x found) t h

  -- the run's routine, which executes the instruction
  pub record Executed (a : Activation) (i : Instr) : Type 0 where
    pub routine : Activation
    pub like : AlikeActivation set known None (meant_routine (named v.shared) a) routine
    pub device : routine.device ≡ a.device
    pub at : Executing set routine i
    pub tops : TopsRun (Routine routine)
    pub unfilled : (under : Option Frame) (o : Outcome)
        → Comes set world.shared t under (Routine routine) o → o.full ≡ false

  unfilled_on : (h : StepsFrame set world t) (c : Activation) → h.frame ≡ Routine c
      → TopsRun (Routine c) → (under : Option Frame) (o : Outcome)
      → Comes set world.shared t under (Routine c) o → o.full ≡ false
  unfilled_on h c is tops under o comes =
      let holding : Holding set known world.shared past (Routine c) =
      subst (λ (f : Frame). Holding set known world.shared past f) is
      (top_holding set known world past its_keeps.stands its_keeps.held t h) in
      let apart : OwnApart set known world.shared (Routine c) =
      subst (λ (f : Frame). OwnApart set known world.shared f) is
      (own_apart set known world past its_good its_keeps.stands its_keeps.held its_keeps.claims t h)
      in
      never_full set known world.shared past c holding apart t under o tops.top comes

  executed_on : (a : Activation) (i : Instr)
      → instruction_at set a.driver a.routine a.position ≡ Some i
      → (h : StepsFrame set world t) (f : Frame) → h.frame ≡ f
      → AlikeFrame set known world.shared None (Routine (meant_routine (named v.shared) a)) f
      → TopsRun f → Executed a i
  executed_on a i at h (Routine c) is like tops =
      record {
        routine = c;
        like = like;
        device = sym (ap (λ (y : Activation). y.device) like.is);
        at = sym (ap (λ (y : Activation). instruction_at set y.driver y.routine y.position) like.is)
            ∙ at;
        tops = tops;
        unfilled = unfilled_on h c is tops;
      }
  executed_on a i at h (Walk n) is like tops = absurd like
  executed_on a i at h (CancelFrame c) is like tops = absurd like

  pub executed : (a : Activation) (i : Instr) → top_frame x.frames ≡ Some (SlotRoutine a)
      → instruction_at set a.driver a.routine a.position ≡ Some i → Executed a i
  executed a i is at =
      let steps : (h : StepsFrame set world t)
      × AlikeFrame set known world.shared None (Routine (meant_routine (named v.shared) a)) h.frame
      =
      run_steps set typable sound threads events v rep t x found (SlotRoutine a) is in
      executed_on a i at steps.0 steps.0.frame refl steps.1 (tops_run steps.0)

  -- nothing that it wants is missing
  pub finds_all : (a : Activation) (i : Instr) (e : Executed a i)
      → Lacks set world.shared e.routine → ⊥
  finds_all a i e lacks = never_lacks set known world.shared e.routine e.tops.top lacks
