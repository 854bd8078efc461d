-- The device of a routine that executes an instruction about cells has cells, that of one that
-- sends a packet down has one below it.
use Rattle.std.proofs.Common.{◌≡◌, ◌<◌, ℕ, List, Option, None, Some, true, length, refl, is_some, subst}
use Rattle.std.specs.Prelude.{slice_get}
use Rattle.std.proofs.lemmas.Option.{slice_get_within}
use Rattle.model.specs.declared.event.Event.{Event}
use Rattle.model.specs.declared.instr.Instr.{Instr}
use Rattle.model.specs.declared.world.Activation.{Activation}
use Rattle.model.specs.declared.world.Cells.{Cells}
use Rattle.model.specs.Run.{run}
use Rattle.model.specs.Set.{Set, instruction_at, lower_of}
use Rattle.model.specs.Sound.{IsSound}
use Rattle.model.specs.Typable.{IsTypable}
use Rattle.laws_runs.proofs.Steps.Comes.{no_cells, no_lower}
use Rattle.laws_runs.proofs.Steps.Words.{Forwarding, is_of_cells, work_of}
use Rattle.laws_slots.proofs.Fitting.SharedTop.{Executed, executed, finds_all}
use Rattle.laws_slots.specs.Fits.{HasCells}
use Rattle.laws_slots.specs.Rep.{Means}
use Rattle.laws_slots.specs.SlotStep.{top_frame}
use Rattle.laws_slots.specs.Slots.{SlotRoutine, SlotThread, SlotWorld}

-- what a look-up that doesn't fail finds
pub some_found : {A : Type 0} (o : Option A) → (o ≡ None → ⊥) → (y : A) × (o ≡ Some y)
some_found None there = absurd (there refl)
some_found (Some y) there = (y, refl)

pub is_found : {A : Type 0} (o : Option A) → (o ≡ None → ⊥) → is_some o ≡ true
is_found None there = absurd (there refl)
is_found (Some y) there = refl

module _ (set : Set) (typable : IsTypable set) (sound : IsSound set) (threads : ℕ)
    (events : List Event) (v : SlotWorld) (rep : Means set v (run set threads events).world)
    (t : ℕ) (x : SlotThread) (found : slice_get v.threads t ≡ Some x) (a : Activation)
    (top : top_frame x.frames ≡ Some (SlotRoutine a)) (i : Instr)
    (at : instruction_at set a.driver a.routine a.position ≡ Some i) where
  abbrev e : Executed set typable sound threads events v rep t x found a i
  e = executed set typable sound threads events v rep t x found a i top at

  pub has_cells : is_of_cells i ≡ true → HasCells v.shared a.device
  has_cells of =
      let cells : List Cells = (run set threads events).world.shared.cells in
      let there : (y : Cells) × (slice_get cells e.routine.device ≡ Some y) =
      some_found (slice_get cells e.routine.device)
      (λ none. finds_all set typable sound threads events v rep t x found a i e
      (no_cells i e.at of none)) in
      let within : e.routine.device < length cells =
      slice_get_within cells e.routine.device there.0 there.1 in
      rw (rep.shared.cells) (subst (λ (d : ℕ). d < length cells) e.device within)

  pub has_lower : work_of i ≡ Forwarding → is_some (lower_of set a.device) ≡ true
  has_lower sends =
      subst (λ (d : ℕ). is_some (lower_of set d) ≡ true) e.device
      (is_found (lower_of set e.routine.device)
      (λ none. finds_all set typable sound threads events v rep t x found a i e
      (no_lower i e.at sends none)))
