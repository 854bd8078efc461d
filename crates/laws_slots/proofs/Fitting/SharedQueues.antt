-- A queue that an instruction names is there, and has room for the packet that is inserted.
use Rattle.std.proofs.Common.{◌≡◌, ◌<◌, ℕ, List, ◌∷◌, [], Option, None, Some, false, length, map, refl, sym, ◌∙◌, ap, subst}
use Rattle.std.specs.Prelude.{nat_le, option_map, slice_get}
use Rattle.std.proofs.lemmas.Bool.{leb-false}
use Rattle.std.proofs.lemmas.List.{length-map}
use Rattle.std.proofs.lemmas.Option.{slice_get_within}
use Rattle.model.specs.declared.event.Event.{Event}
use Rattle.model.specs.declared.instr.Instr.{Instr}
use Rattle.model.specs.declared.instr.Instr.TheVariants.{Insert}
use Rattle.model.specs.declared.limits.TheConstants.{MAX_ENTRIES, MAX_QUEUES}
use Rattle.model.specs.declared.world.Activation.{Activation}
use Rattle.model.specs.Action.{Touches}
use Rattle.model.specs.Queues.{inserted, is_full}
use Rattle.model.specs.Run.{run}
use Rattle.model.specs.Set.{Set, instruction_at}
use Rattle.model.specs.Sound.{IsSound, queue_named}
use Rattle.model.specs.Typable.{IsTypable}
use Rattle.model.specs.World.{Shared, next, packet_in, queue_of, register, with_queue}
use Rattle.laws_runs.proofs.Lists.{each_at}
use Rattle.laws_runs.proofs.States.Fits.{QueuesFit, queue_row}
use Rattle.laws_runs.proofs.States.OnTop.{packet_there, runs}
use Rattle.laws_runs.proofs.Steps.Comes.{inserts, no_queue, works_on_queues}
use Rattle.laws_slots.proofs.Finding.{keys}
use Rattle.laws_slots.proofs.Fitting.SharedCells.{some_found}
use Rattle.laws_slots.proofs.Fitting.SharedTop.{Executed, executed, finds_all, known}
use Rattle.laws_slots.proofs.Lists.{queue_meant}
use Rattle.laws_slots.specs.Fits.{HasQueue, QueueHasRoom}
use Rattle.laws_slots.specs.Rep.{Means, named}
use Rattle.laws_slots.specs.SlotStep.{top_frame}
use Rattle.laws_slots.specs.Slots.{SlotRoutine, SlotThread, SlotWorld, slot_queue}

-- what is meant is found only where something is
pub meant_found : {A B : Type 0} (f : A → B) (o : Option A) (y : B) → option_map f o ≡ Some y
    → (z : A) × (o ≡ Some z)
meant_found f None y is = cc
meant_found f (Some z) y is = (z, refl)

-- and entries that are meant are as many
pub full_same : (name : ℕ → ℕ) (entries : List ℕ) → is_full (map name entries) ≡ is_full entries
full_same name entries = ap (λ (n : ℕ). nat_le MAX_ENTRIES n) (length-map entries name)

module _ (set : Set) (typable : IsTypable set) (sound : IsSound set) (threads : ℕ)
    (events : List Event) (v : SlotWorld) (rep : Means set v (run set threads events).world)
    (t : ℕ) (x : SlotThread) (found : slice_get v.threads t ≡ Some x) (a : Activation)
    (top : top_frame x.frames ≡ Some (SlotRoutine a)) where
  abbrev s : Shared
  s = (run set threads events).world.shared

  module _ (i : Instr) (at : instruction_at set a.driver a.routine a.position ≡ Some i) where
    abbrev e : Executed set typable sound threads events v rep t x found a i
    e = executed set typable sound threads events v rep t x found a i top at

    queue_same : (q : ℕ)
        → option_map (map (named v.shared)) (slot_queue v.shared a.device q)
        ≡ queue_of s e.routine.device q
    queue_same q =
        queue_meant (named v.shared) v.shared s
        (keys set typable sound threads events v rep t x found) a a.device q
        ∙ ap (λ (d : ℕ). queue_of s d q) (sym e.device)

    low : (q : ℕ) (entries : List ℕ) → queue_of s e.routine.device q ≡ Some entries
        → q < MAX_QUEUES
    low q entries there =
        let row : (lists : List (List ℕ)) × (slice_get s.queues e.routine.device ≡ Some lists)
        × (slice_get lists q ≡ Some entries) =
        queue_row s e.routine.device q entries there in
        subst (λ (n : ℕ). q < n)
        (each_at (QueuesFit s.issued) s.queues e.routine.device row.0 e.tops.top.fits.queued.each
        row.1).0
        (slice_get_within row.0 q entries row.2)

    pub has_queue : (q : ℕ) → queue_named i ≡ Some q → HasQueue v.shared a.device q
    has_queue q names =
        let there : (entries : List ℕ) × (queue_of s e.routine.device q ≡ Some entries) =
        some_found (queue_of s e.routine.device q)
        (λ none. finds_all set typable sound threads events v rep t x found a i e
        (no_queue i q e.at names none)) in
        let its : (entries : List ℕ) × (slot_queue v.shared a.device q ≡ Some entries) =
        meant_found (map (named v.shared)) (slot_queue v.shared a.device q) there.0
        (queue_same q ∙ there.1) in
        record { entries = its.0; is = its.1; low = low q there.0 there.1 }

  pub queue_has_room : (r q : ℕ)
      → instruction_at set a.driver a.routine a.position ≡ Some (Insert r q)
      → QueueHasRoom v.shared a.device q
  queue_has_room r q at entries is =
      let here : Executed set typable sound threads events v rep t x found a (Insert r q) =
      e (Insert r q) at in
      let c : Activation = here.routine in
      let reads : (n : ℕ) × (packet_in s (register c r) ≡ Some n) =
      some_found (packet_in s (register c r))
      (packet_there set (known set typable sound threads events v rep t x found) s c (Insert r q)
      r
      (runs set (known set typable sound threads events v rep t x found) s c (Insert r q)
      here.tops.top here.at) refl) in
      let meant : List ℕ = map (named v.shared) entries in
      let there : queue_of s c.device q ≡ Some meant =
      sym (queue_same (Insert r q) at q)
      ∙ ap (λ (o : Option (List ℕ)). option_map (map (named v.shared)) o) is in
      let full : is_full meant ≡ false =
      here.unfilled None _
      (works_on_queues c (Insert r q) (next c)
      (with_queue s c.device q (inserted meant reads.0)).queues s.starts
      (Touches reads.0 ∷ []) (is_full meant) here.at
      (inserts r q reads.0 meant reads.1 there)) in
      leb-false MAX_ENTRIES (length entries)
      (sym (full_same (named v.shared) entries) ∙ full)
