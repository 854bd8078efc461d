-- A routine that starts packets finds what its device has for StartIo, with room for the packet
-- that it puts there.
use Rattle.std.proofs.Common.{◌≡◌, ℕ, List, [], ◌∷◌, Bool, Option, None, Some, true, false, map, refl, sym, ◌∙◌, ap, inl, inr, is_some, subst}
use Rattle.std.specs.Prelude.{not, option_map, slice_get, if◌then◌else◌}
use Rattle.model.specs.declared.event.Event.{Event}
use Rattle.model.specs.declared.instr.Instr.{Instr}
use Rattle.model.specs.declared.instr.Instr.TheVariants.{Next, Start}
use Rattle.model.specs.declared.world.Activation.{Activation}
use Rattle.model.specs.Action.{Touches}
use Rattle.model.specs.Queues.{StartState, has_room_for_next, has_room_to_start, next_started, room_for_next, started, head_of}
use Rattle.model.specs.Run.{run}
use Rattle.model.specs.Set.{Set, instruction_at, has_cancel}
use Rattle.model.specs.Sound.{IsSound}
use Rattle.model.specs.Typable.{IsTypable}
use Rattle.model.specs.World.{Shared, next, packet_in, register, start_of, with_start, packet_of}
use Rattle.laws_runs.proofs.States.OnTop.{packet_there, runs}
use Rattle.laws_runs.proofs.Steps.Comes.{no_start, starts_next, starts_packet, works_on_queues, Comes, Executing, Reads, arms_waiting, disarms_next, waits_armed, works_on_waiting}
use Rattle.laws_runs.proofs.Steps.Words.{starts_packets}
use Rattle.laws_runs.proofs.Tests.{not_false}
use Rattle.laws_slots.proofs.Fitting.SharedCells.{some_found}
use Rattle.laws_slots.proofs.Fitting.SharedQueues.{full_same, meant_found}
use Rattle.laws_slots.proofs.Fitting.SharedTop.{Executed, executed, finds_all, known}
use Rattle.laws_slots.proofs.Lists.{start_meant}
use Rattle.laws_slots.specs.Fits.{CanStart, CanStartNext, HasStart, CanDisarmNext}
use Rattle.laws_slots.specs.Rep.{Means, meant_start, named}
use Rattle.laws_slots.specs.SlotStep.{top_frame}
use Rattle.laws_slots.specs.Slots.{SlotRoutine, SlotThread, SlotWorld, slot_start}
use Rattle.model.specs.declared.set.QueueName.TheVariants.{DeviceQueue}
use Rattle.model.specs.declared.world.Packet.{Packet}
use Rattle.model.specs.declared.world.Frame.TheVariants.{Routine}
use Rattle.model.specs.Effect.{Outcome, armer_waiting, next_disarmed}
use Rattle.laws_runs.proofs.States.StartsFit.{StartFits, head_low, start_issued}
use Rattle.laws_slots.proofs.Keys.{Found, found_low}
use Rattle.laws_slots.proofs.Laws.{keyed_before}

-- there is as much room in what is meant
module _ (name : ℕ → ℕ) where
  room_same : (starts waiting : List ℕ) (busy : Bool) (slot : Option ℕ)
      → has_room_to_start (meant_start name
      (record { start_list = starts; device_queue = waiting; busy = busy; slot = slot }))
      ≡ has_room_to_start
      (record { start_list = starts; device_queue = waiting; busy = busy; slot = slot })
  room_same starts waiting true slot = ap not (full_same name waiting)
  room_same starts waiting false slot = ap not (full_same name starts)

  next_same : (starts waiting : List ℕ)
      → room_for_next (map name starts) (map name waiting) ≡ room_for_next starts waiting
  next_same starts [] = refl
  next_same starts (k ∷ waiting) = ap not (full_same name starts)

  head_named : (keys : List ℕ) → head_of (map name keys) ≡ option_map name (head_of keys)
  head_named [] = refl
  head_named (k ∷ keys) = refl

  head_lies : (A : ℕ → Type 0) (keys : List ℕ) (n : ℕ) → head_of (map name keys) ≡ Some n
      → ((k : ℕ) → head_of keys ≡ Some k → A (name k)) → A n
  head_lies A [] n first h = cc
  head_lies A (k ∷ keys) n first h =
      let is : name k ≡ n = cc in subst A is (h k refl)

module _ (set : Set) (typable : IsTypable set) (sound : IsSound set) (threads : ℕ)
    (events : List Event) (v : SlotWorld) (rep : Means set v (run set threads events).world)
    (t : ℕ) (x : SlotThread) (found : slice_get v.threads t ≡ Some x) (a : Activation)
    (top : top_frame x.frames ≡ Some (SlotRoutine a)) where
  abbrev s : Shared
  s = (run set threads events).world.shared

  module _ (i : Instr) (at : instruction_at set a.driver a.routine a.position ≡ Some i) where
    abbrev e : Executed set typable sound threads events v rep t x found a i
    e = executed set typable sound threads events v rep t x found a i top at

    start_same : option_map (meant_start (named v.shared)) (slot_start v.shared a.device)
        ≡ start_of s e.routine.device
    start_same =
        start_meant (named v.shared) v.shared s rep.shared a.device
        ∙ ap (λ (d : ℕ). start_of s d) (sym e.device)

    pub has_start : starts_packets i ≡ true → HasStart v.shared a.device
    has_start of =
        let there : (start : StartState) × (start_of s e.routine.device ≡ Some start) =
        some_found (start_of s e.routine.device)
        (λ none. finds_all set typable sound threads events v rep t x found a i e
        (no_start i e.at of none)) in
        let its : (start : StartState) × (slot_start v.shared a.device ≡ Some start) =
        meant_found (meant_start (named v.shared)) (slot_start v.shared a.device) there.0
        (start_same ∙ there.1) in
        record { start = its.0; is = its.1 }

    meant_there : (start : StartState) → slot_start v.shared a.device ≡ Some start
        → start_of s e.routine.device ≡ Some (meant_start (named v.shared) start)
    meant_there start is =
        sym start_same
        ∙ ap (λ (o : Option StartState). option_map (meant_start (named v.shared)) o) is

  -- a list has room, whether or not the packet's cancel routine is set or emptied too
  start_room : (c : Activation) (r n : ℕ) (start : StartState)
      → ((o : Outcome) → Comes set s t None (Routine c) o → o.full ≡ false)
      → Executing set c (Start r) → Reads s c r n → start_of s c.device ≡ Some start
      → (waits : Bool) → waits_armed set c start ≡ waits → (o : Option Packet)
      → packet_of s n ≡ o → not (has_room_to_start start) ≡ false
  start_room c r n start unfilled at reads there false is o has =
      unfilled _
      (works_on_queues c (Start r) (next c) s.queues
      (with_start s c.device (started start n)).starts (Touches n ∷ [])
      (not (has_room_to_start start)) at (starts_packet r n start reads there (inl is)))
  start_room c r n start unfilled at reads there true is None has =
      unfilled _
      (works_on_queues c (Start r) (next c) s.queues
      (with_start s c.device (started start n)).starts (Touches n ∷ [])
      (not (has_room_to_start start)) at (starts_packet r n start reads there (inr has)))
  start_room c r n start unfilled at reads there true is (Some p) has =
      unfilled _
      (works_on_waiting c (Start r) (with_start s c.device (started start n)).starts n p
      (Some (armer_waiting c)) (not (has_room_to_start start)) at has
      (arms_waiting r n start reads there is))

  pub can_start : (r : ℕ)
      → instruction_at set a.driver a.routine a.position ≡ Some (Start r)
      → CanStart v.shared a.device
  can_start r at start is =
      let here : Executed set typable sound threads events v rep t x found a (Start r) =
      e (Start r) at in
      let c : Activation = here.routine in
      let reads : (n : ℕ) × (packet_in s (register c r) ≡ Some n) =
      some_found (packet_in s (register c r))
      (packet_there set (known set typable sound threads events v rep t x found) s c (Start r) r
      (runs set (known set typable sound threads events v rep t x found) s c (Start r)
      here.tops.top here.at) refl) in
      let meant : StartState = meant_start (named v.shared) start in
      let full : not (has_room_to_start meant) ≡ false =
      start_room c r reads.0 meant (here.unfilled None) here.at reads.1
      (meant_there (Start r) at start is) (waits_armed set c meant) refl (packet_of s reads.0) refl
      in
      sym (room_same (named v.shared) start.start_list start.device_queue start.busy start.slot)
      ∙ not_false (has_room_to_start meant) full

  next_room : (c : Activation) (start : StartState)
      → ((o : Outcome) → Comes set s t None (Routine c) o → o.full ≡ false)
      → Executing set c Next → start_of s c.device ≡ Some start
      → (o : Option ℕ) → next_disarmed set c start ≡ o
      → ((n : ℕ) → o ≡ Some n → (p : Packet) × (packet_of s n ≡ Some p))
      → not (has_room_for_next start) ≡ false
  next_room c start unfilled at there None is finds =
      unfilled _
      (works_on_queues c Next (next c) s.queues
      (with_start s c.device (next_started start)).starts [] (not (has_room_for_next start)) at
      (starts_next start there is))
  next_room c start unfilled at there (Some n) is finds =
      let its : (p : Packet) × (packet_of s n ≡ Some p) = finds n refl in
      unfilled _
      (works_on_waiting c Next (with_start s c.device (next_started start)).starts n its.0 None
      (not (has_room_for_next start)) at its.1 (disarms_next n start there is))

  -- the packet that is started next is there
  pub next_lies : instruction_at set a.driver a.routine a.position ≡ Some Next
      → (start : StartState) (k : ℕ) → slot_start v.shared a.device ≡ Some start
      → head_of start.device_queue ≡ Some k → Found v.shared s k (named v.shared k)
  next_lies at start k is first =
      let here : Executed set typable sound threads events v rep t x found a Next = e Next at in
      let c : Activation = here.routine in
      let meant : StartState = meant_start (named v.shared) start in
      let fits : StartFits s.issued meant =
      start_issued set s c.device meant (meant_there Next at start is) here.tops.top.fits.starts in
      found_low (named v.shared) v.shared s
      (keyed_before set typable sound threads events v rep)
      k (named v.shared k) refl
      (head_low s.issued meant fits (map (named v.shared) start.device_queue) (named v.shared k)
      fits.device_queue
      (head_named (named v.shared) start.device_queue
      ∙ ap (λ (o : Option ℕ). option_map (named v.shared) o) first))

  pub can_disarm_next : instruction_at set a.driver a.routine a.position ≡ Some Next
      → CanDisarmNext set v.shared a.driver a.device
  can_disarm_next at start k is has first =
      ap is_some (next_lies at start k is first).at

  disarmed_lies : instruction_at set a.driver a.routine a.position ≡ Some Next
      → (start : StartState) → slot_start v.shared a.device ≡ Some start → (has : Bool)
      → (n : ℕ)
      → (if has then head_of (map (named v.shared) start.device_queue) else None) ≡ Some n
      → (p : Packet) × (packet_of s n ≡ Some p)
  disarmed_lies at start is false n first = cc
  disarmed_lies at start is true n first =
      head_lies (named v.shared) (λ m. (p : Packet) × (packet_of s m ≡ Some p))
      start.device_queue n first
      (λ k head. let there : Found v.shared s k (named v.shared k) = next_lies at start k is head
      in (there.packet, there.of))

  pub can_start_next : instruction_at set a.driver a.routine a.position ≡ Some Next
      → CanStartNext v.shared a.device
  can_start_next at start is =
      let here : Executed set typable sound threads events v rep t x found a Next = e Next at in
      let c : Activation = here.routine in
      let meant : StartState = meant_start (named v.shared) start in
      let full : not (has_room_for_next meant) ≡ false =
      next_room c meant (here.unfilled None) here.at (meant_there Next at start is)
      (next_disarmed set c meant) refl
      (λ n first. disarmed_lies at start is (has_cancel set c.driver DeviceQueue) n first) in
      sym (next_same (named v.shared) start.start_list start.device_queue)
      ∙ not_false (has_room_for_next meant) full
