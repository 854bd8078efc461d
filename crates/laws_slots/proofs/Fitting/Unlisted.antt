-- A key that is inserted or started stands in no list: after the step it stands in one, and no
-- packet of a run stands in two.
use Rattle.std.proofs.Common.{◌≡◌, ◌≤◌, ◌+◌, ◌-◌, ◌++◌, ◌∙◌, ℕ, Bool, true, false, List, [], ◌∷◌, length, take, Option, Some, refl, arith, map, inl, inr, ap, sym, subst}
use Rattle.std.specs.Prelude.{◌||◌, slice_get, if◌then◌else◌, ◌&&◌}
use Rattle.std.specs.List.{list_any}
use Rattle.std.proofs.lemmas.Bool.{eq-eqb}
use Rattle.std.proofs.lemmas.Bool.Decides.{eqb_tells}
use Rattle.model.specs.declared.event.Event.{Event}
use Rattle.model.specs.declared.event.Event.TheVariants.{Step}
use Rattle.model.specs.declared.instr.Instr.TheVariants.{Insert, Start}
use Rattle.model.specs.declared.instr.Instr.{Instr}
use Rattle.model.specs.declared.world.Activation.{Activation}
use Rattle.model.specs.Queues.{StartState, inserted, is_linked, started}
use Rattle.model.specs.Run.{Run, run}
use Rattle.model.specs.Set.{Set, instruction_at, has_cancel}
use Rattle.model.specs.Sound.{IsSound}
use Rattle.model.specs.Typable.{IsTypable}
use Rattle.model.specs.World.{Shared}
use Rattle.laws_runs.proofs.Accepted.Laws.{accepted_rules}
use Rattle.laws_runs.proofs.Claims.Waiting.{to_start_put}
use Rattle.laws_runs.proofs.Holders.Queued.{times_pushed, times_put}
use Rattle.laws_runs.proofs.Holders.Started.{waits_given, waits_in}
use Rattle.laws_runs.specs.Holder.{is_live, times_in, times_listed, times_on, times_queued, times_to_start}
use Rattle.laws_slots.proofs.Laws.{events_show}
use Rattle.laws_slots.specs.Fits.{CanBeListed, HasQueue, HasStart, in_queues, to_start, HasKey}
use Rattle.laws_slots.specs.GoOn.{EventShows}
use Rattle.laws_slots.specs.Rep.{Means, MeansShared, meant_lists, meant_start, named}
use Rattle.laws_slots.specs.SlotEvents.{slot_event}
use Rattle.laws_slots.specs.SlotStep.{insert_step, instruction_step, key_at, routine_step, start_step, thread_step, top_frame, top_step, start_packet_step, key_read}
use Rattle.laws_slots.specs.Slots.{SlotFrame, SlotRoutine, SlotShared, SlotThread, SlotWorld, with_slot_queue, with_slot_start, packet_at}
use Rattle.model.specs.declared.world.Packet.{Packet}
use Rattle.model.specs.declared.set.QueueName.TheVariants.{DeviceQueue}

both : (one other : Bool) → one ≡ false → other ≡ false → (one || other) ≡ false
both false other is others = others
both true other is others = cc

-- a number that is counted in no list stands in none
unlisted_in : (entries : List ℕ) (k : ℕ) → times_in entries k ≡ 0 → is_linked entries k ≡ false
unlisted_in [] k none = refl
unlisted_in (n ∷ entries) k none =
    elim (eqb_tells n k) [
      | inl e ↦ absurd (let one = rw e.0 at none in omega (arith, one))
      | inr e ↦
          let others = rw e.0 at none in
          rw e.0 (unlisted_in entries k (omega (arith, others)))
    ]

unlisted_on : (lists : List (List ℕ)) (k : ℕ) → times_on lists k ≡ 0
    → list_any (λ entries. is_linked entries k) lists ≡ false
unlisted_on [] k none = refl
unlisted_on (entries ∷ lists) k none =
    let first : is_linked entries k ≡ false = unlisted_in entries k (omega arith) in
    rw first (unlisted_on lists k (omega arith))

unqueued : (queues : List (List (List ℕ))) (k : ℕ) → times_queued queues k ≡ 0
    → in_queues queues k ≡ false
unqueued [] k none = refl
unqueued (lists ∷ queues) k none =
    let first : list_any (λ entries. is_linked entries k) lists ≡ false =
    unlisted_on lists k (omega arith) in
    let others : in_queues queues k ≡ false = unqueued queues k (omega arith) in
    both _ _ first others

unstarted : (starts : List StartState) (k : ℕ) → times_to_start starts k ≡ 0
    → to_start starts k ≡ false
unstarted [] k none = refl
unstarted (start ∷ starts) k none =
    let first : is_linked start.start_list k ≡ false =
    unlisted_in start.start_list k (omega arith) in
    let waits : is_linked start.device_queue k ≡ false =
    unlisted_in start.device_queue k (omega arith) in
    rw (first, waits) (unstarted starts k (omega arith))

-- what keys name stands as often in lists as they do, or oftener
module _ (name : ℕ → ℕ) (k : ℕ) where
  times_named : (keys : List ℕ) → times_in keys k ≤ times_in (map name keys) (name k)
  times_named [] = omega arith
  times_named (j ∷ keys) =
      let others = times_named keys in
      elim (eqb_tells j k) [
        | inl e ↦ rw (e.0, eq-eqb (name j) (name k) (ap name e.1)) (omega (arith, others))
        | inr e ↦ rw e.0 (omega (arith, others))
      ]

  times_named_on : (lists : List (List ℕ)) → times_on lists k
      ≤ times_on (meant_lists name lists) (name k)
  times_named_on [] = omega arith
  times_named_on (keys ∷ lists) =
      omega (arith, times_named keys, times_named_on lists)

  times_named_queued : (queues : List (List (List ℕ))) → times_queued queues k
      ≤ times_queued (map (meant_lists name) queues) (name k)
  times_named_queued [] = omega arith
  times_named_queued (lists ∷ queues) =
      omega (arith, times_named_on lists, times_named_queued queues)

  times_named_to_start : (starts : List StartState) → times_to_start starts k
      ≤ times_to_start (map (meant_start name) starts) (name k)
  times_named_to_start [] = omega arith
  times_named_to_start (start ∷ starts) =
      omega (
        arith,
        times_named start.start_list,
        times_named start.device_queue,
        times_named_to_start starts,
      )

  times_meant : (s : SlotShared) (r : Shared) → MeansShared name s r
      → times_queued s.queues k + times_to_start s.starts k ≤ times_listed r (name k)
  times_meant s r means =
      let queues : times_queued s.queues k ≤ times_queued r.queues (name k) =
      rw means.queues at (times_named_queued s.queues) in
      let starts : times_to_start s.starts k ≤ times_to_start r.starts (name k) =
      rw means.starts at (times_named_to_start s.starts) in
      omega (arith, queues, starts)

at_most_one : (b : Bool) → (if b then 1 else 0) ≤ 1
at_most_one true = omega arith
at_most_one false = omega arith

module _ (set : Set) (typable : IsTypable set) (sound : IsSound set) (threads : ℕ)
    (events : List Event) (v : SlotWorld) (rep : Means set v (run set threads events).world)
    (t : ℕ) (x : SlotThread) (found : slice_get v.threads t ≡ Some x) (a : Activation)
    (top : top_frame x.frames ≡ Some (SlotRoutine a)) where
  abbrev s : SlotShared
  s = v.shared

  abbrev later : Run
  later = run set threads (events ++ Step t ∷ [])

  abbrev after : SlotShared
  after = (slot_event set v 0 (Step t)).world.shared

  shows : EventShows set threads events v 0 (Step t)
  shows = events_show set typable sound threads events v 0 (Step t) rep tt

  abbrev below : List SlotFrame
  below = take (length x.frames - 1) x.frames

  stepped : (i : Instr) → instruction_at set a.driver a.routine a.position ≡ Some i
      → after ≡ (instruction_step set s t (top_frame below) a i).shared
  stepped i at =
      ap (λ (o : Option SlotThread). (thread_step set v t o).world.shared) found
      ∙ ap (λ (o : Option SlotFrame). (top_step set v t x below o).world.shared) top
      ∙ ap (λ (o : Option Instr). (routine_step set s t (top_frame below) a o).shared) at

  -- after the step it stands in one list at most
  once : (k : ℕ) → times_queued after.queues k + times_to_start after.starts k ≤ 1
  once k =
      let few : times_listed later.world.shared (named after k)
      ≤ (if is_live later (named after k) then 1 else 0) =
      (accepted_rules set typable sound threads (events ++ Step t ∷ [])).holders.once
      (named after k) in
      let one : (if is_live later (named after k) then 1 else 0) ≤ 1 =
      at_most_one (is_live later (named after k)) in
      let meant : times_queued after.queues k + times_to_start after.starts k
      ≤ times_listed later.world.shared (named after k) =
      times_meant (named after) k after later.world.shared shows.means.shared in
      omega (arith, few, one, meant)

  in_none : (k : ℕ) → times_queued s.queues k + times_to_start s.starts k ≡ 0 → CanBeListed s k
  in_none k none =
      record {
        queues = unqueued s.queues k (omega (arith, none));
        starts = unstarted s.starts k (omega (arith, none));
      }

  pub insert_unlisted : (r q : ℕ)
      → instruction_at set a.driver a.routine a.position ≡ Some (Insert r q)
      → HasQueue s a.device q → CanBeListed s (key_at a r)
  insert_unlisted r q at has =
      let k : ℕ = key_at a r in
      let entries : List ℕ = has.entries in
      let is : after ≡ with_slot_queue s a.device q (inserted entries k) =
      stepped (Insert r q) at
      ∙ ap (λ (o : Option (List ℕ)). (insert_step s a q k o).shared) has.is in
      let lists : Shared =
      record later.world.shared { queues = s.queues } in
      let put : times_queued (with_slot_queue s a.device q (inserted entries k)).queues k
      + times_in entries k ≡ times_queued s.queues k + times_in (inserted entries k) k =
      times_put lists a.device q entries (inserted entries k) k has.is in
      let one = eq-eqb k k refl in
      let pushed = rw one at (times_pushed entries k k) in
      let few = rw is at (once k) in
      in_none k (omega (arith, put, pushed, few))

  -- IoStartPacket leaves the queues, and puts the packet where it stands then
  started_lists : (k : ℕ) (start : StartState) (waits : Bool) (p : Packet)
      → packet_at s k ≡ Some p
      → ((start_packet_step s a k start waits).shared.queues ≡ s.queues)
      × ((start_packet_step s a k start waits).shared.starts
      ≡ (with_slot_start s a.device (started start k)).starts)
  started_lists k start false p lies = (refl, refl)
  started_lists k start true p lies = (rw lies refl, rw lies refl)

  pub start_unlisted : (r : ℕ)
      → instruction_at set a.driver a.routine a.position ≡ Some (Start r)
      → HasStart s a.device → HasKey s a r → CanBeListed s (key_at a r)
  start_unlisted r at has key =
      let k : ℕ = key_at a r in
      let start : StartState = has.start in
      let same : key.key ≡ k = ap key_read (sym key.is) in
      let lies : packet_at s k ≡ Some key.packet =
      subst (λ (j : ℕ). packet_at s j ≡ Some key.packet) same key.lies in
      let lists : ((start_packet_step s a k start
      (has_cancel set a.driver DeviceQueue && start.busy)).shared.queues ≡ s.queues)
      × ((start_packet_step s a k start
      (has_cancel set a.driver DeviceQueue && start.busy)).shared.starts
      ≡ (with_slot_start s a.device (started start k)).starts) =
      started_lists k start (has_cancel set a.driver DeviceQueue && start.busy) key.packet lies in
      let is : after ≡
      (start_packet_step s a k start (has_cancel set a.driver DeviceQueue && start.busy)).shared =
      stepped (Start r) at
      ∙ ap (λ (o : Option StartState). (start_step set s a k o).shared) has.is in
      let put : times_to_start (with_slot_start s a.device (started start k)).starts k
      + waits_in start k ≡ times_to_start s.starts k + waits_in (started start k) k =
      to_start_put s.starts a.device start (started start k) k has.is in
      let one = eq-eqb k k refl in
      let given = rw one at (waits_given start k k) in
      let few = rw (is, lists.0, lists.1) at (once k) in
      in_none k (omega (arith, put, given, few))
