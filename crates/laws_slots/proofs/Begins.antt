-- Events that make no packet: IoCancelIrp, a DPC and a StartIo routine that begin, and an
-- interrupt; and a request for which there is no room.
use Rattle.std.proofs.Common.{◌≡◌, ◌<◌, ℕ, Bool, true, false, List, [], ◌∷◌, Option, None, Some, refl, sym, ◌∙◌, ap, subst, map, inl, inr, nat_eq, nat_lt}
use Rattle.std.specs.Prelude.{◌&&◌, not, option_map, slice_get, slice_index_or, slice_set, if◌then◌else◌, ⊤}
use Rattle.std.proofs.lemmas.Bool.Decides.{eqb_tells}
use Rattle.std.proofs.lemmas.Bool.{cases_lt}
use Rattle.std.proofs.lemmas.List.{length-map}
use Rattle.model.specs.declared.event.Reply.{Reply}
use Rattle.model.specs.declared.event.Reply.TheVariants.{Stepped, Finished, Idle, Refused}
use Rattle.model.specs.declared.set.Device.{Device}
use Rattle.model.specs.declared.status.Major.{Major}
use Rattle.model.specs.declared.world.CancelStep.TheVariants.{Acquire as AcquireStep}
use Rattle.model.specs.declared.world.Irql.{Irql}
use Rattle.model.specs.declared.world.Irql.TheVariants.{Dispatch as DispatchLevel}
use Rattle.model.specs.declared.world.Packet.{Packet}
use Rattle.model.specs.declared.world.Thread.{Thread}
use Rattle.model.specs.declared.world.Value.TheVariants.{Ref}
use Rattle.model.specs.Effect.{routine_of_device}
use Rattle.model.specs.Events.{Change, can_issue, cancel_of, cancel_on, cancelling, dpc_activation, dpc_begun, dpc_on, interrupt_on, interrupted, is_idle, issue_on, issued, rooted, startio_for, startio_from, startio_on, unchanged}
use Rattle.model.specs.Queues.{StartState, head_of, without_first_to_start, without_head}
use Rattle.model.specs.Set.{Set}
use Rattle.model.specs.World.{Shared, World, entered, is_queued, packet_of, with_dpc, with_start}
use Rattle.laws_runs.proofs.Past.LivePackets.{find, find_place}
use Rattle.laws_runs.proofs.Past.Packets.{lt_false}
use Rattle.laws_runs.proofs.Tests.{and_false}
use Rattle.laws_slots.specs.Rep.{CancelStands, EachFrame, EachThread, MeansShared, meant_frame, meant_start, meant_thread, named, number_in_slot, packets_in, slotted, then_packet}
use Rattle.laws_slots.specs.Slots.{SlotCancel, SlotRoutine, SlotShared, SlotThread, SlotWorld, slot_at, slot_start, with_slot_start}
use Rattle.laws_slots.specs.SlotEvents.{can_issue_slot, cancel_key, cancel_slot, dpc_slot, has_none, has_number, interrupt_slot, issue_slot, issued_slot, key_of, rooted_slot, slot_queued, startio_from_slots, startio_key, startio_slot, with_slot_dpc, with_slot_thread}
use Rattle.laws_slots.specs.SlotStep.{SlotAnswer, stays}
use Rattle.laws_slots.proofs.Issues.{can_same}
use Rattle.laws_slots.proofs.Keys.{Found, Keyed, found_alone, found_used}
use Rattle.laws_slots.proofs.Left.{cancel_later, same_fewer, same_ordered}
use Rattle.laws_slots.proofs.Lists.{start_meant, start_put}
use Rattle.laws_slots.proofs.Outcomes.{SameSlots, kept_slots}
use Rattle.laws_slots.proofs.Packets.{find_slotted}
use Rattle.laws_slots.proofs.Stacks.{MeansChange, threads_map, threads_put}
use Rattle.laws_slots.proofs.Words.{map_put}

-- the key of a number is that of its packet, if there is one
abbrev KeyOf : List (Option Packet) → ℕ → Option ℕ → Option Packet → Type 0
KeyOf slots n None None = ⊤
KeyOf slots n (Some k) (Some p) = (slot_at slots k ≡ Some p) × (p.number ≡ n)
KeyOf slots n _ _ = ⊥

module _ (slots : List (Option Packet)) (n : ℕ) where
  key_first : (k : ℕ) (o : Option Packet) (later : Option ℕ) (packets : List Packet)
      → slot_at slots k ≡ o → KeyOf slots n later (find packets n)
      → KeyOf slots n (if has_number o n then Some k else later) (find (then_packet o packets) n)
  key_first k None later packets at rest = rest
  key_first k (Some p) later packets at rest =
      elim (eqb_tells p.number n) [
        | inl same ↦ rw same.0 (at, same.1)
        | inr other ↦ rw other.0 rest
      ]

  key_finds : (keys : List ℕ)
      → KeyOf slots n (key_of slots keys n) (find (packets_in slots keys) n)
  key_finds [] = tt
  key_finds (k ∷ keys) =
      key_first k (slot_at slots k) (key_of slots keys n) (packets_in slots keys) refl
      (key_finds keys)

-- the first entry of a list, and the list without it
head_meant : (name : ℕ → ℕ) (keys : List ℕ)
    → head_of (map name keys) ≡ option_map name (head_of keys)
head_meant name [] = refl
head_meant name (k ∷ keys) = refl

tail_meant : (name : ℕ → ℕ) (keys : List ℕ)
    → map name (without_head keys) ≡ without_head (map name keys)
tail_meant name [] = refl
tail_meant name (k ∷ keys) = refl

lt_from : (m n : ℕ) → nat_lt m n ≡ true → m < n
lt_from m n is =
    elim (cases_lt m n) [
      | inl low ↦ low
      | inr high ↦ let no : false ≡ true = sym (lt_false m n high) ∙ is in cc
    ]

module _ (set : Set) (v : SlotWorld) (r : Shared) (keyed : Keyed (named v.shared) v.shared r)
    (cancels : EachThread (CancelStands v.shared) v.threads) where
  abbrev s : SlotShared
  s = v.shared

  abbrev name : ℕ → ℕ
  name = named s

  abbrev means : MeansShared name s r
  means = keyed.means

  abbrev mw : World
  mw = record { threads = map (meant_thread name) v.threads; shared = r }

  pub same_world : (reply : Reply) → MeansChange name (stays v reply) (unchanged mw reply)
  same_world reply =
      record {
        threads = refl;
        shared = means;
        reply = refl;
        live = λ j live. refl;
        order = keyed.order;
        cancels = cancels;
      }

  idle_same : (x : SlotThread) → has_none x ≡ is_idle (meant_thread name x)
  idle_same x =
      ap (λ (n : ℕ). nat_eq n 0) (sym (length-map x.frames (meant_frame name)))

  -- the slots stay as they are
  record Alters (after : SlotShared) (other : Shared) : Type 0 where
    means : MeansShared name after other
    same : SameSlots s after

  cancels_kept : (after : SlotShared) → SameSlots s after
      → EachThread (CancelStands after) v.threads
  cancels_kept after same =
      threads_map (CancelStands s) (CancelStands after) v.threads
      (cancel_later s after (same_fewer s after same)) cancels

  -- and a routine begins on a thread
  begins : (after : SlotShared) (other : Shared) → Alters after other → (t : ℕ) (x : SlotThread)
      (y : Thread) → meant_thread name x ≡ y → EachFrame (CancelStands after) x.frames
      → (b : SlotAnswer) (c : Change) → b.world ≡ with_slot_thread v t after x
      → c.world ≡ record { threads = slice_set mw.threads t y; shared = other }
      → b.reply ≡ c.reply → MeansChange name b c
  begins after other alters t x y is stands b c left right reply =
      record {
        threads = ap (λ (u : SlotWorld). map (meant_thread name) u.threads) left
            ∙ map_put (meant_thread name) v.threads t x
            ∙ ap (λ (z : Thread). slice_set mw.threads t z) is
            ∙ sym (ap (λ (u : World). u.threads) right);
        shared = rw (left, right) alters.means;
        reply = reply;
        live = λ j live. (rw left (alters.same.name j));
        order = rw left (same_ordered s after alters.same keyed.order);
        cancels = rw left (threads_put (CancelStands after) v.threads t x
            (cancels_kept after alters.same) stands);
      }

  -- a DPC is queued, and begins
  queued_same : (d : ℕ) → slot_queued s d ≡ is_queued r d
  queued_same d = ap (λ (dpcs : List Bool). slice_index_or dpcs d false) means.dpcs

  dpc_put : (d : ℕ) (queued : Bool)
      → Alters (with_slot_dpc s d queued) (with_dpc r d queued)
  dpc_put d queued =
      record {
        means = record {
          packets = means.packets;
          issued = means.issued;
          locks = means.locks;
          cells = means.cells;
          queues = means.queues;
          starts = means.starts;
          dpcs = ap (λ (dpcs : List Bool). slice_set dpcs d queued) means.dpcs;
        };
        same = kept_slots name s (with_slot_dpc s d queued) refl refl refl;
      }

  interrupts_if : (d : ℕ) (queued : Bool)
      → MeansChange name
      (if queued then stays v Idle
      else record { world = record v { shared = with_slot_dpc s d true }; reply = Stepped })
      (if queued then unchanged mw Idle else interrupted mw d)
  interrupts_if d true = same_world Idle
  interrupts_if d false =
      let alters : Alters (with_slot_dpc s d true) (with_dpc r d true) = dpc_put d true in
      record {
        threads = refl;
        shared = alters.means;
        reply = refl;
        live = λ j live. refl;
        order = same_ordered s (with_slot_dpc s d true) alters.same keyed.order;
        cancels = cancels_kept (with_slot_dpc s d true) alters.same;
      }

  pub interrupts : (d : ℕ) (routine : Option ℕ)
      → MeansChange name (interrupt_slot v d routine) (interrupt_on mw d routine)
  interrupts d None = same_world Refused
  interrupts d (Some routine) = rw (queued_same d) (interrupts_if d (is_queued r d))

  dpcs_if : (t d routine : ℕ) (x : SlotThread) (idle queued : Bool)
      → MeansChange name
      (if not idle then stays v Refused else
      (if queued
      then record {
        world =
            with_slot_thread v t (with_slot_dpc s d false)
            (rooted_slot DispatchLevel (SlotRoutine (dpc_activation set d routine)));
        reply = Stepped;
      }
      else stays v Idle))
      (if not idle then unchanged mw Refused else
      (if queued then dpc_begun set mw t d (meant_thread name x) routine else unchanged mw Idle))
  dpcs_if t d routine x false queued = same_world Refused
  dpcs_if t d routine x true false = same_world Idle
  dpcs_if t d routine x true true =
      begins (with_slot_dpc s d false) (with_dpc r d false) (dpc_put d false) t
      (rooted_slot DispatchLevel (SlotRoutine (dpc_activation set d routine)))
      (rooted (meant_thread name x) DispatchLevel (dpc_activation set d routine)) refl (tt, tt) _ _
      refl refl refl

  pub dpcs : (t d : ℕ) (o : Option SlotThread) (routine : Option ℕ)
      → MeansChange name (dpc_slot set v t d o routine)
      (dpc_on set mw t d (option_map (meant_thread name) o) routine)
  dpcs t d None routine = same_world Refused
  dpcs t d (Some x) None = same_world Refused
  dpcs t d (Some x) (Some routine) =
      rw (← idle_same x, queued_same d) (dpcs_if t d routine x (has_none x) (is_queued r d))

  -- a StartIo routine begins
  start_after : (d : ℕ) (start : StartState)
      → Alters (with_slot_start s d (without_first_to_start start))
      (with_start r d (without_first_to_start (meant_start name start)))
  start_after d start =
      record {
        means = start_put name s r means d (without_first_to_start start)
            (without_first_to_start (meant_start name start))
            (ap (λ (keys : List ℕ). record (meant_start name start) { start_list = keys })
            (tail_meant name start.start_list));
        same = kept_slots name s (with_slot_start s d (without_first_to_start start)) refl refl
            refl;
      }

  startio_first : (t d routine : ℕ) (x : SlotThread) (start : StartState) (o : Option ℕ)
      → MeansChange name (startio_key set v t d routine start o)
      (startio_for set mw t d (meant_thread name x) routine (meant_start name start)
      (option_map name o))
  startio_first t d routine x start None = same_world Idle
  startio_first t d routine x start (Some k) =
      let driver : ℕ = routine_of_device (slice_get set.devices d) in
      begins (with_slot_start s d (without_first_to_start start))
      (with_start r d (without_first_to_start (meant_start name start))) (start_after d start) t
      (rooted_slot DispatchLevel (SlotRoutine (entered driver routine d (Ref k))))
      (rooted (meant_thread name x) DispatchLevel (entered driver routine d (Ref (name k)))) refl
      (tt, tt) _ _ refl refl refl

  startio_has : (t d routine : ℕ) (x : SlotThread) (o : Option StartState)
      → MeansChange name (startio_from_slots set v t d routine o)
      (startio_from set mw t d (meant_thread name x) routine (option_map (meant_start name) o))
  startio_has t d routine x None = same_world Refused
  startio_has t d routine x (Some start) =
      rw (head_meant name start.start_list)
      (startio_first t d routine x start (head_of start.start_list))

  startio_if : (t d routine : ℕ) (x : SlotThread) (idle : Bool)
      → MeansChange name
      (if idle then startio_from_slots set v t d routine (slot_start s d) else stays v Refused)
      (if idle
      then startio_from set mw t d (meant_thread name x) routine
      (option_map (meant_start name) (slot_start s d))
      else unchanged mw Refused)
  startio_if t d routine x true = startio_has t d routine x (slot_start s d)
  startio_if t d routine x false = same_world Refused

  pub startios : (t d : ℕ) (o : Option SlotThread) (routine : Option ℕ)
      → MeansChange name (startio_slot set v t d o routine)
      (startio_on set mw t d (option_map (meant_thread name) o) routine)
  startios t d None routine = same_world Refused
  startios t d (Some x) None = same_world Refused
  startios t d (Some x) (Some routine) =
      rw (← idle_same x, ← start_meant name s r means d) (startio_if t d routine x (has_none x))

  -- IoCancelIrp begins
  cancel_found : (t n : ℕ) (level : Irql) (x : SlotThread) (k : Option ℕ) (o : Option Packet)
      → n < s.issued → KeyOf s.slots n k (option_map slotted o)
      → MeansChange name (cancel_key v t n level k)
      (cancel_of mw t n level (meant_thread name x) o)
  cancel_found t n level x None None low key = same_world Finished
  cancel_found t n level x (Some k) (Some p) low key =
      let found : Found s r k n =
      subst (λ (m : ℕ). Found s r k m) key.1 (found_used name s r keyed k (slotted p) key.0) in
      begins s r
      (record { means = means; same = kept_slots name s s refl refl refl }) t
      (rooted_slot level (SlotCancel k n AcquireStep)) (cancelling (meant_thread name x) level n)
      refl (
        (
          low,
          λ j u there is. found_alone name s r keyed j k n found
              (ap (λ (o : Option Packet). number_in_slot s.issued o) there ∙ is),
        ),
        tt,
      ) _ _ refl refl refl
  cancel_found t n level x None (Some p) low key = absurd key
  cancel_found t n level x (Some k) None low key = absurd key

  cancel_if : (t n : ℕ) (level : Irql) (x : SlotThread) (idle low other : Bool) → low ≡ other
      → nat_lt n s.issued ≡ low
      → MeansChange name
      (if idle && low then cancel_key v t n level (key_of s.slots s.order n) else stays v Refused)
      (if idle && other then cancel_of mw t n level (meant_thread name x) (packet_of r n)
      else unchanged mw Refused)
  cancel_if t n level x false low other same is = same_world Refused
  cancel_if t n level x true false false same is = same_world Refused
  cancel_if t n level x true false true same is = cc
  cancel_if t n level x true true false same is = cc
  cancel_if t n level x true true true same is =
      cancel_found t n level x (key_of s.slots s.order n) (packet_of r n) (lt_from n s.issued is)
      (subst (λ (o : Option Packet). KeyOf s.slots n (key_of s.slots s.order n) o)
      (ap (λ (packets : List Packet). find packets n) means.packets
      ∙ find_slotted r.packets n
      ∙ ap (λ (o : Option Packet). option_map slotted o) (sym (find_place r.packets n)))
      (key_finds s.slots n s.order))

  pub cancels_begin : (t n : ℕ) (level : Option Irql) (o : Option SlotThread)
      → MeansChange name (cancel_slot v t n level o)
      (cancel_on mw t n level (option_map (meant_thread name) o))
  cancels_begin t n level None = same_world Refused
  cancels_begin t n None (Some x) = same_world Refused
  cancels_begin t n (Some level) (Some x) =
      rw (← idle_same x)
      (cancel_if t n level x (has_none x) (nat_lt n s.issued) (nat_lt n r.issued)
      (ap (λ (issued : ℕ). nat_lt n issued) means.issued) refl)

  -- a request for which there is no room is refused
  refuses_if : (one other : Bool) (b : SlotAnswer) (c : Change) → one ≡ false → other ≡ false
      → MeansChange name (if one then b else stays v Refused)
      (if other then c else unchanged mw Refused)
  refuses_if false false b c first second = same_world Refused
  refuses_if true other b c first second = cc
  refuses_if false true b c first second = cc

  pub refuses : (key t d : ℕ) (major : Major) (argument : ℕ) (o : Option SlotThread)
      (device : Option Device) → can_issue_slot s ≡ false
      → MeansChange name (issue_slot set v key t d major argument o device)
      (issue_on set mw t d major argument (option_map (meant_thread name) o) device)
  refuses key t d major argument None device full = same_world Refused
  refuses key t d major argument (Some x) None full = same_world Refused
  refuses key t d major argument (Some x) (Some device) full =
      let other : can_issue r ≡ false = sym (can_same name s r means keyed.order) ∙ full in
      refuses_if (has_none x && can_issue_slot s) (is_idle (meant_thread name x) && can_issue r)
      (issued_slot set v key t d device major argument)
      (issued set mw t d (meant_thread name x) device major argument)
      (rw full (and_false (has_none x))) (rw other (and_false (is_idle (meant_thread name x))))
