-- What the instructions about queues do to the rights of a routine's frame: a packet goes from a
-- register to a list or to the current slot, or from one of these to a register.
use Rattle.laws_runs.proofs.Common.{ap, arith, inl, inr, refl, subst, sym, ◌∙◌, Bool, List, None, Option, Some, false, if◌then◌else◌, is_some, length, nat_eq, slice_get, slice_set, true, ℕ, ⊤, ◌&&◌, ◌+◌, ◌<◌, ◌||◌, ◌∷◌, ◌≡◌, Action, next_disarmed, routine_of_device, is_at, is_name, is_packet, is_right, kind_inserted, kind_removed, an_owned_one, demanded, free_kind, handed, handed_at_label, kind_of, least_of, queued_kind, unless, unlink_kind, StartState, dequeued, head_of, inserted, next_started, started, unlinked, with_slot, Set, cancel_routine_of, flow_of, has_cancel, label_of, OperandFits, Shared, at_label, next, packet_of, queue_of, register, start_of, with_queue, with_register, Abs, Kind, BlankKind, Own, QueuedKind, Rule, CancelState, Dropped, Token, Cancelling, Listed, Taken, Instr, Begin, Dequeue, Insert, Next, Remove, Start, Take, Unlink, REGISTERS, QueueName, Declared, DeviceQueue, Activation, Armer, Frame, CancelFrame, Routine, Walk, Packet, Ref, States, frame_rights, names, right, rights, times_at, times_in, times_in_slot, times_named, times_plain, times_started, times_waiting, waits_cancelable, all_at, Runs, Serves, state_of, KindFits, named_same, arrives, arrives_next, has_next, inserts_right, first_none, granted, second_none, unbroken, Executing, Waits, arms_waiting, dequeues_packet, disarms_next, inserts, jumping, puts_in, removes, removes_none, starts_gone, starts_next, starts_packet, takes_none, takes_out, unlinks, is_gone}
use Rattle.laws_runs.proofs.Holders.Counts.{reads_ref}
use Rattle.laws_runs.proofs.Holders.Plain.{plain_in, plain_counts, plain_put, plain_skips}
use Rattle.laws_runs.proofs.Holders.Queued.{times_pushed}
use Rattle.laws_runs.proofs.Holders.Rights.{no_right, not_right, rights_both, rights_turn}
use Rattle.laws_runs.proofs.Holders.Started.{started_put, times_given, times_next, times_slot}
use Rattle.laws_runs.proofs.States.Listed.{HasCancel}
use Rattle.laws_runs.proofs.States.OnTop.{listed_fits}
use Rattle.laws_runs.proofs.Steps.Comes.{Queued, Reads}
use Rattle.laws_runs.proofs.Holders.Started.{times_waited, times_disarmed, started_put}

-- a routine's frame that has the token of its device finds the current slot empty
abbrev pub FreesSlot : States → Shared → Frame → Type 0
FreesSlot states s (Routine a) =
    (start : StartState) → (state_of states a).token ≡ true → start_of s a.device ≡ Some start
    → start.slot ≡ None
FreesSlot states s (Walk n) = ⊤
FreesSlot states s (CancelFrame c) = ⊤

-- a register whose packet is given away had the right to it
pub gives_right : (k : Kind) (fault : Option Rule)
    → least_of (demanded an_owned_one k) fault ≡ None
    → is_right k ≡ true
gives_right k fault rule =
    ap is_right (inserts_right k (first_none (demanded an_owned_one k) fault rule))

-- a register that a packet is taken to had no right
pub free_before : (fault : Option Rule) (k : Kind) → least_of fault (free_kind k) ≡ None
    → is_right k ≡ false
free_before fault k rule =
    not_right k (unbroken (is_packet k) Dropped (second_none fault (free_kind k) rule))

pub free_removed : (fault other : Option Rule) (k : Kind)
    → least_of fault (least_of (free_kind k) other) ≡ None → is_right k ≡ false
free_removed fault other k rule =
    not_right k (unbroken (is_packet k) Dropped
    (first_none (free_kind k) other (second_none fault (least_of (free_kind k) other) rule)))

module _ (set : Set) (states : States) (s : Shared) (a : Activation) (i : Instr)
    (h : Runs set states s a i) where
  -- the registers are as they were
  pub rights_kept : has_next (flow_of i) ≡ true
      → (handed set a.driver (state_of states a) i).kinds ≡ (state_of states a).kinds → (n : ℕ)
      → frame_rights states (Routine (next a)) n ≡ frame_rights states (Routine a) n
  rights_kept on kinds n =
      ap (λ (state : Abs). rights state.kinds a.registers n) (arrives_next set states s a i h on)
      ∙ ap (λ (kinds : List Kind). rights kinds a.registers n) kinds

module _ (set : Set) (states : States) (s : Shared) (a : Activation) (i : Instr)
    (h : Runs set states s a i) (r : ℕ) where
  abbrev pub kinds_with : Kind → List Kind
  kinds_with k = slice_set (state_of states a).kinds r k

  -- a queue without a cancel routine takes the packet out of its register, and gives it back whole
  pub inserts_blank : (q : ℕ) → cancel_routine_of set a.driver q ≡ None
      → (handed set a.driver (state_of states a) (Insert r q)).kinds ≡ kinds_with BlankKind
  inserts_blank q none =
      ap (λ (cancel : Option ℕ). kinds_with (kind_inserted cancel (Declared q))) none

  pub removes_own : (q label : ℕ) → cancel_routine_of set a.driver q ≡ None
      → (handed set a.driver (state_of states a) (Remove r q label)).kinds ≡ kinds_with Own
  removes_own q label none =
      ap (λ (cancel : Option ℕ). kinds_with (kind_removed cancel (Declared q))) none

  -- one with a cancel routine leaves it where it is, and gives no right to one that is taken off
  pub inserts_listed : (q cancel : ℕ) → cancel_routine_of set a.driver q ≡ Some cancel
      → (handed set a.driver (state_of states a) (Insert r q)).kinds
      ≡ kinds_with (QueuedKind (Declared q) Listed)
  inserts_listed q cancel is =
      ap (λ (routine : Option ℕ). kinds_with (kind_inserted routine (Declared q))) is

  pub removes_taken : (q label cancel : ℕ) → cancel_routine_of set a.driver q ≡ Some cancel
      → (handed set a.driver (state_of states a) (Remove r q label)).kinds
      ≡ kinds_with (QueuedKind (Declared q) Taken)
  removes_taken q label cancel is =
      ap (λ (routine : Option ℕ). kinds_with (kind_removed routine (Declared q))) is

  -- a register's packet becomes of another kind
  pub rights_turned : (k : Kind) → has_next (flow_of i) ≡ true
      → (handed set a.driver (state_of states a) i).kinds ≡ kinds_with k → (n : ℕ)
      → frame_rights states (Routine (next a)) n
      + right (kind_of (state_of states a) r) (register a r) n
      ≡ frame_rights states (Routine a) n + right k (register a r) n
  rights_turned k on kinds n =
      let now : frame_rights states (Routine (next a)) n ≡ rights (kinds_with k) a.registers n =
      ap (λ (state : Abs). rights state.kinds a.registers n) (arrives_next set states s a i h on)
      ∙ ap (λ (kinds : List Kind). rights kinds a.registers n) kinds in
      omega (arith, rights_turn s.issued (state_of states a).kinds a.registers r k n h.stays.kinds)

  -- it keeps its right, loses it, or gets one
  pub rights_stay : (k : Kind) → has_next (flow_of i) ≡ true
      → (handed set a.driver (state_of states a) i).kinds ≡ kinds_with k
      → is_right k ≡ is_right (kind_of (state_of states a) r) → (n : ℕ)
      → frame_rights states (Routine (next a)) n ≡ frame_rights states (Routine a) n
  rights_stay k on kinds same n =
      let equal : right k (register a r) n
      ≡ right (kind_of (state_of states a) r) (register a r) n =
      ap (λ (b : Bool). if b then names (register a r) n else 0) same in
      omega (arith, rights_turned k on kinds n)

  pub rights_lost : (k : Kind) (m : ℕ) → has_next (flow_of i) ≡ true
      → (handed set a.driver (state_of states a) i).kinds ≡ kinds_with k → is_right k ≡ false
      → is_right (kind_of (state_of states a) r) ≡ true → Reads s a r m → (n : ℕ)
      → frame_rights states (Routine (next a)) n + (if nat_eq m n then 1 else 0)
      ≡ frame_rights states (Routine a) n
  rights_lost k m on kinds none own reads n =
      let gone : right (kind_of (state_of states a) r) (register a r) n
      ≡ (if nat_eq m n then 1 else 0) =
      rw (own, reads_ref s (register a r) m reads) refl in
      omega (arith, rights_turned k on kinds n, no_right k (register a r) n none)

  pub rights_won : (k : Kind) (m : ℕ) → has_next (flow_of i) ≡ true
      → (handed set a.driver (state_of states a) i).kinds ≡ kinds_with k → is_right k ≡ true
      → is_right (kind_of (state_of states a) r) ≡ false → Reads s a r m → (n : ℕ)
      → frame_rights states (Routine (next a)) n
      ≡ frame_rights states (Routine a) n + (if nat_eq m n then 1 else 0)
  rights_won k m on kinds one free reads n =
      let after : right k (register a r) n ≡ (if nat_eq m n then 1 else 0) =
      rw (one, reads_ref s (register a r) m reads) refl in
      omega (
        arith,
        rights_turned k on kinds n,
        no_right (kind_of (state_of states a) r) (register a r) n free,
      )

  -- a register's packet is given away
  pub rights_given : (m : ℕ) → has_next (flow_of i) ≡ true
      → (handed set a.driver (state_of states a) i).kinds ≡ kinds_with BlankKind
      → is_right (kind_of (state_of states a) r) ≡ true → Reads s a r m → (n : ℕ)
      → frame_rights states (Routine (next a)) n + (if nat_eq m n then 1 else 0)
      ≡ frame_rights states (Routine a) n
  rights_given m on kinds own reads n = rights_lost BlankKind m on kinds refl own reads n

  -- a register is given a packet
  pub rights_put : (k : Kind) (m : ℕ) → has_next (flow_of i) ≡ true
      → (handed set a.driver (state_of states a) i).kinds ≡ kinds_with k
      → is_right (kind_of (state_of states a) r) ≡ false → r < REGISTERS → (n : ℕ)
      → frame_rights states (Routine (next (with_register a r (Ref m)))) n
      ≡ frame_rights states (Routine a) n + right k (Ref m) n
  rights_put k m on kinds free small n =
      let long : length (state_of states a).kinds ≡ REGISTERS = h.stays.sixteen in
      let none : right (kind_of (state_of states a) r) (register a r) n ≡ 0 =
      no_right (kind_of (state_of states a) r) (register a r) n free in
      let both : rights (kinds_with k) (slice_set a.registers r (Ref m)) n
      + right (kind_of (state_of states a) r) (register a r) n
      ≡ rights (state_of states a).kinds a.registers n + right k (Ref m) n =
      rights_both s.issued (state_of states a).kinds a.registers r k (Ref m) n h.stays.kinds
      (omega arith) in
      let now : frame_rights states (Routine (next (with_register a r (Ref m)))) n
      ≡ rights (kinds_with k) (slice_set a.registers r (Ref m)) n =
      ap (λ (state : Abs). rights state.kinds (slice_set a.registers r (Ref m)) n)
      (arrives_next set states s a i h on)
      ∙ ap (λ (kinds : List Kind). rights kinds (slice_set a.registers r (Ref m)) n) kinds in
      omega arith

  pub rights_taken : (m : ℕ) → has_next (flow_of i) ≡ true
      → (handed set a.driver (state_of states a) i).kinds ≡ kinds_with Own
      → is_right (kind_of (state_of states a) r) ≡ false → r < REGISTERS → (n : ℕ)
      → frame_rights states (Routine (next (with_register a r (Ref m)))) n
      ≡ frame_rights states (Routine a) n + (if nat_eq m n then 1 else 0)
  rights_taken m on kinds free small n = rights_put Own m on kinds free small n

  -- it gets none, and the routine jumps
  pub rights_missed : (label : ℕ) → label_of i ≡ Some label
      → (handed_at_label (state_of states a) i).kinds ≡ kinds_with BlankKind
      → is_right (kind_of (state_of states a) r) ≡ false → (n : ℕ)
      → frame_rights states (Routine (at_label a label)) n ≡ frame_rights states (Routine a) n
  rights_missed label labelled kinds free n =
      let now : frame_rights states (Routine (at_label a label)) n
      ≡ rights (kinds_with BlankKind) a.registers n =
      ap (λ (state : Abs). rights state.kinds a.registers n)
      (arrives set states s a i h _ true (jumping label labelled))
      ∙ ap (λ (kinds : List Kind). rights kinds a.registers n) kinds in
      omega (
        arith,
        no_right (kind_of (state_of states a) r) (register a r) n free,
        rights_turn s.issued (state_of states a).kinds a.registers r BlankKind n h.stays.kinds,
      )

-- the driver of an activation is that of its device
pub device_driver : (set : Set) (device driver : ℕ) → Serves set device driver
    → routine_of_device (slice_get set.devices device) ≡ driver
device_driver set device driver serves = ap routine_of_device serves.1 ∙ serves.2

-- a packet that is taken off a queue wherever it stands was in a register that has the right to it,
-- and the queue has a cancel routine
unlinked_right : (q : ℕ) (k : Kind) → unlink_kind (Declared q) k ≡ None → is_right k ≡ true
unlinked_right q (QueuedKind name Listed) h = refl
unlinked_right q (QueuedKind name Cancelling) h = refl
unlinked_right q _ h = cc

same_queue : (p q : QueueName) → unless (is_name p q) CancelState ≡ None → p ≡ q
same_queue p q h = named_same p q (granted (is_name p q) CancelState h)

either_queue : (p q : QueueName) → unless (is_name p q || false) CancelState ≡ None → p ≡ q
either_queue p q h = same_queue p q (by (is_name p q) h)
  where
    by : (b : Bool) → unless (b || false) CancelState ≡ None → unless b CancelState ≡ None
    by true h = refl
    by false h = h

unlinked_cancel : (set : Set) (driver : ℕ) (locks : List Bool) (cancel : Bool) (name : QueueName)
    (k : Kind)
    → unlink_kind name k ≡ None → KindFits set driver locks cancel k → HasCancel set driver name
unlinked_cancel set driver locks cancel name (QueuedKind other Listed) h fits =
    subst (λ (x : QueueName). HasCancel set driver x) (either_queue other name h) fits.0
unlinked_cancel set driver locks cancel name (QueuedKind other Cancelling) h fits =
    subst (λ (x : QueueName). HasCancel set driver x) (same_queue other name h) fits.0
unlinked_cancel set driver locks cancel name _ h fits = cc

-- so each packet is held as often after the instruction as before it
module _ (set : Set) (states : States) (s : Shared) (a : Activation) where
  abbrev pub plain_at : ℕ → List ℕ → ℕ → ℕ
  plain_at q entries n =
      plain_in set (routine_of_device (slice_get set.devices a.device)) q entries n

  -- a queue of the device is changed that has no cancel routine, or that has one
  pub counts_here : (i : Instr) → Runs set states s a i → (q : ℕ) (entries : List ℕ)
      → cancel_routine_of set a.driver q ≡ None → (n : ℕ)
      → plain_at q entries n ≡ times_in entries n
  counts_here i h q entries none n =
      plain_counts set n (routine_of_device (slice_get set.devices a.device)) q entries
      (ap (λ (driver : ℕ). cancel_routine_of set driver q)
      (device_driver set a.device a.driver h.stays.serves) ∙ none)

  skips_here : (i : Instr) → Runs set states s a i → (q cancel : ℕ) (entries : List ℕ)
      → cancel_routine_of set a.driver q ≡ Some cancel → (n : ℕ) → plain_at q entries n ≡ 0
  skips_here i h q cancel entries is n =
      plain_skips set n (routine_of_device (slice_get set.devices a.device)) q cancel entries
      (ap (λ (driver : ℕ). cancel_routine_of set driver q)
      (device_driver set a.device a.driver h.stays.serves) ∙ is)

  abbrev Even : Activation → List (List (List ℕ)) → ℕ → Type 0
  Even b queues n =
      frame_rights states (Routine b) n
      + times_waiting set (record s { queues = queues; starts = s.starts }) n
      ≡ frame_rights states (Routine a) n + times_waiting set s n

  inserted_rights : (r q m : ℕ) (entries : List ℕ) → Runs set states s a (Insert r q)
      → Reads s a r m → queue_of s a.device q ≡ Some entries → (cancel : Option ℕ)
      → cancel_routine_of set a.driver q ≡ cancel → (n : ℕ)
      → Even (next a) (with_queue s a.device q (inserted entries m)).queues n
  inserted_rights r q m entries h reads there None is n =
      let gone : frame_rights states (Routine (next a)) n + (if nat_eq m n then 1 else 0)
      ≡ frame_rights states (Routine a) n =
      rights_given set states s a (Insert r q) h r m refl
      (inserts_blank set states s a (Insert r q) h r q is)
      (gives_right (kind_of (state_of states a) r) _ h.obeys) reads n in
      omega (
        arith,
        plain_put set n s a.device q entries (inserted entries m) there,
        counts_here (Insert r q) h q entries is n,
        counts_here (Insert r q) h q (inserted entries m) is n,
        times_pushed entries m n,
      )
  inserted_rights r q m entries h reads there (Some cancel) is n =
      let same : frame_rights states (Routine (next a)) n ≡ frame_rights states (Routine a) n =
      rights_stay set states s a (Insert r q) h r (QueuedKind (Declared q) Listed) refl
      (inserts_listed set states s a (Insert r q) h r q cancel is)
      (sym (gives_right (kind_of (state_of states a) r) _ h.obeys)) n in
      omega (
        arith,
        plain_put set n s a.device q entries (inserted entries m) there,
        skips_here (Insert r q) h q cancel entries is n,
        skips_here (Insert r q) h q cancel (inserted entries m) is n,
      )

  removed_rights : (r q label m : ℕ) (entries : List ℕ) → Runs set states s a (Remove r q label)
      → queue_of s a.device q ≡ Some (m ∷ entries) → (cancel : Option ℕ)
      → cancel_routine_of set a.driver q ≡ cancel → (n : ℕ)
      → Even (next (with_register a r (Ref m))) (with_queue s a.device q entries).queues n
  removed_rights r q label m entries h there None is n =
      let won : frame_rights states (Routine (next (with_register a r (Ref m)))) n
      ≡ frame_rights states (Routine a) n + (if nat_eq m n then 1 else 0) =
      rights_taken set states s a (Remove r q label) h r m refl
      (removes_own set states s a (Remove r q label) h r q label is)
      (free_removed _ _ (kind_of (state_of states a) r) h.obeys)
      (all_at OperandFits h.routine.code a.position (Remove r q label) h.known.operands h.here) n in
      let first : times_in (m ∷ entries) n ≡ (if nat_eq m n then 1 else 0) + times_in entries n =
      refl in
      omega (
        arith,
        plain_put set n s a.device q (m ∷ entries) entries there,
        counts_here (Remove r q label) h q (m ∷ entries) is n,
        counts_here (Remove r q label) h q entries is n,
      )
  removed_rights r q label m entries h there (Some cancel) is n =
      let same : frame_rights states (Routine (next (with_register a r (Ref m)))) n
      ≡ frame_rights states (Routine a) n + right (QueuedKind (Declared q) Taken) (Ref m) n =
      rights_put set states s a (Remove r q label) h r (QueuedKind (Declared q) Taken) m refl
      (removes_taken set states s a (Remove r q label) h r q label cancel is)
      (free_removed _ _ (kind_of (state_of states a) r) h.obeys)
      (all_at OperandFits h.routine.code a.position (Remove r q label) h.known.operands h.here) n in
      let none : right (QueuedKind (Declared q) Taken) (Ref m) n ≡ 0 = refl in
      omega (
        arith,
        plain_put set n s a.device q (m ∷ entries) entries there,
        skips_here (Remove r q label) h q cancel (m ∷ entries) is n,
        skips_here (Remove r q label) h q cancel entries is n,
      )

  -- one that is taken off wherever it stands: the queue has a cancel routine
  unlinked_rights : (r q m : ℕ) (entries : List ℕ) → Runs set states s a (Unlink r q)
      → queue_of s a.device q ≡ Some entries → (n : ℕ)
      → Even (next a) (with_queue s a.device q (unlinked entries m)).queues n
  unlinked_rights r q m entries h there n =
      let rule : unlink_kind (Declared q) (kind_of (state_of states a) r) ≡ None =
      first_none _ _ h.obeys in
      let has : HasCancel set a.driver (Declared q) =
      unlinked_cancel set a.driver (state_of states a).locks (state_of states a).cancel
      (Declared q) (kind_of (state_of states a) r) rule
      (listed_fits set states s a (Unlink r q) h r) in
      let same : frame_rights states (Routine (next a)) n ≡ frame_rights states (Routine a) n =
      rights_stay set states s a (Unlink r q) h r Own refl refl
      (sym (unlinked_right q (kind_of (state_of states a) r) rule)) n in
      omega (
        arith,
        plain_put set n s a.device q entries (unlinked entries m) there,
        skips_here (Unlink r q) h q has.0 entries has.1 n,
        skips_here (Unlink r q) h q has.0 (unlinked entries m) has.1 n,
      )

-- both, and the first of a list where there is a cancel routine
pub and_both : (one other : Bool) → (one && other) ≡ true → (one ≡ true) × (other ≡ true)
and_both true true h = (refl, refl)
and_both true false h = cc
and_both false other h = cc

pub first_both : (b : Bool) (o : Option ℕ) (n : ℕ) → (if b then o else None) ≡ Some n
    → (b ≡ true) × (o ≡ Some n)
first_both true o n h = (refl, h)
first_both false o n h = cc

-- whether the device queue of the frame's device has a cancel routine
pub served_waits : (set : Set) (states : States) (s : Shared) (a : Activation) (i : Instr)
    → Runs set states s a i → waits_cancelable set a.device ≡ has_cancel set a.driver DeviceQueue
served_waits set states s a i h =
    ap (λ (driver : ℕ). has_cancel set driver DeviceQueue)
    (device_driver set a.device a.driver h.stays.serves)

-- the packet in a device queue that is started next has its cancel routine set
abbrev pub NextArmed : Set → Shared → Frame → Type 0
NextArmed set s (Routine a) =
    (n : ℕ) (start : StartState) (p : Packet) → Executing set a Next
    → start_of s a.device ≡ Some start
    → next_disarmed set a start ≡ Some n → packet_of s n ≡ Some p
    → (armer : Armer) × (p.armer ≡ Some armer) × (armer.device ≡ a.device)
    × (armer.queue ≡ DeviceQueue)
NextArmed set s (Walk n) = ⊤
NextArmed set s (CancelFrame c) = ⊤

-- a right in a register is to a live packet
abbrev pub OwnsLive : States → Shared → Activation → Type 0
OwnsLive states s a =
    (r n : ℕ) → is_right (kind_of (state_of states a) r) ≡ true → Reads s a r n
    → packet_of s n ≡ None → ⊥

dequeued_right : (k : Kind) → queued_kind (is_at Cancelling DeviceQueue k) k ≡ None
    → is_right k ≡ true
dequeued_right (QueuedKind name Cancelling) h = refl
dequeued_right _ h = cc

pub queued_rights : (set : Set) (states : States) (s : Shared) (a : Activation) (i : Instr)
    → Runs set states s a i → FreesSlot states s (Routine a) → OwnsLive states s a
    → {b : Activation} {queues : List (List (List ℕ))} {lists : List StartState}
    {actions : List Action} {full : Bool} → (queued : Queued set s a i b queues lists actions full)
    → is_gone queued ≡ false → (n : ℕ)
    → frame_rights states (Routine b) n
    + times_waiting set (record s { queues = queues; starts = lists }) n
    ≡ frame_rights states (Routine a) n + times_waiting set s n
queued_rights set states s a i h frees live (inserts r q m entries reads there) stays n =
    inserted_rights set states s a r q m entries h reads there (cancel_routine_of set a.driver q)
    refl n
queued_rights set states s a i h frees live (removes r q label m entries there) stays n =
    removed_rights set states s a r q label m entries h there (cancel_routine_of set a.driver q)
    refl n
queued_rights set states s a i h frees live (removes_none r q label there) stays n =
    let same : frame_rights states (Routine (at_label a label)) n
    ≡ frame_rights states (Routine a) n =
    rights_missed set states s a (Remove r q label) h r label refl refl
    (free_removed _ _ (kind_of (state_of states a) r) h.obeys) n in
    omega arith
queued_rights set states s a i h frees live (unlinks r q m entries reads there) stays n =
    unlinked_rights set states s a r q m entries h there n
queued_rights set states s a i h frees live (starts_packet r m start reads there plain) stays n =
    let gone : frame_rights states (Routine (next a)) n + (if nat_eq m n then 1 else 0)
    ≡ frame_rights states (Routine a) n =
    rights_given set states s a (Start r) h r m refl refl
    (gives_right (kind_of (state_of states a) r) _ h.obeys) reads n in
    elim plain [
      | inl may ↦ omega (
        arith,
        started_put set s.starts a.device start (started start m) n there,
        times_given set a.device a.driver start m n (served_waits set states s a i h) may,
      )
      | inr gone ↦ absurd (live r m (gives_right (kind_of (state_of states a) r) _ h.obeys) reads
          gone)
    ]
queued_rights set states s a i h frees live (takes_out r label m start there slot) stays n =
    let won : frame_rights states (Routine (next (with_register a r (Ref m)))) n
    ≡ frame_rights states (Routine a) n + (if nat_eq m n then 1 else 0) =
    rights_taken set states s a (Take r label) h r m refl refl
    (free_before _ (kind_of (state_of states a) r) h.obeys)
    (all_at OperandFits h.routine.code a.position (Take r label) h.known.operands h.here) n in
    let its : times_in_slot start.slot n ≡ (if nat_eq m n then 1 else 0) =
    ap (λ (slot : Option ℕ). times_in_slot slot n) slot in
    omega (
      arith,
      started_put set s.starts a.device start (with_slot start None) n there,
      times_slot (waits_cancelable set a.device) start None n,
    )
queued_rights set states s a i h frees live (takes_none r label start there slot) stays n =
    let same : frame_rights states (Routine (at_label a label)) n
    ≡ frame_rights states (Routine a) n =
    rights_missed set states s a (Take r label) h r label refl refl
    (free_before _ (kind_of (state_of states a) r) h.obeys) n in
    omega arith
queued_rights set states s a i h frees live (puts_in r m start reads there) stays n =
    let gone : frame_rights states (Routine (next a)) n + (if nat_eq m n then 1 else 0)
    ≡ frame_rights states (Routine a) n =
    rights_given set states s a (Begin r) h r m refl refl
    (gives_right (kind_of (state_of states a) r) _ h.obeys) reads n in
    let token : (state_of states a).token ≡ true =
    granted (state_of states a).token Token
    (second_none (demanded an_owned_one (kind_of (state_of states a) r))
    (unless (state_of states a).token Token) h.obeys) in
    let none : times_in_slot start.slot n ≡ 0 =
    ap (λ (slot : Option ℕ). times_in_slot slot n) (frees start token there) in
    omega (
      arith,
      started_put set s.starts a.device start (with_slot start (Some m)) n there,
      times_slot (waits_cancelable set a.device) start (Some m) n,
    )
queued_rights set states s a i h frees live (starts_next start there none) stays n =
    let same : frame_rights states (Routine (next a)) n ≡ frame_rights states (Routine a) n =
    rights_kept set states s a Next h refl refl n in
    omega (
      arith,
      started_put set s.starts a.device start (next_started start) n there,
      times_next set a.device a.driver start n (served_waits set states s a i h) none,
    )
queued_rights set states s a i h frees live (starts_gone m start there first gone) stays n = cc
queued_rights set states s a i h frees live (dequeues_packet r m start reads there) stays n =
    let rule : queued_kind (is_at Cancelling DeviceQueue (kind_of (state_of states a) r))
    (kind_of (state_of states a) r) ≡ None = first_none _ _ h.obeys in
    let may : waits_cancelable set a.device ≡ true =
    served_waits set states s a i h
    ∙ granted (has_cancel set a.driver DeviceQueue) _ (second_none _ _ (second_none _ _ h.obeys)) in
    let same : frame_rights states (Routine (next a)) n ≡ frame_rights states (Routine a) n =
    rights_stay set states s a (Dequeue r) h r Own refl refl
    (sym (dequeued_right (kind_of (state_of states a) r) rule)) n in
    let put : times_started set 0 (slice_set s.starts a.device (dequeued start m)) n
    + times_at (waits_cancelable set a.device) start n
    ≡ times_started set 0 s.starts n
    + times_at (waits_cancelable set a.device) (dequeued start m) n =
    started_put set s.starts a.device start (dequeued start m) n there in
    let even : times_at (waits_cancelable set a.device) (dequeued start m) n
    ≡ times_at (waits_cancelable set a.device) start n = rw may refl in
    omega arith

-- a packet that has to wait in a device queue with a cancel routine is held by its word; the next
-- one that is started is held by the start list again
pub waited_rights : (set : Set) (states : States) (s : Shared) (a : Activation) (i : Instr)
    → Runs set states s a i → {starts : List StartState} {n : ℕ} {armer : Option Armer}
    {full : Bool} → Waits set s a i starts n armer full → (p : Packet)
    → ((r : ℕ) → is_right (kind_of (state_of states a) r) ≡ true → Reads s a r n
    → is_some p.armer ≡ false)
    → (is_some armer ≡ false → is_some p.armer ≡ true)
    → (words : ℕ → ℕ)
    → ((m : ℕ) → is_some p.armer ≡ false → is_some armer ≡ true
    → words m ≡ times_named (packet_of s m) + (if nat_eq n m then 1 else 0))
    → ((m : ℕ) → is_some p.armer ≡ true → is_some armer ≡ false
    → words m + (if nat_eq n m then 1 else 0) ≡ times_named (packet_of s m))
    → (m : ℕ)
    → frame_rights states (Routine (next a)) m
    + (times_plain set 0 s.queues m + times_started set 0 starts m + words m)
    ≡ frame_rights states (Routine a) m + times_waiting set s m
waited_rights set states s a i h (arms_waiting r n start reads there armed) p unarmed held words
    more less m =
    let right : is_right (kind_of (state_of states a) r) ≡ true =
    gives_right (kind_of (state_of states a) r) _ h.obeys in
    let gone : frame_rights states (Routine (next a)) m + (if nat_eq n m then 1 else 0)
    ≡ frame_rights states (Routine a) m =
    rights_given set states s a (Start r) h r n refl refl right reads m in
    let both : (has_cancel set a.driver DeviceQueue ≡ true) × (start.busy ≡ true) =
    and_both (has_cancel set a.driver DeviceQueue) start.busy armed in
    let may : waits_cancelable set a.device ≡ true =
    served_waits set states s a (Start r) h ∙ both.0
    in
    let same : times_at (waits_cancelable set a.device) (started start n) m
    ≡ times_at (waits_cancelable set a.device) start m = rw may (times_waited start n m both.1) in
    omega (
      arith,
      started_put set s.starts a.device start (started start n) m there,
      more m (unarmed r right reads) refl,
    )
waited_rights set states s a i h (disarms_next n start there first) p unarmed held words more less
    m =
    let same : frame_rights states (Routine (next a)) m ≡ frame_rights states (Routine a) m =
    rights_kept set states s a Next h refl refl m in
    let both : (has_cancel set a.driver DeviceQueue ≡ true)
    × (head_of start.device_queue ≡ Some n) =
    first_both (has_cancel set a.driver DeviceQueue) (head_of start.device_queue) n first in
    let may : waits_cancelable set a.device ≡ true = served_waits set states s a Next h ∙ both.0 in
    let won : times_at (waits_cancelable set a.device) (next_started start) m
    ≡ times_at (waits_cancelable set a.device) start m + (if nat_eq n m then 1 else 0) =
    rw may (times_disarmed start n m both.1) in
    omega (
      arith,
      started_put set s.starts a.device start (next_started start) m there,
      less m (held refl) refl,
    )
