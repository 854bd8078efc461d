-- A queue, a start list and a device queue have room for a packet that a routine has the right to,
-- and the start list for the first one of the device queue: the packet and the entries are
-- different live packets, and there are no more of these than a list takes.
use Rattle.laws_runs.proofs.Common.{ap, arith, inl, inr, refl, subst, ◌∙◌, cases_Bool, length-append, Bool, List, None, Option, Some, [], false, if◌then◌else◌, length, nat_eq, not, option_map, true, ℕ, ⊤, ◌&&◌, ◌++◌, ◌+◌, ◌∷◌, ◌≡◌, ◌≤◌, Action, Outcome, is_right, handed, kind_of, StartState, inserted, is_full, Set, cancel_routine_of, flow_of, has_cancel, Entry, Shared, World, queue_of, register, start_of, Kind, BlankKind, Own, Instr, Insert, Start, MAX_LIVE_PACKETS, QueueName, Declared, DeviceQueue, Activation, Armer, Frame, CancelFrame, Routine, Walk, Packet, Value, Ref, States, named_as, named_in, times_at, times_in, times_listed, times_started, times_to_start, times_waiting, waits_cancelable, IsGood, Runs, state_of, has_next, inserts_right, OnTop, runs, first_none, Standing, on_top, Comes, Waits, arms_waiting, dequeues_packet, disarms_next, inserts, puts_in, removes, removes_none, starts_gone, starts_next, starts_packet, takes_none, takes_out, unlinks, waits_armed, works_on_queues, works_on_waiting, not_at_most}
use Rattle.model.specs.declared.limits.TheConstants.{MAX_ENTRIES}
use Rattle.model.specs.Queues.{room_for_next}
use Rattle.laws_runs.proofs.Claims.Held.{is_own, owns_in, rights_cover, word_holds}
use Rattle.laws_runs.proofs.Claims.Sums.{Claimed, frame_names, is_cancelable, times_of}
use Rattle.laws_runs.proofs.Holders.Counts.{Holding, reads_ref}
use Rattle.laws_runs.proofs.Holders.Plain.{plain_le}
use Rattle.laws_runs.proofs.Holders.Queued.{entries_few, times_pushed}
use Rattle.laws_runs.proofs.Holders.Rights.{named_le}
use Rattle.laws_runs.proofs.Holders.Started.{started_le}
use Rattle.laws_runs.proofs.Holders.Sums.{own_if, unheld, unheld_one, Held, top_le}
use Rattle.laws_runs.proofs.Holders.Waits.{counts_here, gives_right, inserts_blank, kinds_with, rights_given, device_driver}
use Rattle.laws_runs.proofs.Past.LivePackets.{find}
use Rattle.laws_runs.proofs.Runs.Events.{StepsFrame}
use Rattle.laws_runs.proofs.Steps.Comes.{Queued, Reads}
use Rattle.laws_runs.proofs.Claims.WordSteps.{waiting_le}
use Rattle.laws_runs.proofs.Claims.Held.{holder_lives}
use Rattle.laws_runs.proofs.Claims.Sums.{list_of, times_of, takes_in}
use Rattle.laws_runs.proofs.Holders.Waits.{and_both, served_waits}
use Rattle.laws_runs.proofs.Holders.Counts.{right_lives}
use Rattle.laws_runs.proofs.Holders.Started.{waits_in}

-- a list has room for a packet, where that and the entries are different live packets
room_for : (s : Shared) → length s.packets ≤ MAX_LIVE_PACKETS → (entries : List ℕ) (n : ℕ)
    → ((m : ℕ) → times_in entries m + (if nat_eq n m then 1 else 0) ≤ unheld (find s.packets m))
    → is_full entries ≡ false
room_for s limit entries n once =
    let all : (m : ℕ) → times_in (inserted entries n) m ≤ unheld (find s.packets m) =
    (λ m.
    omega (arith, once m, times_pushed entries n m)) in
    let few : length (inserted entries n) ≤ length s.packets =
    entries_few s.packets (inserted entries n)
    (λ m.
    omega (arith, all m, unheld_one (find s.packets m)))
    (λ m some.
    let le : times_in (inserted entries n) m ≤ unheld (find s.packets m) = all m in
    let its : (p : Packet) × (find s.packets m ≡ Some p) × (p.completing ≡ false) =
    own_if (find s.packets m) (omega arith) in (its.0, its.1)) in
    let long : length (inserted entries n) ≡ length entries + length (n ∷ []) =
    length-append entries (n ∷ []) in
    let last : length (n ∷ []) ≡ 1 = refl in
    not_at_most MAX_ENTRIES (length entries) (omega arith)

-- a packet that is a routine's own doesn't stand in a list of its device that has a cancel routine;
-- and what waits at its device for StartIo stands there once, and is live
pub record Apart (set : Set) (states : States) (s : Shared) (a : Activation) : Type 0 where
  pub own : (q : QueueName) (m : ℕ) (entries : List ℕ) → list_of s a.device q ≡ Some entries
      → has_cancel set a.driver q ≡ true
      → times_in entries m + named_in is_own (state_of states a).kinds a.registers m
      ≤ unheld (find s.packets m)
  pub waits : (start : StartState) (m : ℕ) → start_of s a.device ≡ Some start
      → waits_in start m ≤ unheld (find s.packets m)

abbrev pub OwnApart : Set → States → Shared → Frame → Type 0
OwnApart set states s (Routine a) = Apart set states s a
OwnApart set states s (Walk n) = ⊤
OwnApart set states s (CancelFrame c) = ⊤

not_armed : (one other : Bool) → other ≡ true → (one && other) ≡ false → one ≡ false
not_armed false other is h = refl
not_armed true true is h = cc
not_armed true false is h = cc

own_named : (k : Kind) (v : Value) (n m : ℕ) → k ≡ Own → v ≡ Ref n
    → named_as is_own k v m ≡ (if nat_eq n m then 1 else 0)
own_named k v n m is refers = rw (is, refers) refl

module _ (set : Set) (states : States) (s : Shared) (past : List Entry) (a : Activation)
    (holding : Holding set states s past (Routine a)) (apart : Apart set states s a)
  where
    -- a packet that a routine gives away, to a list of packets that wait
    room_left : (i : Instr) (h : Runs set states s a i) (r n : ℕ) (entries : List ℕ)
        → has_next (flow_of i) ≡ true
        → (handed set a.driver (state_of states a) i).kinds
        ≡ kinds_with set states s a i h r BlankKind
        → is_right (kind_of (state_of states a) r) ≡ true → Reads s a r n
        → ((m : ℕ) → times_in entries m ≤ times_waiting set s m) → is_full entries ≡ false
    room_left i h r n entries on kinds own reads among =
        room_for s h.fits.few entries n
        (λ m.
        omega (
          arith,
          among m,
          rights_given set states s a i h r n on kinds own reads m,
          holding.waiting m,
        ))

    -- the first packet that waits while the device is busy, and the start list
    next_room : (start : StartState) (entries : List ℕ) → length s.packets ≤ MAX_LIVE_PACKETS
        → start_of s a.device ≡ Some start
        → start.device_queue ≡ entries → not (room_for_next start.start_list entries) ≡ false
    next_room start [] limit there is = refl
    next_room start (n ∷ entries) limit there is =
        let room : is_full start.start_list ≡ false =
        room_for s limit start.start_list n
        (λ m.
        let first : times_in start.device_queue m
        ≡ (if nat_eq n m then 1 else 0) + times_in entries m =
        ap (λ (xs : List ℕ). times_in xs m) is in
        omega (arith, apart.waits start m there)) in
        rw room refl

    -- a packet that is put into a queue, with or without a cancel routine
    inserted_room : (r q n : ℕ) (entries : List ℕ) → Runs set states s a (Insert r q)
        → Reads s a r n
        → queue_of s a.device q ≡ Some entries → (cancel : Option ℕ)
        → cancel_routine_of set a.driver q ≡ cancel → is_full entries ≡ false
    inserted_room r q n entries h reads there None is =
        room_left (Insert r q) h r n entries refl
        (inserts_blank set states s a (Insert r q) h r q is)
        (gives_right (kind_of (state_of states a) r) _ h.obeys) reads
        (λ m.
        omega (
          arith,
          counts_here set states s a (Insert r q) h q entries is m,
          plain_le set m s a.device q entries there,
        ))
    inserted_room r q n entries h reads there (Some cancel) is =
        room_for s h.fits.few entries n
        (λ m.
        let own : kind_of (state_of states a) r ≡ Own =
        inserts_right (kind_of (state_of states a) r) (first_none _ _ h.obeys) in
        omega (
          arith,
          own_named (kind_of (state_of states a) r) (register a r) n m own (reads_ref s (register a r) n reads),
          named_le is_own s.issued (state_of states a).kinds a.registers r m h.stays.kinds,
          apart.own (Declared q) m entries there (rw is refl),
        ))

    -- one that has to wait in a device queue with a cancel routine
    waiting_room : (r n : ℕ) (start : StartState) → Runs set states s a (Start r) → Reads s a r n
        → start_of s a.device ≡ Some start → has_cancel set a.driver DeviceQueue ≡ true
        → is_full start.device_queue ≡ false
    waiting_room r n start h reads there may =
        room_for s h.fits.few start.device_queue n
        (λ m.
        let own : kind_of (state_of states a) r ≡ Own =
        inserts_right (kind_of (state_of states a) r) (first_none _ _ h.obeys) in
        let its : list_of s a.device DeviceQueue ≡ Some start.device_queue = rw there refl in
        omega (
          arith,
          own_named (kind_of (state_of states a) r) (register a r) n m own
              (reads_ref s (register a r) n reads),
          named_le is_own s.issued (state_of states a).kinds a.registers r m h.stays.kinds,
          apart.own DeviceQueue m start.device_queue its may,
        ))

    -- one that is started, or waits where it can't be cancelled
    starting_room : (r n : ℕ) (start : StartState) (b : Bool) → Runs set states s a (Start r)
        → Reads s a r n → start_of s a.device ≡ Some start → start.busy ≡ b
        → waits_armed set a start ≡ false
        → not (not (is_full (if b then start.device_queue else start.start_list))) ≡ false
    starting_room r n start false h reads there is may =
        rw (room_left (Start r) h r n start.start_list refl refl
        (gives_right (kind_of (state_of states a) r) _ h.obeys) reads
        (λ m. omega (arith, started_le set s.starts a.device start m there))) refl
    starting_room r n start true h reads there is may =
        let none : has_cancel set a.driver DeviceQueue ≡ false =
        not_armed (has_cancel set a.driver DeviceQueue) start.busy is may in
        let plain : waits_cancelable set a.device ≡ false =
        served_waits set states s a (Start r) h ∙ none in
        rw (room_left (Start r) h r n start.device_queue refl refl
        (gives_right (kind_of (state_of states a) r) _ h.obeys) reads
        (λ m.
        let all : times_at (waits_cancelable set a.device) start m
        ≤ times_started set 0 s.starts m = started_le set s.starts a.device start m there in
        let its : times_in start.device_queue m ≤ times_at (waits_cancelable set a.device) start m =
        rw plain (omega arith) in
        omega arith)) refl

    waits_full : (i : Instr) → Runs set states s a i → {starts : List StartState} {n : ℕ}
        {armer : Option Armer} {full : Bool} → Waits set s a i starts n armer full → full ≡ false
    waits_full i h (arms_waiting r n start reads there armed) =
        let both : (has_cancel set a.driver DeviceQueue ≡ true) × (start.busy ≡ true) =
        and_both (has_cancel set a.driver DeviceQueue) start.busy armed in
        rw (both.1, waiting_room r n start h reads there both.0) refl
    waits_full i h (disarms_next n start there first) =
        next_room start start.device_queue h.fits.few there refl

    queued_full : (i : Instr) → Runs set states s a i → {b : Activation}
        {queues : List (List (List ℕ))} {lists : List StartState} {actions : List Action}
        {full : Bool}
        → Queued set s a i b queues lists actions full → full ≡ false
    queued_full i h (inserts r q n entries reads there) =
        inserted_room r q n entries h reads there (cancel_routine_of set a.driver q) refl
    queued_full i h (removes r q label n entries there) = refl
    queued_full i h (removes_none r q label there) = refl
    queued_full i h (unlinks r q n entries reads there) = refl
    queued_full i h (starts_packet r n start reads there plain) =
        elim plain [
          | inl may ↦ starting_room r n start start.busy h reads there refl may
          | inr gone ↦
              absurd (right_lives set states s past a holding h.stays.kinds r n
              (gives_right (kind_of (state_of states a) r) _ h.obeys) reads gone)
        ]
    queued_full i h (takes_out r label n start there slot) = refl
    queued_full i h (takes_none r label start there slot) = refl
    queued_full i h (puts_in r n start reads there) = refl
    queued_full i h (starts_next start there none) =
        next_room start start.device_queue h.fits.few there refl
    queued_full i h (starts_gone n start there first gone) =
        next_room start start.device_queue h.fits.few there refl
    queued_full i h (dequeues_packet r n start reads there) = refl

    -- so no list gets an entry more than it has room for
    pub never_full : (t : ℕ) (under : Option Frame) (o : Outcome) → OnTop set states s (Routine a)
        → Comes set s t under (Routine a) o → o.full ≡ false
    never_full t under o top (works_on_queues b i c queues starts actions full at queued) =
        queued_full i (runs set states s a i top at) queued
    never_full t under o top (works_on_waiting b i starts n p armer full at there waits) =
        waits_full i (runs set states s a i top at) waits
    never_full t under o top _ = refl

-- what waits at a device for StartIo is live, and waits there once
waits_live : (set : Set) (states : States) (w : World) → Held set states w → Claimed set states w
    → (d : ℕ) (start : StartState) (m : ℕ) → start_of w.shared d ≡ Some start
    → waits_in start m ≤ unheld (find w.shared.packets m)
waits_live set states w kept claimed d start m there =
    let all : times_at (waits_cancelable set d) start m ≤ times_started set 0 w.shared.starts m =
    started_le set w.shared.starts d start m there in
    let once : takes_in states m w.threads + times_listed w.shared m ≤ 1 =
    claimed.balanced.once m in
    let among : waits_in start m ≤ times_to_start w.shared.starts m =
    waiting_le w.shared.starts d start m there in
    let its : times_of (list_of w.shared d DeviceQueue) m ≡ times_in start.device_queue m =
    ap (λ (o : Option StartState). times_of (option_map (λ (x : StartState). x.device_queue) o) m)
    there in
    elim (cases_Bool (waits_cancelable set d)) [
      | inl may ↦
          let listed : times_in start.start_list m
          ≤ times_at (waits_cancelable set d) start m = rw may (omega arith) in
          omega (
            arith,
            kept.rights m,
            claimed.balanced.entered d DeviceQueue m may,
            holder_lives set states w kept m d DeviceQueue (times_in start.device_queue m) (omega (
              arith,
              claimed.balanced.entered d DeviceQueue m may,
            )),
          )
      | inr never ↦
          let listed : waits_in start m ≤ times_at (waits_cancelable set d) start m =
          rw never (omega arith) in
          omega (arith, kept.rights m)
    ]

-- who has the right to a packet that stands in a queue with a cancel routine is its cancel word, or
-- a register at the stage Listed or Cancelling
module _ (set : Set) (states : States) (w : World) (past : List Entry) (good : IsGood set states)
    (stands : Standing set states w past) (kept : Held set states w)
    (claimed : Claimed set states w) where
  pub own_apart : (t : ℕ) (h : StepsFrame set w t) → OwnApart set states w.shared h.frame
  own_apart t h = apart_of h.frame refl
    where
      apart_of : (f : Frame) → h.frame ≡ f → OwnApart set states w.shared f
      apart_of (Walk n) is = tt
      apart_of (CancelFrame c) is = tt
      apart_of (Routine a) is =
          record {
            own = λ q m entries there has.
                let on : OnTop set states w.shared (Routine a) =
                subst (λ (f : Frame). OnTop set states w.shared f) is
                (on_top set states w past good stands t h) in
                let may : is_cancelable set a.device q ≡ true =
                ap (λ (driver : ℕ). has_cancel set driver q)
                (device_driver set a.device a.driver on.stands.1.serves) ∙ has in
                let here : times_of (list_of w.shared a.device q) m ≡ times_in entries m =
                ap (λ (o : Option (List ℕ)). times_of o m) there in
                let top : frame_names states is_own (λ e. true) m (Routine a)
                ≤ owns_in states m w.threads =
                top_le (frame_names states is_own (λ e. true) m) w.threads t h.thread h.below
                (Routine a) h.found
                (h.frames ∙ ap (λ (f : Frame). h.below ++ f ∷ []) is) in
                omega (
                  arith,
                  claimed.balanced.entered a.device q m may,
                  rights_cover states a.device q m w.threads,
                  word_holds set states w kept m a.device q,
                  kept.rights m,
                );
            waits = λ start m there. waits_live set states w kept claimed a.device start m there;
          }
