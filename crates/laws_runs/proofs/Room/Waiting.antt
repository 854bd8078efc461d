-- Who has the right to a packet has room for its device, and who owns it finds its current location
-- marked: a register of a frame, a place in a queue without a cancel routine, in a start list or a
-- device queue, a current slot, and a cancel word. What the instructions about queues do to that.
use Rattle.laws_runs.proofs.Common.{ap, arith, inl, inr, refl, subst, sym, ◌∙◌, cond_both, eq-eqb, eqb_tells, Bool, List, None, Option, Some, [], false, if◌then◌else◌, is_some, length, nat_eq, option_and_then, slice_get, slice_set, true, ℕ, ⊤, ◌+◌, ◌∷◌, ◌≡◌, ◌≤◌, Action, is_right, kind_removed, kind_of, StartState, dequeued, head_of, inserted, next_started, started, unlinked, with_slot, Set, cancel_routine_of, has_cancel, Shared, current_location, is_marked, next, packet_of, queue_of, register, start_of, with_queue, with_register, with_start, Abs, Kind, Own, Taken, Instr, Begin, Dequeue, Insert, Next, Remove, Start, Take, Unlink, Declared, DeviceQueue, Activation, Armer, Frame, CancelFrame, Routine, Walk, Packet, Ref, States, times_at, times_in, times_in_slot, times_named, times_plain, times_waiting, waits_cancelable, Runs, Serves, state_of, HoldOf, arrives_next, inserts_right, queue_moves, first_none, Waits, arms_waiting, dequeues_packet, disarms_next, inserts, jumping, puts_in, removes, removes_none, starts_gone, starts_next, starts_packet, takes_none, takes_out, unlinks}
use Rattle.laws_runs.proofs.Claims.Sums.{is_cancelable}
use Rattle.laws_runs.proofs.Holders.Counts.{reads_ref}
use Rattle.laws_runs.proofs.Holders.Plain.{plain_le}
use Rattle.laws_runs.proofs.Holders.Queued.{queue_after, times_pushed}
use Rattle.laws_runs.proofs.Holders.Started.{start_after, started_le, times_given, times_next}
use Rattle.laws_runs.proofs.Holders.Waits.{device_driver}
use Rattle.laws_runs.proofs.Past.LivePackets.{find, find_place}
use Rattle.laws_runs.proofs.Room.Registers.{IsClaim, Refers, claim_get, claim_set, claims_owned, claims_right, goes_claims, is_owned, next_claims}
use Rattle.laws_runs.proofs.Room.Sizes.{stack_at}
use Rattle.laws_runs.proofs.Room.Ways.{Stays}
use Rattle.laws_runs.proofs.Steps.Comes.{Queued, Reads}
use Rattle.laws_runs.proofs.Holders.Waits.{served_waits, first_both}
use Rattle.laws_runs.proofs.Holders.Started.{times_disarmed}
use Rattle.laws_runs.proofs.Holders.Waits.{and_both}
use Rattle.laws_runs.proofs.Holders.Started.{times_waited}

-- the locations that a packet has left, its current one among them, are as many as a device's stack
-- size
abbrev pub RoomAt : Set → ℕ → Packet → Type 0
RoomAt set d p = p.depth + stack_at set d ≤ length p.locations.items + 1

abbrev pub RoomFor : Set → Shared → ℕ → ℕ → Type 0
RoomFor set s d n = (p : Packet) → find s.packets n ≡ Some p → RoomAt set d p

abbrev pub MarkedIn : Shared → ℕ → Type 0
MarkedIn s n = (p : Packet) → find s.packets n ≡ Some p → is_marked (current_location p) ≡ true

-- a routine's frame, and any
pub record FrameRoom (set : Set) (states : States) (s : Shared) (a : Activation) : Type 0 where
  pub rooms : HoldOf is_right (Refers (RoomFor set s a.device)) (state_of states a).kinds
      a.registers
  pub marks : HoldOf is_owned (Refers (MarkedIn s)) (state_of states a).kinds a.registers

abbrev pub HasRoom : Set → States → Shared → Frame → Type 0
HasRoom set states s (Routine a) = FrameRoom set states s a
HasRoom set states s (Walk n) = ⊤
HasRoom set states s (CancelFrame c) = ⊤

-- a packet that waits at a device, or may be cancelled there, has both
pub record Place (set : Set) (d : ℕ) (p : Packet) : Type 0 where
  pub room : RoomAt set d p
  pub marked : is_marked (current_location p) ≡ true

abbrev pub HasPlace : Set → Shared → ℕ → ℕ → Type 0
HasPlace set s d n = (p : Packet) → find s.packets n ≡ Some p → Place set d p

abbrev pub QueuesRoom : Set → Shared → Type 0
QueuesRoom set s =
    (d q n : ℕ) (entries : List ℕ) → queue_of s d q ≡ Some entries
    → is_cancelable set d (Declared q) ≡ false → 1 ≤ times_in entries n → HasPlace set s d n

abbrev pub StartsRoom : Set → Shared → Type 0
StartsRoom set s =
    (d n : ℕ) (start : StartState) → start_of s d ≡ Some start
    → 1 ≤ times_at (waits_cancelable set d) start n
    → HasPlace set s d n

abbrev pub WordsRoom : Set → Shared → Type 0
WordsRoom set s =
    (n : ℕ) (p : Packet) (armer : Armer) → find s.packets n ≡ Some p → p.armer ≡ Some armer
    → Place set armer.device p

pub record WaitingRoom (set : Set) (s : Shared) : Type 0 where
  pub queues : QueuesRoom set s
  pub starts : StartsRoom set s
  pub words : WordsRoom set s

-- a packet is as it was before a step, as far as that goes
abbrev pub Keeps : Shared → Shared → ℕ → Type 0
Keeps s after n =
    (q : Packet) → find after.packets n ≡ Some q
    → (p : Packet) × (find s.packets n ≡ Some p) × Stays p q

pub room_kept : (set : Set) (d : ℕ) (p q : Packet) → Stays p q → RoomAt set d p → RoomAt set d q
room_kept set d p q stays room =
    let count : length q.locations.items ≡ length p.locations.items = stays.count in
    let place : q.depth ≡ p.depth = stays.place in
    omega arith

place_stays : (set : Set) (d : ℕ) (p q : Packet) → Stays p q → Place set d p → Place set d q
place_stays set d p q stays place =
    record { room = room_kept set d p q stays place.room; marked = stays.mark place.marked }

pub place_kept : (set : Set) (s after : Shared) (d n : ℕ) → Keeps s after n → HasPlace set s d n
    → HasPlace set after d n
place_kept set s after d n keeps place q there =
    let old : (p : Packet) × (find s.packets n ≡ Some p) × Stays p q = keeps q there in
    place_stays set d old.0 q old.2 (place old.0 old.1)

-- lists and slots are as they were, and no cancel word that wasn't set is
pub record SameWaiting (s after : Shared) : Type 0 where
  pub queues : after.queues ≡ s.queues
  pub starts : after.starts ≡ s.starts
  pub words : (n : ℕ) (q : Packet) (armer : Armer) → find after.packets n ≡ Some q
      → q.armer ≡ Some armer
      → (p : Packet) × (find s.packets n ≡ Some p) × (p.armer ≡ Some armer)

plain_some : (set : Set) (s : Shared) (d q n : ℕ) (entries : List ℕ) → queue_of s d q ≡ Some entries
    → is_cancelable set d (Declared q) ≡ false → 1 ≤ times_in entries n → 1 ≤ times_waiting set s n
plain_some set s d q n entries there plain some =
    let le : (if is_cancelable set d (Declared q) then 0 else times_in entries n)
    ≤ times_plain set 0 s.queues n = plain_le set n s d q entries there in
    let all : times_in entries n ≤ times_plain set 0 s.queues n = rw plain at le in
    omega arith

started_some : (set : Set) (s : Shared) (d n : ℕ) (start : StartState) → start_of s d ≡ Some start
    → 1 ≤ times_at (waits_cancelable set d) start n → 1 ≤ times_waiting set s n
started_some set s d n start there some =
    omega (arith, started_le set s.starts d start n there)

pub word_some : (set : Set) (s : Shared) (n : ℕ) (p : Packet) (armer : Armer)
    → find s.packets n ≡ Some p → p.armer ≡ Some armer → 1 ≤ times_waiting set s n
word_some set s n p armer there is =
    let named : times_named (packet_of s n) ≡ times_named (Some p) =
    ap times_named (find_place s.packets n ∙ there) in
    let one : times_named (Some p) ≡ 1 = rw is refl in
    omega arith

pub waiting_kept : (set : Set) (s after : Shared) → WaitingRoom set s → SameWaiting s after
    → ((n : ℕ) → 1 ≤ times_waiting set s n → Keeps s after n) → WaitingRoom set after
waiting_kept set s after waiting same keeps =
    record {
      queues = λ d q n entries there plain some.
          let before : queue_of s d q ≡ Some entries =
          ap (λ (queues : List (List (List ℕ))). option_and_then (λ lists. slice_get lists q)
          (slice_get queues d)) (sym same.queues) ∙ there in
          place_kept set s after d n (keeps n (plain_some set s d q n entries before plain some))
          (waiting.queues d q n entries before plain some);
      starts = λ d n start there some.
          let before : start_of s d ≡ Some start =
          ap (λ (starts : List StartState). slice_get starts d) (sym same.starts) ∙ there in
          place_kept set s after d n (keeps n (started_some set s d n start before some))
          (waiting.starts d n start before some);
      words = λ n q armer there is.
          let old : (p : Packet) × (find s.packets n ≡ Some p) × (p.armer ≡ Some armer) =
          same.words n q armer there is in
          place_kept set s after armer.device n
          (keeps n (word_some set s n old.0 armer old.1 old.2))
          (λ p found. waiting.words n p armer found
          (let both : Some old.0 ≡ Some p = sym old.1 ∙ found in
          let one : old.0 ≡ p = cc in
          rw (← one) old.2)) q there;
    }

module _ (set : Set) (s : Shared) (waiting : WaitingRoom set s) (d : ℕ) where
  -- a queue in place of another
  queue_put_room : (q : ℕ) (before after : List ℕ) → queue_of s d q ≡ Some before
      → (is_cancelable set d (Declared q) ≡ false → (m : ℕ) → 1 ≤ times_in after m
      → HasPlace set s d m)
      → QueuesRoom set (with_queue s d q after)
  queue_put_room q before after there room e k m entries here plain some =
      elim (queue_after s d q before after e k entries there here) [
        | inl its ↦
            let count : times_in entries m ≡ times_in after m =
            ap (λ (xs : List ℕ). times_in xs m) its.2 in
            let free : is_cancelable set d (Declared q) ≡ false = rw (its.0, its.1) plain in
            subst (λ (device : ℕ). HasPlace set s device m) its.0 (room free m (omega arith))
        | inr same ↦ waiting.queues e k m entries same plain some
      ]

  -- what a device has for StartIo in place of something else
  pub start_put_room : (before after : StartState) → start_of s d ≡ Some before
      → ((m : ℕ) → 1 ≤ times_at (waits_cancelable set d) after m → HasPlace set s d m)
      → StartsRoom set (with_start s d after)
  start_put_room before after there room e m start here some =
      elim (start_after s d before after e start there here) [
        | inl its ↦
            let count : times_at (waits_cancelable set e) start m
            ≡ times_at (waits_cancelable set d) after m =
            ap (λ (x : StartState). times_at (waits_cancelable set e) x m) its.1
            ∙ ap (λ (x : ℕ). times_at (waits_cancelable set x) after m) (sym its.0) in
            subst (λ (device : ℕ). HasPlace set s device m) its.0 (room m (omega arith))
        | inr same ↦ waiting.starts e m start same some
      ]

-- of a packet that has topped out nothing is asked
gone_place : (set : Set) (s : Shared) (d n : ℕ) → packet_of s n ≡ None → HasPlace set s d n
gone_place set s d n gone p there =
    let no : None ≡ Some p = sym gone ∙ (find_place s.packets n ∙ there) in cc

started_most : (b : Bool) (start : StartState) (n m : ℕ)
    → times_at b (started start n) m ≤ times_at b start m + (if nat_eq n m then 1 else 0)
started_most b start n m =
    cond_both start.busy (record start { device_queue = inserted start.device_queue n })
    (record start { start_list = inserted start.start_list n; busy = true })
    (λ (x : StartState). times_at b x m ≤ times_at b start m + (if nat_eq n m then 1 else 0))
    (λ busy. queue_most b (times_in (inserted start.device_queue n) m)
    (times_in start.device_queue m) (if nat_eq n m then 1 else 0) (times_in start.start_list m)
    (times_in_slot start.slot m) (times_pushed start.device_queue n m))
    (λ free. omega (arith, times_pushed start.start_list n m))
  where
    queue_most : (b : Bool) (more some one listed slot : ℕ) → more ≡ some + one
        → listed + (if b then 0 else more) + slot ≤ listed + (if b then 0 else some) + slot + one
    queue_most true more some one listed slot h = omega arith
    queue_most false more some one listed slot h = omega arith

-- a packet that comes to those that wait
pub given_place : (set : Set) (s : Shared) (d n m before : ℕ) → HasPlace set s d n
    → (1 ≤ before → HasPlace set s d m) → 1 ≤ before + (if nat_eq n m then 1 else 0)
    → HasPlace set s d m
given_place set s d n m before place others some =
    elim (eqb_tells n m) [
      | inl same ↦ subst (λ (k : ℕ). HasPlace set s d k) same.1 place
      | inr apart ↦ let one : 1 ≤ before + 0 = rw apart.0 at some in others (omega arith)
    ]

-- what is taken off a queue is one of those that stood there before
unlinked_some : (entries : List ℕ) (n m : ℕ) → times_in (unlinked entries n) m ≤ times_in entries m
unlinked_some [] n m = omega arith
unlinked_some (entry ∷ entries) n m =
    let others : times_in (unlinked entries n) m ≤ times_in entries m = unlinked_some entries n m in
    elim (eqb_tells entry n) [
      | inl same ↦ rw same.0 (omega arith)
      | inr apart ↦ rw apart.0 (omega arith)
    ]

dequeued_less : (b : Bool) (start : StartState) (n m : ℕ)
    → times_at b (dequeued start n) m ≤ times_at b start m
dequeued_less true start n m = omega arith
dequeued_less false start n m = omega (arith, unlinked_some start.device_queue n m)

pub served_cancels : (set : Set) (device driver q : ℕ) → Serves set device driver
    → is_cancelable set device (Declared q) ≡ is_some (cancel_routine_of set driver q)
served_cancels set device driver q serves =
    ap (λ (x : ℕ). is_some (cancel_routine_of set x q)) (device_driver set device driver serves)

-- a packet that is taken off a queue is the routine's own where that has no cancel routine
removed_plain : (f : Kind → Bool) → IsClaim f → (cancel : Option ℕ) (q : ℕ)
    → f (kind_removed cancel (Declared q)) ≡ true → is_some cancel ≡ false
removed_plain f claim None q is = refl
removed_plain f claim (Some routine) q is =
    let no : true ≡ false = sym is ∙ claim.queued (Declared q) Taken in cc

module _ (set : Set) (states : States) (s : Shared) (a : Activation)
    (room : FrameRoom set states s a) where
  -- the packet in a register of the frame's own
  pub own_place : (r n : ℕ) → is_owned (kind_of (state_of states a) r) ≡ true → Reads s a r n
      → HasPlace set s a.device n
  own_place r n is reads p there =
      record {
        room = claim_get is_right claims_right (RoomFor set s a.device) (state_of states a).kinds
            a.registers r room.rooms (claims_owned.right (kind_of (state_of states a) r) is) n
            (reads_ref s (register a r) n reads) p there;
        marked = claim_get is_owned claims_owned (MarkedIn s) (state_of states a).kinds a.registers
            r
            room.marks is n (reads_ref s (register a r) n reads) p there;
      }

module _ (set : Set) (states : States) (s : Shared) (a : Activation)
    (room : FrameRoom set states s a) (waiting : WaitingRoom set s) where
  removed_place : (f : Kind → Bool) → IsClaim f → (q n : ℕ) (entries : List ℕ)
      → Serves set a.device a.driver → queue_of s a.device q ≡ Some (n ∷ entries)
      → f (kind_removed (cancel_routine_of set a.driver q) (Declared q)) ≡ true
      → HasPlace set s a.device n
  removed_place f claim q n entries serves there is =
      waiting.queues a.device q n (n ∷ entries) there
      (served_cancels set a.device a.driver q serves
      ∙ removed_plain f claim (cancel_routine_of set a.driver q) q is)
      (rw (eq-eqb n n refl) (omega arith))

  slot_place : (n : ℕ) (start : StartState) → start_of s a.device ≡ Some start
      → start.slot ≡ Some n → HasPlace set s a.device n
  slot_place n start there slot =
      let one : times_in_slot start.slot n ≡ 1 = rw (slot, eq-eqb n n refl) refl in
      waiting.starts a.device n start there (omega arith)

  -- a packet comes out of a list or the slot into a register, or goes there, or stays
  module _ (f : Kind → Bool) (claim : IsClaim f) (M : ℕ → Type 0)
      (placed : (n : ℕ) → HasPlace set s a.device n → M n) where
    taken_in : (n : ℕ) → M n → Refers M (Ref n)
    taken_in n has m refers =
        let same : n ≡ m = cc in subst M same has

    queued_claims : (i : Instr) (h : Runs set states s a i) → {b : Activation}
        {queues : List (List (List ℕ))} {lists : List StartState} {actions : List Action}
        {full : Bool}
        → Queued set s a i b queues lists actions full
        → HoldOf f (Refers M) (state_of states a).kinds a.registers
        → HoldOf f (Refers M) (state_of states b).kinds b.registers
    queued_claims i h (inserts r q n entries reads there) held =
        next_claims f claim M set states s a (Insert r q) h refl refl (λ k is. cc) held
    queued_claims i h (removes r q label n entries there) held =
        subst (λ (state : Abs). HoldOf f (Refers M) state.kinds
        (with_register a r (Ref n)).registers)
        (sym (arrives_next set states s a (Remove r q label) h refl))
        (claim_set f claim M (state_of states a).kinds a.registers r
        (kind_removed (cancel_routine_of set a.driver q) (Declared q)) (Ref n)
        (λ is. taken_in n
        (placed n (removed_place f claim q n entries h.stays.serves there is))) held)
    queued_claims i h (removes_none r q label there) held =
        goes_claims f claim M set states s a (Remove r q label) h _ true (jumping label refl)
        (λ no. cc) held
    queued_claims i h (unlinks r q n entries reads there) held =
        next_claims f claim M set states s a (Unlink r q) h refl refl (λ k is. cc) held
    queued_claims i h (starts_packet r n start reads there plain) held =
        next_claims f claim M set states s a (Start r) h refl refl (λ k is. cc) held
    queued_claims i h (takes_out r label n start there slot) held =
        subst (λ (state : Abs). HoldOf f (Refers M) state.kinds
        (with_register a r (Ref n)).registers)
        (sym (arrives_next set states s a (Take r label) h refl))
        (claim_set f claim M (state_of states a).kinds a.registers r Own (Ref n)
        (λ is. taken_in n (placed n (slot_place n start there slot))) held)
    queued_claims i h (takes_none r label start there slot) held =
        goes_claims f claim M set states s a (Take r label) h _ true (jumping label refl)
        (λ no. cc) held
    queued_claims i h (puts_in r n start reads there) held =
        next_claims f claim M set states s a (Begin r) h refl refl (λ k is. cc) held
    queued_claims i h (starts_next start there none) held =
        next_claims f claim M set states s a Next h refl refl (λ k is. cc) held
    queued_claims i h (starts_gone n start there first gone) held =
        next_claims f claim M set states s a Next h refl refl (λ k is. cc) held
    queued_claims i h (dequeues_packet r n start reads there) held =
        next_claims f claim M set states s a (Dequeue r) h refl refl (λ k is. cc) held

  pub queued_room : (i : Instr) → Runs set states s a i → {b : Activation}
      {queues : List (List (List ℕ))} {lists : List StartState} {actions : List Action}
      {full : Bool}
      → Queued set s a i b queues lists actions full → FrameRoom set states s b
  queued_room i h {b = b} queued =
      let device : b.device ≡ a.device = (queue_moves set states s a i h queued).moved.device in
      record {
        rooms = rw device
            (queued_claims is_right claims_right (RoomFor set s a.device)
            (λ n place p there. (place p there).room) i h queued room.rooms);
        marks = queued_claims is_owned claims_owned (MarkedIn s)
            (λ n place p there. (place p there).marked) i h queued room.marks;
      }

  owned_place : (r n : ℕ) → kind_of (state_of states a) r ≡ Own → Reads s a r n
      → HasPlace set s a.device n
  owned_place r n is reads = own_place set states s a room r n (ap is_owned is) reads

  pub waiting_queued : (i : Instr) → Runs set states s a i → {b : Activation}
      {queues : List (List (List ℕ))} {lists : List StartState} {actions : List Action}
      {full : Bool}
      → Queued set s a i b queues lists actions full
      → WaitingRoom set (record s { queues = queues; starts = lists })
  waiting_queued i h (inserts r q n entries reads there) =
      record {
        queues = queue_put_room set s waiting a.device q entries (inserted entries n) there
            (λ plain m some.
            let pushed : times_in (inserted entries n) m
            ≡ times_in entries m + (if nat_eq n m then 1 else 0) = times_pushed entries n m in
            given_place set s a.device n m (times_in entries m)
            (owned_place r n (inserts_right (kind_of (state_of states a) r)
            (first_none _ _ h.obeys)) reads)
            (waiting.queues a.device q m entries there plain) (omega arith));
        starts = waiting.starts;
        words = waiting.words;
      }
  waiting_queued i h (removes r q label n entries there) =
      record {
        queues = queue_put_room set s waiting a.device q (n ∷ entries) entries there
            (λ plain m some. waiting.queues a.device q m (n ∷ entries) there plain (omega arith));
        starts = waiting.starts;
        words = waiting.words;
      }
  waiting_queued i h (removes_none r q label there) =
      record { queues = waiting.queues; starts = waiting.starts; words = waiting.words }
  waiting_queued i h (unlinks r q n entries reads there) =
      record {
        queues = queue_put_room set s waiting a.device q entries (unlinked entries n) there
            (λ plain m some.
            let le : times_in (unlinked entries n) m ≤ times_in entries m =
            unlinked_some entries n m in
            waiting.queues a.device q m entries there plain (omega arith));
        starts = waiting.starts;
        words = waiting.words;
      }
  waiting_queued i h (starts_packet r n start reads there plain) =
      record {
        queues = waiting.queues;
        starts = start_put_room set s waiting a.device start (started start n) there
            (λ m some. elim plain [
              | inl may ↦
                  let given : times_at (waits_cancelable set a.device) (started start n) m
                  ≡ times_at (waits_cancelable set a.device) start m
                  + (if nat_eq n m then 1 else 0) =
                  times_given set a.device a.driver start n m
                  (served_waits set states s a (Start r) h) may in
                  given_place set s a.device n m (times_at (waits_cancelable set a.device) start m)
                  (owned_place r n (inserts_right (kind_of (state_of states a) r)
                  (first_none _ _ h.obeys)) reads)
                  (waiting.starts a.device m start there) (omega arith)
              | inr gone ↦
                  given_place set s a.device n m (times_at (waits_cancelable set a.device) start m)
                  (gone_place set s a.device n gone) (waiting.starts a.device m start there)
                  (omega (arith, started_most (waits_cancelable set a.device) start n m))
            ]);
        words = waiting.words;
      }
  waiting_queued i h (takes_out r label n start there slot) =
      record {
        queues = waiting.queues;
        starts = start_put_room set s waiting a.device start (with_slot start None) there
            (λ m some. waiting.starts a.device m start there (omega arith));
        words = waiting.words;
      }
  waiting_queued i h (takes_none r label start there slot) =
      record { queues = waiting.queues; starts = waiting.starts; words = waiting.words }
  waiting_queued i h (puts_in r n start reads there) =
      record {
        queues = waiting.queues;
        starts = start_put_room set s waiting a.device start (with_slot start (Some n)) there
            (λ m some.
            given_place set s a.device n m (times_at (waits_cancelable set a.device) start m)
            (owned_place r n (inserts_right (kind_of (state_of states a) r)
            (first_none _ _ h.obeys)) reads)
            (waiting.starts a.device m start there) (omega arith));
        words = waiting.words;
      }
  waiting_queued i h (starts_next start there none) =
      record {
        queues = waiting.queues;
        starts = start_put_room set s waiting a.device start (next_started start) there
            (λ m some.
            let same : times_at (waits_cancelable set a.device) (next_started start) m
            ≡ times_at (waits_cancelable set a.device) start m =
            times_next set a.device a.driver start m (served_waits set states s a Next h) none in
            waiting.starts a.device m start there (omega arith));
        words = waiting.words;
      }
  waiting_queued i h (starts_gone n start there first gone) =
      record {
        queues = waiting.queues;
        starts = start_put_room set s waiting a.device start (next_started start) there
            (λ m some.
            given_place set s a.device n m (times_at (waits_cancelable set a.device) start m)
            (gone_place set s a.device n gone) (waiting.starts a.device m start there)
            (let both : (has_cancel set a.driver DeviceQueue ≡ true)
            × (head_of start.device_queue ≡ Some n) =
            first_both (has_cancel set a.driver DeviceQueue) (head_of start.device_queue) n first in
            let may : waits_cancelable set a.device ≡ true =
            served_waits set states s a Next h ∙ both.0 in
            let won : times_at (waits_cancelable set a.device) (next_started start) m
            ≡ times_at (waits_cancelable set a.device) start m + (if nat_eq n m then 1 else 0) =
            rw may (times_disarmed start n m both.1) in
            omega arith));
        words = waiting.words;
      }
  waiting_queued i h (dequeues_packet r n start reads there) =
      record {
        queues = waiting.queues;
        starts = start_put_room set s waiting a.device start (dequeued start n) there
            (λ m some.
            waiting.starts a.device m start there
            (omega (arith, dequeued_less (waits_cancelable set a.device) start n m)));
        words = waiting.words;
      }

-- a routine goes on where a packet in the device queue has its cancel routine exchanged
module _ (set : Set) (states : States) (s : Shared) (a : Activation) (f : Kind → Bool)
    (claim : IsClaim f) (M : ℕ → Type 0) where
  pub waits_claims : (i : Instr) → Runs set states s a i → {starts : List StartState} {n : ℕ}
      {armer : Option Armer} {full : Bool} → Waits set s a i starts n armer full
      → HoldOf f (Refers M) (state_of states a).kinds a.registers
      → HoldOf f (Refers M) (state_of states (next a)).kinds a.registers
  waits_claims i h (arms_waiting r n start reads there armed) held =
      next_claims f claim M set states s a (Start r) h refl refl (λ k is. cc) held
  waits_claims i h (disarms_next n start there first) held =
      next_claims f claim M set states s a Next h refl refl (λ k is. cc) held

-- and the packet has its place, in the device queue or in the start list
module _ (set : Set) (states : States) (s : Shared) (a : Activation) (after : Shared)
    (waiting : WaitingRoom set after) (same : after.starts ≡ s.starts)
    (queues : after.queues ≡ s.queues) where
  pub waiting_waits : (i : Instr) → Runs set states s a i → {starts : List StartState} {n : ℕ}
      {armer : Option Armer} {full : Bool} → Waits set s a i starts n armer full
      → HasPlace set after a.device n
      → WaitingRoom set (record after { starts = starts })
  waiting_waits i h {starts = starts} (arms_waiting r n start reads there armed) place =
      let both : (has_cancel set a.driver DeviceQueue ≡ true) × (start.busy ≡ true) =
      and_both (has_cancel set a.driver DeviceQueue) start.busy armed in
      let may : waits_cancelable set a.device ≡ true =
      served_waits set states s a (Start r) h ∙ both.0
      in
      let here : start_of after a.device ≡ Some start =
      ap (λ (xs : List StartState). slice_get xs a.device) same ∙ there in
      record {
        queues = waiting.queues;
        starts = subst (λ (xs : List StartState). StartsRoom set (record after { starts = xs }))
            (ap (λ (xs : List StartState). slice_set xs a.device (started start n)) same)
            (start_put_room set after waiting a.device start (started start n) here
            (λ m some.
            let even : times_at (waits_cancelable set a.device) (started start n) m
            ≡ times_at (waits_cancelable set a.device) start m =
            rw may (times_waited start n m both.1) in
            waiting.starts a.device m start here (omega arith)));
        words = waiting.words;
      }
  waiting_waits i h {starts = starts} (disarms_next n start there first) place =
      let both : (has_cancel set a.driver DeviceQueue ≡ true)
      × (head_of start.device_queue ≡ Some n) =
      first_both (has_cancel set a.driver DeviceQueue) (head_of start.device_queue) n first in
      let may : waits_cancelable set a.device ≡ true =
      served_waits set states s a Next h ∙ both.0 in
      let here : start_of after a.device ≡ Some start =
      ap (λ (xs : List StartState). slice_get xs a.device) same ∙ there in
      record {
        queues = waiting.queues;
        starts = subst (λ (xs : List StartState). StartsRoom set (record after { starts = xs }))
            (ap (λ (xs : List StartState). slice_set xs a.device (next_started start)) same)
            (start_put_room set after waiting a.device start (next_started start) here
            (λ m some.
            let won : times_at (waits_cancelable set a.device) (next_started start) m
            ≡ times_at (waits_cancelable set a.device) start m + (if nat_eq n m then 1 else 0) =
            rw may (times_disarmed start n m both.1) in
            given_place set after a.device n m (times_at (waits_cancelable set a.device) start m)
            place (waiting.starts a.device m start here) (omega arith)));
        words = waiting.words;
      }
