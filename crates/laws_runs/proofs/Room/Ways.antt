-- The way up of each live packet: its completion routines are stored below its first location, for
-- devices that have room there, and above one that may hold the packet the location is marked. What
-- changes of a packet leave of that, and of its size, its place and the mark of its current
-- location.
use Rattle.laws_runs.proofs.Common.{ap, arith, inl, inr, refl, subst, sym, zero, ◌-◌, ◌∙◌, cases_lt, eqb_tells, length-set, List, None, Option, Some, length, slice_get, slice_set, suc, true, ℕ, ◌+◌, ◌<◌, ◌≡◌, ◌≢◌, ◌≤◌, sort_of_completion, Set, completion_of, copied_location, current_location, is_marked, left_location, mark_current, moved_up, new_packet, sent_down, shared_with, Hold, Major, Completion, Location, Packet, set_other, set_same}
use Rattle.laws_runs.proofs.Past.Stacks.{marked_length, shared_length}
use Rattle.laws_runs.proofs.Room.Locations.{location_there, marked_completion, marks_stay, shared_completion, shared_marks}
use Rattle.laws_runs.proofs.Room.Marked.{LentMarked}
use Rattle.laws_runs.proofs.Room.Sizes.{stack_at}

-- the completion routine of a location has room there
abbrev StoredRoom : Set → Packet → Type 0
StoredRoom set p =
    (j : ℕ) (c : Completion) → j < p.depth → completion_of (slice_get p.locations.items j) ≡ Some c
    → (1 ≤ j) × (j + stack_at set c.device ≤ length p.locations.items + 1)

pub record WayUp (set : Set) (p : Packet) : Type 0 where
  pub some : 1 ≤ p.depth
  pub stored : StoredRoom set p
  pub lends : LentMarked set p

-- a packet stays where it is, marked if it was, and so does its way up
pub record Stays (p q : Packet) : Type 0 where
  pub count : length q.locations.items ≡ length p.locations.items
  pub place : q.depth ≡ p.depth
  pub mark : is_marked (current_location p) ≡ true → is_marked (current_location q) ≡ true
  pub way : (set : Set) → WayUp set p → WayUp set q

pub stays_same : (p q : Packet) → q.locations.items ≡ p.locations.items → q.depth ≡ p.depth
    → Stays p q
stays_same p q locations depth =
    record {
      count = ap (λ (items : List Location). length items) locations;
      place = depth;
      mark = rw (locations, depth) (λ is. is);
      way = λ set w. record {
        some = rw depth w.some;
        stored = rw (locations, depth) w.stored;
        lends = rw (locations, depth) w.lends;
      };
    }

pub stays_marked : (p : Packet) → Stays p (mark_current p)
stays_marked p =
    record {
      count = marked_length (current_location p) p.locations.items (p.depth - 1);
      place = refl;
      mark = marks_stay p.locations.items (p.depth - 1) (p.depth - 1);
      way = λ set w. record {
        some = w.some;
        stored = λ j c low there.
            let long : length (mark_current p).locations.items ≡ length p.locations.items =
            marked_length (current_location p) p.locations.items (p.depth - 1) in
            let old : (1 ≤ j) × (j + stack_at set c.device ≤ length p.locations.items + 1) =
            w.stored j c low (sym (marked_completion p.locations.items (p.depth - 1) j) ∙ there) in
            (old.0, rw long old.1);
        lends = λ k c low there holds.
            marks_stay p.locations.items (p.depth - 1) k
            (w.lends k c low
            (sym (marked_completion p.locations.items (p.depth - 1) (suc k)) ∙ there) holds);
      };
    }

pub stays_shared : (p : Packet) (device : ℕ) → Stays p (shared_with p device)
stays_shared p device =
    record {
      count = shared_length (current_location p) p.locations.items (p.depth - 1) device;
      place = refl;
      mark = λ is. shared_marks p.locations.items (p.depth - 1) device (p.depth - 1) ∙ is;
      way = λ set w. record {
        some = w.some;
        stored = λ j c low there.
            let long : length (shared_with p device).locations.items ≡ length p.locations.items =
            shared_length (current_location p) p.locations.items (p.depth - 1) device in
            let old : (1 ≤ j) × (j + stack_at set c.device ≤ length p.locations.items + 1) =
            w.stored j c low
            (sym (shared_completion p.locations.items (p.depth - 1) device j) ∙ there) in
            (old.0, rw long old.1);
        lends = λ k c low there holds.
            shared_marks p.locations.items (p.depth - 1) device k
            ∙ w.lends k c low
            (sym (shared_completion p.locations.items (p.depth - 1) device (suc k)) ∙ there) holds;
      };
    }

-- the packet is sent down in a location of its own
copied_completion : (o : Option Location) (device : ℕ) (c : Option Completion)
    → completion_of (Some (copied_location o device c)) ≡ c
copied_completion None device c = refl
copied_completion (Some l) device c = refl

module _ (set : Set) (p : Packet) (lower : ℕ) (c : Option Completion) (w : WayUp set p)
    (within : p.depth < length p.locations.items)
    (room : (d : Completion) → c ≡ Some d
    → p.depth + stack_at set d.device ≤ length p.locations.items + 1)
    (marked : (d : Completion) → c ≡ Some d → sort_of_completion set d ≡ Hold
    → is_marked (current_location p) ≡ true) where
  abbrev fresh : Location
  fresh = copied_location (current_location p) lower c

  stored_here : (d : Completion)
      → completion_of (slice_get (slice_set p.locations.items p.depth fresh) p.depth) ≡ Some d
      → c ≡ Some d
  stored_here d there =
      sym (copied_completion (current_location p) lower c)
      ∙ sym (ap completion_of (set_same p.locations.items p.depth _ fresh
      (location_there p.locations.items p.depth within)))
      ∙ there

  stored_there : (j : ℕ) (d : Completion) → p.depth ≢ j
      → completion_of (slice_get (slice_set p.locations.items p.depth fresh) j) ≡ Some d
      → completion_of (slice_get p.locations.items j) ≡ Some d
  stored_there j d apart there =
      sym (ap completion_of (set_other p.locations.items p.depth j fresh apart)) ∙ there

  pub sent_way : WayUp set (sent_down p lower c)
  sent_way =
      let long : length (slice_set p.locations.items p.depth fresh) ≡ length p.locations.items =
      length-set p.locations.items p.depth fresh in
      let some : 1 ≤ p.depth = w.some in
      record {
        some = omega arith;
        stored = λ j d low there.
            elim (eqb_tells p.depth j) [
              | inl e ↦
                  let same : p.depth ≡ j = e.1 in
                  let its : c ≡ Some d =
                  stored_here d (subst (λ (k : ℕ). completion_of
                  (slice_get (slice_set p.locations.items p.depth fresh) k) ≡ Some d) (sym same)
                  there) in
                  let left : p.depth + stack_at set d.device ≤ length p.locations.items + 1 =
                  room d its in
                  (omega arith, omega arith)
              | inr e ↦
                  let old : (1 ≤ j) × (j + stack_at set d.device ≤ length p.locations.items + 1) =
                  w.stored j d (before j low e.1) (stored_there j d e.1 there) in
                  let left : j + stack_at set d.device ≤ length p.locations.items + 1 = old.1 in
                  (old.0, omega arith)
            ];
        lends = λ k d low there holds.
            ap is_marked (set_other p.locations.items p.depth k fresh (deeper k low))
            ∙ elim (eqb_tells p.depth (suc k)) [
              | inl e ↦
                  let same : p.depth ≡ suc k = e.1 in
                  let place : p.depth - 1 ≡ k = omega arith in
                  let its : c ≡ Some d =
                  stored_here d (subst (λ (j : ℕ). completion_of
                  (slice_get (slice_set p.locations.items p.depth fresh) j) ≡ Some d) (sym same)
                  there) in
                  subst (λ (j : ℕ). is_marked (slice_get p.locations.items j) ≡ true) place
                  (marked d its holds)
              | inr e ↦
                  w.lends k d (before (suc k) low e.1) (stored_there (suc k) d e.1 there) holds
            ];
      }
    where
      before : (j : ℕ) → j < p.depth + 1 → p.depth ≢ j → j < p.depth
      before j low apart =
          elim (cases_lt j p.depth) [
            | inl l ↦ l
            | inr l ↦ let same : p.depth ≡ j = omega arith in absurd (apart same)
          ]

      deeper : (k : ℕ) → suc k < p.depth + 1 → p.depth ≢ k
      deeper k low same = absurd (omega arith)

-- completion leaves a location below the first
pub up_way : (set : Set) (p : Packet) → WayUp set p → 2 ≤ p.depth
    → WayUp set (moved_up (left_location p))
up_way set p w deep =
    record {
      some = omega arith;
      stored = λ j c low there. w.stored j c (omega arith) there;
      lends = λ k c low there holds. w.lends k c (omega arith) there holds;
    }

-- one that a completion routine is stored in is below the first, and the routine's device has room
-- when the location above it is current
pub back_room : (set : Set) (p : Packet) (c : Completion) → WayUp set p
    → completion_of (current_location p) ≡ Some c
    → (2 ≤ p.depth) × (p.depth - 1 + stack_at set c.device ≤ length p.locations.items + 1)
back_room set p c w there =
    let some : 1 ≤ p.depth = w.some in
    let old : (1 ≤ p.depth - 1)
    × (p.depth - 1 + stack_at set c.device ≤ length p.locations.items + 1) =
    w.stored (p.depth - 1) c (omega arith) there in
    let below : 1 ≤ p.depth - 1 = old.0 in
    (omega arith, old.1)

-- a new packet has no completion routine
first_none : (number device : ℕ) (major : Major) (argument stack j : ℕ) (c : Completion) → j < 1
    → completion_of (slice_get (new_packet number device major argument stack).locations.items j)
    ≡ Some c → ⊥
first_none number device major argument stack zero c low there = cc
first_none number device major argument stack (suc j) c low there = absurd (omega arith)

pub new_way : (set : Set) (number device : ℕ) (major : Major) (argument stack : ℕ)
    → WayUp set (new_packet number device major argument stack)
new_way set number device major argument stack =
    record {
      some = omega arith;
      stored = λ j c low there.
          absurd (first_none number device major argument stack j c low there);
      lends = λ k c low there holds. absurd (omega arith);
    }
