-- What the past tells of a live packet, and the changes of a packet that a step makes.
use Rattle.laws_runs.proofs.Prelude.{arith, refl, ◌-◌, length-replicate, length-set, Bool, List, None, Option, Some, false, is_some, length, replicate, true, ℕ, ◌+◌, ◌≡◌, ◌≤◌, cancelled, completed, copied_location, current_location, left_location, mark_current, marked_location, moved_up, new_packet, sent_down, shared_location, shared_with, unused_location, with_armer, with_info, Major, Status, Armer, Completion, Location, Packet}

-- whether the I/O manager has a packet, whether that has a cancel routine, how many locations it
-- has, and how deep the current one is
pub record Measured (p : Packet) (end arm : Bool) (size deep : ℕ) : Type 0 where
  pub taken : end ≡ p.completing
  pub armed : arm ≡ is_some p.armer
  pub count : size ≡ length p.locations.items
  pub place : deep ≡ p.depth

-- a packet that changes stays the same packet, and has as many locations
pub record Changed (p q : Packet) (end arm : Bool) (deep : ℕ) : Type 0 where
  pub number : q.number ≡ p.number
  pub taken : q.completing ≡ end
  pub armed : is_some q.armer ≡ arm
  pub count : length q.locations.items ≡ length p.locations.items
  pub place : q.depth ≡ deep

-- a location that is marked or shared is one of as many
pub marked_length : (o : Option Location) (locations : List Location) (place : ℕ)
    → length (marked_location o locations place) ≡ length locations
marked_length None locations place = refl
marked_length (Some l) locations place = length-set locations place (record l { marked = true })

pub shared_length : (o : Option Location) (locations : List Location) (place device : ℕ)
    → length (shared_location o locations place device) ≡ length locations
shared_length None locations place device = refl
shared_length (Some l) locations place device =
    length-set locations place (record l { device = device })

pub changed_info : (p : Packet) (info : ℕ)
    → Changed p (with_info p info) p.completing (is_some p.armer) p.depth
changed_info p info =
    record { number = refl; taken = refl; armed = refl; count = refl; place = refl }

pub changed_completed : (p : Packet) (status : Status)
    → Changed p (completed p status) true (is_some p.armer) p.depth
changed_completed p status =
    record { number = refl; taken = refl; armed = refl; count = refl; place = refl }

pub changed_mark : (p : Packet) → Changed p (mark_current p) p.completing (is_some p.armer) p.depth
changed_mark p =
    record {
      number = refl;
      taken = refl;
      armed = refl;
      count = marked_length (current_location p) p.locations.items (p.depth - 1);
      place = refl;
    }

pub changed_share : (p : Packet) (device : ℕ)
    → Changed p (shared_with p device) p.completing (is_some p.armer) p.depth
changed_share p device =
    record {
      number = refl;
      taken = refl;
      armed = refl;
      count = shared_length (current_location p) p.locations.items (p.depth - 1) device;
      place = refl;
    }

pub changed_down : (p : Packet) (device : ℕ) (c : Option Completion)
    → Changed p (sent_down p device c) p.completing (is_some p.armer) (p.depth + 1)
changed_down p device c =
    record {
      number = refl;
      taken = refl;
      armed = refl;
      count = length-set p.locations.items p.depth (copied_location (current_location p) device c);
      place = refl;
    }

-- its cancel flag is set, its cancel word exchanged, or the I/O manager has it again
pub changed_flag : (p : Packet) → Changed p (cancelled p) p.completing (is_some p.armer) p.depth
changed_flag p = record { number = refl; taken = refl; armed = refl; count = refl; place = refl }

pub changed_word : (p : Packet) (armer : Option Armer)
    → Changed p (with_armer p armer) p.completing (is_some armer) p.depth
changed_word p armer =
    record { number = refl; taken = refl; armed = refl; count = refl; place = refl }

pub changed_back : (p : Packet)
    → Changed p (record p { completing = true }) true (is_some p.armer) p.depth
changed_back p = record { number = refl; taken = refl; armed = refl; count = refl; place = refl }

-- completion leaves a location
pub changed_up : (p : Packet)
    → Changed p (moved_up (left_location p)) p.completing (is_some p.armer) (p.depth - 1)
changed_up p = record { number = refl; taken = refl; armed = refl; count = refl; place = refl }

pub changed_lent : (p : Packet)
    → Changed p (record (moved_up (left_location p)) { completing = false }) false (is_some p.armer)
    (p.depth - 1)
changed_lent p = record { number = refl; taken = refl; armed = refl; count = refl; place = refl }

pub changed_marked_up : (p : Packet)
    → Changed p (mark_current (moved_up (left_location p))) p.completing (is_some p.armer)
    (p.depth - 1)
changed_marked_up p =
    let up : Packet = moved_up (left_location p) in
    record {
      number = refl;
      taken = refl;
      armed = refl;
      count = marked_length (current_location up) p.locations.items (up.depth - 1);
      place = refl;
    }

-- a new packet has as many locations as its device asks for, and is at the first one
pub measured_new : (number device : ℕ) (major : Major) (argument stack : ℕ) → 1 ≤ stack
    → Measured (new_packet number device major argument stack) false false stack 1
measured_new number device major argument stack low =
    let rest : length (replicate (stack - 1) unused_location) ≡ stack - 1 =
    length-replicate (stack - 1) unused_location in
    record { taken = refl; armed = refl; count = rw rest (omega arith); place = refl }
