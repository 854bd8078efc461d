-- The packets in slots: what a key finds is the packet that its number finds, and a packet written
-- to its slot, or a slot that becomes free, is so in the list of live packets.
use Rattle.std.proofs.Common.{◌≡◌, ◌≢◌, ℕ, zero, suc, true, false, List, [], ◌∷◌, Option, None, Some, refl, sym, ◌∙◌, ap, map, inl, inr, arith}
use Rattle.std.specs.Prelude.{option_map, remove, slice_set}
use Rattle.std.proofs.lemmas.Bool.Decides.{eqb_tells}
use Rattle.std.proofs.lemmas.Bool.{cases_Bool, eq-eqb}
use Rattle.model.specs.declared.world.Packet.{Packet}
use Rattle.model.specs.Queues.{is_linked, unlinked}
use Rattle.model.specs.World.{place_of}
use Rattle.laws_runs.proofs.Past.LivePackets.{Rises, find, find_below}
use Rattle.laws_slots.specs.Rep.{packets_in, slotted, then_packet}
use Rattle.laws_slots.specs.Slots.{slot_at}

-- a slot after a write
pub slot_same : (slots : List (Option Packet)) (k : ℕ) (p : Packet) (new : Option Packet)
    → slot_at slots k ≡ Some p → slot_at (slice_set slots k new) k ≡ new
slot_same [] k p new there = cc
slot_same (x ∷ slots) zero p new there = refl
slot_same (x ∷ slots) (suc k) p new there = slot_same slots k p new there

pub slot_other : (slots : List (Option Packet)) (k j : ℕ) (new : Option Packet) → j ≢ k
    → slot_at (slice_set slots k new) j ≡ slot_at slots j
slot_other [] k j new apart = refl
slot_other (x ∷ slots) zero zero new apart = absurd (apart refl)
slot_other (x ∷ slots) zero (suc j) new apart = refl
slot_other (x ∷ slots) (suc k) zero new apart = refl
slot_other (x ∷ slots) (suc k) (suc j) new apart =
    slot_other slots k j new (λ e. apart (ap suc e))

-- a list of keys begins with a key, or has it later
linked_later : (keys : List ℕ) (j k : ℕ) → j ≢ k → is_linked (j ∷ keys) k ≡ true
    → is_linked keys k ≡ true
linked_later keys j k apart h =
    elim (eqb_tells j k) [
      | inl same ↦ absurd (apart same.1)
      | inr other ↦ rw other.0 at h
    ]

pub linked_not : (keys : List ℕ) (j k : ℕ) → j ≢ k → is_linked (j ∷ keys) k ≡ is_linked keys k
linked_not keys j k apart =
    elim (eqb_tells j k) [
      | inl same ↦ absurd (apart same.1)
      | inr other ↦ rw other.0 refl
    ]

-- the numbers of what is found
apart_below : (low : ℕ) (packets : List Packet) (high : ℕ) (q p : Packet)
    → Rises (suc q.number) packets high → find packets p.number ≡ Some p → q.number ≢ p.number
apart_below low packets high q p rises there same =
    let none : find packets p.number ≡ None =
    find_below (suc q.number) packets high p.number rises (rw same (omega arith)) in
    let no : None ≡ Some p = sym none ∙ there in cc

-- a slot of another key is changed
pub apart_same : (slots : List (Option Packet)) (k : ℕ) (new : Option Packet) (keys : List ℕ)
    → is_linked keys k ≡ false → packets_in (slice_set slots k new) keys ≡ packets_in slots keys
apart_same slots k new [] none = refl
apart_same slots k new (j ∷ keys) none =
    elim (eqb_tells j k) [
      | inl same ↦ let no : true ≡ false = rw same.0 at none in cc
      | inr other ↦
          let rest : packets_in (slice_set slots k new) keys ≡ packets_in slots keys =
          apart_same slots k new keys (rw other.0 at none) in
          rw (slot_other slots k j new other.1, rest) refl
    ]

module _ (slots : List (Option Packet)) (k : ℕ) (p : Packet) (at : slot_at slots k ≡ Some p) where
  -- the packet of a key is found by its number
  found_on : (low high j : ℕ) (keys : List ℕ) (o : Option Packet) → slot_at slots j ≡ o
      → Rises low (then_packet o (packets_in slots keys)) high → j ≢ k
      → ((less : ℕ) → Rises less (packets_in slots keys) high
      → find (packets_in slots keys) p.number ≡ Some p)
      → find (then_packet o (packets_in slots keys)) p.number ≡ Some p
  found_on low high j keys None is rises apart later = later low rises
  found_on low high j keys (Some q) is rises apart later =
      let rest : find (packets_in slots keys) p.number ≡ Some p =
      later (suc q.number) rises.1 in
      elim (eqb_tells q.number p.number) [
        | inl same ↦ absurd (apart_below 0 (packets_in slots keys) high q p rises.1 rest same.1)
        | inr other ↦ rw other.0 rest
      ]

  pub found_in : (low high : ℕ) (keys : List ℕ) → Rises low (packets_in slots keys) high
      → is_linked keys k ≡ true → find (packets_in slots keys) p.number ≡ Some p
  found_in low high [] rises linked = cc
  found_in low high (j ∷ keys) rises linked =
      elim (eqb_tells j k) [
        | inl same ↦ rw (same.1, at, eq-eqb p.number) refl
        | inr other ↦
            found_on low high j keys (slot_at slots j) refl rises other.1
            (λ less above. found_in less high keys above (linked_later keys j k other.1 linked))
      ]

  -- a key stands once in the order
  pub alone : (high : ℕ) (keys : List ℕ) → Rises (suc p.number) (packets_in slots keys) high
      → is_linked keys k ≡ false
  alone high keys rises =
      elim (cases_Bool (is_linked keys k)) [
        | inl linked ↦
            let there : find (packets_in slots keys) p.number ≡ Some p =
            found_in (suc p.number) high keys rises linked in
            absurd (apart_below 0 (packets_in slots keys) high p p rises there refl)
        | inr none ↦ none
      ]

  abbrev after : Option Packet → List (Option Packet)
  after new = slice_set slots k new

  -- another packet of the same number is written to the slot
  module _ (q : Packet) where
    set_on : (low high j : ℕ) (keys : List ℕ) (o : Option Packet) → slot_at slots j ≡ o
        → Rises low (then_packet o (packets_in slots keys)) high → is_linked keys k ≡ true
        → (packets_in (after (Some q)) keys
        ≡ slice_set (packets_in slots keys) (place_of (packets_in slots keys) p.number) q)
        → then_packet o (packets_in (after (Some q)) keys)
        ≡ slice_set (then_packet o (packets_in slots keys))
        (place_of (then_packet o (packets_in slots keys)) p.number) q
    set_on low high j keys None is rises linked later = later
    set_on low high j keys (Some x) is rises linked later =
        elim (eqb_tells x.number p.number) [
          | inl same ↦
              absurd (apart_below 0 (packets_in slots keys) high x p rises.1
              (found_in (suc x.number) high keys rises.1 linked) same.1)
          | inr other ↦ rw other.0 (ap (λ (packets : List Packet). x ∷ packets) later)
        ]

    pub tail_rises : (low high : ℕ) (o : Option Packet) (packets : List Packet)
        → Rises low (then_packet o packets) high → (less : ℕ) × Rises less packets high
    tail_rises low high None packets rises = (low, rises)
    tail_rises low high (Some x) packets rises = (suc x.number, rises.1)

    pub set_in : (low high : ℕ) (keys : List ℕ) → Rises low (packets_in slots keys) high
        → is_linked keys k ≡ true
        → packets_in (after (Some q)) keys
        ≡ slice_set (packets_in slots keys) (place_of (packets_in slots keys) p.number) q
    set_in low high [] rises linked = cc
    set_in low high (j ∷ keys) rises linked =
        elim (eqb_tells j k) [
          | inl same ↦
              let above : Rises low (p ∷ packets_in slots keys) high = rw (same.1, at) at rises in
              let rest : packets_in (after (Some q)) keys ≡ packets_in slots keys =
              apart_same slots k (Some q) keys (alone high keys above.1) in
              rw (same.1, at, slot_same slots k p (Some q) at, eq-eqb p.number, rest) refl
          | inr other ↦
              let less : (less : ℕ) × Rises less (packets_in slots keys) high =
              tail_rises low high (slot_at slots j) (packets_in slots keys) rises in
              let later : is_linked keys k ≡ true = linked_later keys j k other.1 linked in
              rw (slot_other slots k j (Some q) other.1)
              (set_on low high j keys (slot_at slots j) refl rises later
              (set_in less.0 high keys less.1 later))
        ]

  -- the slot becomes free
  removed_on : (low high j : ℕ) (keys : List ℕ) (o : Option Packet) → slot_at slots j ≡ o
      → Rises low (then_packet o (packets_in slots keys)) high → is_linked keys k ≡ true
      → (packets_in (after None) (unlinked keys k)
      ≡ remove (packets_in slots keys) (place_of (packets_in slots keys) p.number))
      → then_packet o (packets_in (after None) (unlinked keys k))
      ≡ remove (then_packet o (packets_in slots keys))
      (place_of (then_packet o (packets_in slots keys)) p.number)
  removed_on low high j keys None is rises linked later = later
  removed_on low high j keys (Some x) is rises linked later =
      elim (eqb_tells x.number p.number) [
        | inl same ↦
            absurd (apart_below 0 (packets_in slots keys) high x p rises.1
            (found_in (suc x.number) high keys rises.1 linked) same.1)
        | inr other ↦ rw other.0 (ap (λ (packets : List Packet). x ∷ packets) later)
      ]

  pub removed_in : (low high : ℕ) (keys : List ℕ) → Rises low (packets_in slots keys) high
      → is_linked keys k ≡ true
      → packets_in (after None) (unlinked keys k)
      ≡ remove (packets_in slots keys) (place_of (packets_in slots keys) p.number)
  removed_in low high [] rises linked = cc
  removed_in low high (j ∷ keys) rises linked =
      elim (eqb_tells j k) [
        | inl same ↦
            let above : Rises low (p ∷ packets_in slots keys) high = rw (same.1, at) at rises in
            let rest : packets_in (after None) keys ≡ packets_in slots keys =
            apart_same slots k None keys (alone high keys above.1) in
            rw (same.0, same.1, at, eq-eqb p.number, rest) refl
        | inr other ↦
            let less : (less : ℕ) × Rises less (packets_in slots keys) high =
            tail_rises p low high (slot_at slots j) (packets_in slots keys) rises in
            let later : is_linked keys k ≡ true = linked_later keys j k other.1 linked in
            rw (other.0, slot_other slots k j None other.1)
            (removed_on low high j keys (slot_at slots j) refl rises later
            (removed_in less.0 high keys less.1 later))
      ]

-- the list of live packets, of which slots don't keep whether the I/O manager has them
pub find_slotted : (packets : List Packet) (n : ℕ)
    → find (map slotted packets) n ≡ option_map slotted (find packets n)
find_slotted [] n = refl
find_slotted (q ∷ packets) n =
    elim (eqb_tells q.number n) [
      | inl same ↦ rw same.0 refl
      | inr other ↦ rw other.0 (find_slotted packets n)
    ]

pub place_slotted : (packets : List Packet) (n : ℕ)
    → place_of (map slotted packets) n ≡ place_of packets n
place_slotted [] n = refl
place_slotted (q ∷ packets) n =
    elim (eqb_tells q.number n) [
      | inl same ↦ rw same.0 refl
      | inr other ↦ rw other.0 (ap suc (place_slotted packets n))
    ]

pub rises_slotted : (low : ℕ) (packets : List Packet) (high : ℕ) → Rises low packets high
    → Rises low (map slotted packets) high
rises_slotted low [] high rises = rises
rises_slotted low (q ∷ packets) high rises =
    (rises.0, rises_slotted (suc q.number) packets high rises.1)

pub map_remove : {A B : Type 0} (f : A → B) (xs : List A) (i : ℕ)
    → map f (remove xs i) ≡ remove (map f xs) i
map_remove f [] zero = refl
map_remove f [] (suc i) = refl
map_remove f (x ∷ xs) zero = refl
map_remove f (x ∷ xs) (suc i) = ap (λ ys. f x ∷ ys) (map_remove f xs i)

-- two keys of packets of the same number are one
module _ (slots : List (Option Packet)) (j k : ℕ) (p q : Packet) (at : slot_at slots j ≡ Some p)
    (there : slot_at slots k ≡ Some q) (same : p.number ≡ q.number) where
  not_later : (high : ℕ) (keys : List ℕ) (x y : ℕ) (one other : Packet)
      → slot_at slots y ≡ Some other → one.number ≡ other.number → x ≢ y
      → Rises (suc one.number) (packets_in slots keys) high → is_linked (x ∷ keys) y ≡ true → ⊥
  not_later high keys x y one other found equal apart rises linked =
      apart_below 0 (packets_in slots keys) high one other rises
      (found_in slots y other found (suc one.number) high keys rises
      (linked_later keys x y apart linked)) equal

  one_key_on : (low high i : ℕ) (keys : List ℕ) → Rises low (packets_in slots (i ∷ keys)) high
      → is_linked (i ∷ keys) j ≡ true → is_linked (i ∷ keys) k ≡ true → j ≢ k → i ≡ j → ⊥
  one_key_on low high i keys rises one other apart is =
      let above : Rises low (p ∷ packets_in slots keys) high = rw (is, at) at rises in
      not_later high keys j k p q there same apart above.1 (rw is at other)

  one_key_off : (low high i : ℕ) (keys : List ℕ) → Rises low (packets_in slots (i ∷ keys)) high
      → is_linked (i ∷ keys) j ≡ true → is_linked (i ∷ keys) k ≡ true → j ≢ k → i ≡ k → ⊥
  one_key_off low high i keys rises one other apart is =
      let above : Rises low (q ∷ packets_in slots keys) high = rw (is, there) at rises in
      not_later high keys k j q p at (sym same) (λ e. apart (sym e)) above.1 (rw is at one)

  pub apart_not : (low high : ℕ) (keys : List ℕ) → Rises low (packets_in slots keys) high
      → is_linked keys j ≡ true → is_linked keys k ≡ true → j ≢ k → ⊥
  apart_not low high [] rises one other apart = cc
  apart_not low high (i ∷ keys) rises one other apart =
      elim (eqb_tells i j) [
        | inl is ↦ one_key_on low high i keys rises one other apart is.1
        | inr isnt ↦ elim (eqb_tells i k) [
          | inl is ↦ one_key_off low high i keys rises one other apart is.1
          | inr nor ↦
              let less : (less : ℕ) × Rises less (packets_in slots keys) high =
              tail_rises slots j p at p low high (slot_at slots i) (packets_in slots keys) rises in
              apart_not less.0 high keys less.1 (linked_later keys i j isnt.1 one)
              (linked_later keys i k nor.1 other) apart
        ]
      ]

-- each packet in slots has a key
abbrev pub HasKey : List (Option Packet) → Packet → Type 0
HasKey slots p = (k : ℕ) × (slot_at slots k ≡ Some p)

has_key_on : (slots : List (Option Packet)) (k : ℕ) (packets : List Packet) (n : ℕ) (p : Packet)
    (o : Option Packet) → slot_at slots k ≡ o → (find packets n ≡ Some p → HasKey slots p)
    → find (then_packet o packets) n ≡ Some p → HasKey slots p
has_key_on slots k packets n p None at later there = later there
has_key_on slots k packets n p (Some q) at later there =
    elim (eqb_tells q.number n) [
      | inl same ↦ let first : Some q ≡ Some p = rw same.0 at there in (k, at ∙ first)
      | inr other ↦ later (rw other.0 at there)
    ]

pub has_key : (slots : List (Option Packet)) (keys : List ℕ) (n : ℕ) (p : Packet)
    → find (packets_in slots keys) n ≡ Some p → HasKey slots p
has_key slots [] n p there = cc
has_key slots (k ∷ keys) n p there =
    has_key_on slots k (packets_in slots keys) n p (slot_at slots k) refl
    (λ later. has_key slots keys n p later) there
