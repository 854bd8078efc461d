-- The packets that slots have under a list of keys, where one slot changes.
use Rattle.std.proofs.Common.{◌≡◌, ◌≢◌, ◌⊎◌, inl, inr, ◌≤◌, ◌<◌, ℕ, zero, suc, List, [], ◌∷◌, ◌++◌, Option, Some, None, IsSome, cond, is_some, length, ap, sym, ◌∙◌, refl, arith}
use Rattle.std.specs.Prelude.{slice_get, slice_set, remove}
use Rattle.std.specs.List.{cons_option}
use Rattle.std.proofs.lemmas.Bool.{cases_eq, false≢true}
use Rattle.std.proofs.lemmas.Bool.Decides.{eqb_tells}
use Rattle.std.proofs.lemmas.List.Sums.{sum_by-set}
use Rattle.std.proofs.lemmas.Option.{slice_get_past}
use Rattle.model.specs.declared.world.Packet.{Packet}
use Rattle.slab.specs.Slab.{Slab, ContainsKey, Updates, get, slab_len, with_value}
use Rattle.slab.proofs.SlabLemmas.{ContainsKey-within}
use Rattle.iomgr.specs.Numbers.{number_place}
use Rattle.iomgr.specs.Slots.{Hold, Lacks, packet_or_any, packets_in}

-- a slot that isn't among the keys
pub packets_kept : (old new : Slab Packet) (key : ℕ) (slot : Option Packet)
    → Updates old new key slot → (keys : List ℕ) → Lacks key keys
    → packets_in new.slots keys ≡ packets_in old.slots keys
packets_kept old new key slot u [] l = refl
packets_kept old new key slot u (other ∷ keys) l =
    let same = u.others other l.0 in
    let rest = packets_kept old new key slot u keys l.1 in
    rw (same, rest) refl

pub hold_kept : (old new : Slab Packet) (key : ℕ) (slot : Option Packet)
    → Updates old new key slot → (keys : List ℕ) → Lacks key keys → Hold old.slots keys → Hold new.slots keys
hold_kept old new key slot u [] l h = tt
hold_kept old new key slot u (other ∷ keys) l h =
    (rw (u.others other l.0) h.0, h.1, hold_kept old new key slot u keys l.1 h.2)

-- a key without a packet isn't among them
pub vacant_lacks : (slots : Slab Packet) (key : ℕ) → get slots key ≡ None → (keys : List ℕ)
    → Hold slots.slots keys → Lacks key keys
vacant_lacks slots key vacant [] h = tt
vacant_lacks slots key vacant (other ∷ keys) h =
    (λ e. absurd (false≢true (rw (e, vacant) at h.0)), vacant_lacks slots key vacant keys h.2)

-- a key that is among them isn't one that they lack
pub lacks_at : (key other : ℕ) (keys : List ℕ) (place : ℕ) → Lacks other keys
    → slice_get keys place ≡ Some key → other ≢ key
lacks_at key other [] place l found = absurd (cc)
lacks_at key other (first ∷ keys) zero l found =
    let same : first ≡ key = cc in
    λ e. l.0 (same ∙ sym e)
lacks_at key other (first ∷ keys) (suc place) l found = lacks_at key other keys place l.1 found

-- a key that is among them has a packet
pub key_held : (slots : Slab Packet) (key : ℕ) (keys : List ℕ) (place : ℕ) → Hold slots.slots keys
    → slice_get keys place ≡ Some key → ContainsKey slots key
key_held slots key [] place h found = absurd (cc)
key_held slots key (first ∷ keys) zero h found =
    let same : first ≡ key = cc in
    rw same at h.0
key_held slots key (first ∷ keys) (suc place) h found = key_held slots key keys place h.2 found

-- how many packets there are
pub length_in : (slots : Slab Packet) (keys : List ℕ) → Hold slots.slots keys
    → length (packets_in slots.slots keys) ≡ length keys
length_in slots [] h = refl
length_in slots (key ∷ keys) h = by (get slots key) h.0 (length_in slots keys h.2)
  where
    by : (slot : Option Packet) → IsSome slot → length (packets_in slots.slots keys) ≡ length keys
        → length (cons_option slot (packets_in slots.slots keys)) ≡ suc (length keys)
    by None some rest = absurd (false≢true some)
    by (Some p) some rest = ap (λ (n : ℕ). suc n) rest

-- the packet at a place, and behind the last
pub packet_at : (slots : Slab Packet) (key : ℕ) (keys : List ℕ) (place : ℕ) → Hold slots.slots keys
    → slice_get keys place ≡ Some key
    → slice_get (packets_in slots.slots keys) place ≡ get slots key
packet_at slots key [] place h found = absurd (cc)
packet_at slots key (first ∷ keys) zero h found = by (get slots first) h.0 refl
  where
    by : (slot : Option Packet) → IsSome slot → get slots first ≡ slot
        → slice_get (cons_option slot (packets_in slots.slots keys)) zero ≡ get slots key
    by None some is = absurd (false≢true some)
    by (Some p) some is =
        let same : first ≡ key = cc in
        sym (rw same at is)
packet_at slots key (first ∷ keys) (suc place) h found =
    by (get slots first) h.0 (packet_at slots key keys place h.2 found)
  where
    by : (slot : Option Packet) → IsSome slot
        → slice_get (packets_in slots.slots keys) place ≡ get slots key
        → slice_get (cons_option slot (packets_in slots.slots keys)) (suc place) ≡ get slots key
    by None some rest = absurd (false≢true some)
    by (Some p) some rest = rest

pub packet_past : (slots : Slab Packet) (keys : List ℕ) (place : ℕ) → Hold slots.slots keys
    → length keys ≤ place → slice_get (packets_in slots.slots keys) place ≡ None
packet_past slots keys place h past =
    slice_get_past (packets_in slots.slots keys) place (rw (length_in slots keys h) past)

-- another packet in the slot of one that is there
pub packet_set : (old new : Slab Packet) (key : ℕ) (p : Packet) → Updates old new key (Some p)
    → (keys : List ℕ) (place : ℕ) → Hold old.slots keys → slice_get keys place ≡ Some key
    → packets_in new.slots keys ≡ slice_set (packets_in old.slots keys) place p
packet_set old new key p u [] place h found = absurd (cc)
packet_set old new key p u (first ∷ keys) zero h found =
    let same : first ≡ key = cc in
    let rest = packets_kept old new key (Some p) u keys (rw same at h.1) in
    rw (same, u.changed, rest) (by (get old key) (rw same at h.0))
  where
    by : (slot : Option Packet) → IsSome slot
        → p ∷ packets_in old.slots keys ≡ slice_set (cons_option slot (packets_in old.slots keys)) zero p
    by None some = absurd (false≢true some)
    by (Some q) some = refl
packet_set old new key p u (first ∷ keys) (suc place) h found =
    let same = u.others first (lacks_at key first keys place h.1 found) in
    let rest = packet_set old new key p u keys place h.2 found in
    rw (same, rest) (by (get old first) h.0)
  where
    by : (slot : Option Packet) → IsSome slot
        → cons_option slot (slice_set (packets_in old.slots keys) place p)
        ≡ slice_set (cons_option slot (packets_in old.slots keys)) (suc place) p
    by None some = absurd (false≢true some)
    by (Some q) some = refl

pub hold_set : (old new : Slab Packet) (key : ℕ) (p : Packet) → Updates old new key (Some p)
    → (keys : List ℕ) → Hold old.slots keys → Hold new.slots keys
hold_set old new key p u [] h = tt
hold_set old new key p u (first ∷ keys) h =
    (by (cases_eq first key), h.1, hold_set old new key p u keys h.2)
  where
    by : (first ≡ key) ⊎ (first ≢ key) → ContainsKey new first
    by (inl same) = rw (same, u.changed) refl
    by (inr other) = rw (u.others first other) h.0

-- without the packet of a place
lacks_removed : (key : ℕ) (keys : List ℕ) (place : ℕ) → Lacks key keys
    → Lacks key (remove keys place)
lacks_removed key [] zero l = tt
lacks_removed key [] (suc place) l = tt
lacks_removed key (first ∷ keys) zero l = l.1
lacks_removed key (first ∷ keys) (suc place) l = (l.0, lacks_removed key keys place l.1)

pub packet_removed : (old new : Slab Packet) (key : ℕ) → Updates old new key None
    → (keys : List ℕ) (place : ℕ) → Hold old.slots keys → slice_get keys place ≡ Some key
    → packets_in new.slots (remove keys place) ≡ remove (packets_in old.slots keys) place
packet_removed old new key u [] place h found = absurd (cc)
packet_removed old new key u (first ∷ keys) zero h found =
    let same : first ≡ key = cc in
    let rest = packets_kept old new key None u keys (rw same at h.1) in
    rw rest (by (get old first) h.0)
  where
    by : (slot : Option Packet) → IsSome slot
        → packets_in old.slots keys ≡ remove (cons_option slot (packets_in old.slots keys)) zero
    by None some = absurd (false≢true some)
    by (Some q) some = refl
packet_removed old new key u (first ∷ keys) (suc place) h found =
    let same = u.others first (lacks_at key first keys place h.1 found) in
    let rest = packet_removed old new key u keys place h.2 found in
    rw (same, rest) (by (get old first) h.0)
  where
    by : (slot : Option Packet) → IsSome slot
        → cons_option slot (remove (packets_in old.slots keys) place)
        ≡ remove (cons_option slot (packets_in old.slots keys)) (suc place)
    by None some = absurd (false≢true some)
    by (Some q) some = refl

pub hold_removed : (old new : Slab Packet) (key : ℕ) → Updates old new key None
    → (keys : List ℕ) (place : ℕ) → Hold old.slots keys → slice_get keys place ≡ Some key
    → Hold new.slots (remove keys place)
hold_removed old new key u [] place h found = absurd (cc)
hold_removed old new key u (first ∷ keys) zero h found =
    let same : first ≡ key = cc in
    hold_kept old new key None u keys (rw same at h.1) h.2
hold_removed old new key u (first ∷ keys) (suc place) h found = (
  rw (u.others first (lacks_at key first keys place h.1 found)) h.0,
  lacks_removed first keys place h.1,
  hold_removed old new key u keys place h.2 found,
)

-- a packet more, in a slot that was vacant
lacks_pushed : (key other : ℕ) (keys : List ℕ) → Lacks key keys → other ≢ key
    → Lacks key (keys ++ other ∷ [])
lacks_pushed key other [] l differs = (differs, tt)
lacks_pushed key other (first ∷ keys) l differs = (l.0, lacks_pushed key other keys l.1 differs)

pub packet_pushed : (old new : Slab Packet) (key : ℕ) (p : Packet) → Updates old new key (Some p)
    → (keys : List ℕ) → Lacks key keys
    → packets_in new.slots (keys ++ key ∷ []) ≡ packets_in old.slots keys ++ p ∷ []
packet_pushed old new key p u [] l = rw u.changed refl
packet_pushed old new key p u (first ∷ keys) l =
    let same = u.others first l.0 in
    let rest = packet_pushed old new key p u keys l.1 in
    rw (same, rest) (by (get old first))
  where
    by : (slot : Option Packet)
        → cons_option slot (packets_in old.slots keys ++ p ∷ [])
        ≡ cons_option slot (packets_in old.slots keys) ++ p ∷ []
    by None = refl
    by (Some q) = refl

pub hold_pushed : (old new : Slab Packet) (key : ℕ) (p : Packet) → Updates old new key (Some p)
    → (keys : List ℕ) → Lacks key keys → Hold old.slots keys → Hold new.slots (keys ++ key ∷ [])
hold_pushed old new key p u [] l h = (rw u.changed refl, tt, tt)
hold_pushed old new key p u (first ∷ keys) l h = (
  rw (u.others first l.0) h.0,
  lacks_pushed first key keys h.1 (λ e. l.0 (sym e)),
  hold_pushed old new key p u keys l.1 h.2,
)

-- as many slots are in use where a packet is changed
pub counted_set : (slots : Slab Packet) (key : ℕ) (p : Packet) → ContainsKey slots key
    → slab_len (with_value slots key p) ≡ slab_len slots
counted_set slots key p there =
    let within = ContainsKey-within slots key there in
    let one = λ (slot : Option Packet). cond (is_some slot) 1 0 in
    let sums = sum_by-set one slots.slots key (Some p) None within in
    omega (arith, rw there at sums)

-- the place of a key that is among them
pub key_there : (keys : List ℕ) (key : ℕ) → number_place keys key < length keys
    → slice_get keys (number_place keys key) ≡ Some key
key_there [] key within = absurd (omega (arith, within))
key_there (first ∷ keys) key within =
    elim (eqb_tells first key) [
      | inl e ↦ rw e.0 (ap Some e.1)
      | inr e ↦
          let behind = rw e.0 at within in
          rw e.0 (key_there keys key (omega (arith, behind)))
    ]

pub key_place : (slots : Slab Packet) (keys : List ℕ) (place key : ℕ) → Hold slots.slots keys
    → slice_get keys place ≡ Some key → number_place keys key ≡ place
key_place slots [] place key h found = absurd (cc)
key_place slots (first ∷ keys) zero key h found =
    let same : first ≡ key = cc in
    elim (eqb_tells first key) [
      | inl e ↦ rw e.0 refl
      | inr e ↦ absurd (e.1 same)
    ]
key_place slots (first ∷ keys) (suc place) key h found =
    elim (eqb_tells first key) [
      | inl e ↦ absurd (lacks_at key first keys place h.1 found e.1)
      | inr e ↦ rw e.0 (ap suc (key_place slots keys place key h.2 found))
    ]

-- a packet that is there is the one that is read
pub some_packet : (slot : Option Packet) → IsSome slot → slot ≡ Some (packet_or_any slot)
some_packet None some = absurd (false≢true some)
some_packet (Some p) some = refl
