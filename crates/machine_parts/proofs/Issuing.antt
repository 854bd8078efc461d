-- The packet table's account of its slots, and that of what threads share.
use Rattle.std.proofs.Common.{◌≡◌, ℕ, suc, true, List, [], ◌∷◌, length, Option, None, Some, ap, refl, inl, inr}
use Rattle.std.specs.Prelude.{if◌then◌else◌, is_some, slice_get}
use Rattle.std.proofs.lemmas.Bool.{false≢true}
use Rattle.std.proofs.lemmas.Bool.Decides.{eqb_tells}
use Rattle.model.specs.declared.world.Packet.{Packet}
use Rattle.model.specs.World.{place_of}
use Rattle.iomgr.specs.Slots.{Hold, packets_in as packets_under}
use Rattle.laws_slots.specs.Rep.{packets_in, then_packet}
use Rattle.laws_slots.specs.SlotEvents.{has_number, key_of}
use Rattle.laws_slots.specs.Slots.{slot_at}

-- the packets in the slots of some keys
first_same : (slots : List (Option Packet)) (k : ℕ) (keys : List ℕ) (o : Option Packet)
    → slot_at slots k ≡ o → packets_under slots keys ≡ packets_in slots keys
    → packets_under slots (k ∷ keys) ≡ then_packet o (packets_in slots keys)
first_same slots k keys None is others = rw is others
first_same slots k keys (Some p) is others =
    rw is (ap (λ (ps : List Packet). p ∷ ps) others)

pub packets_same : (slots : List (Option Packet)) (keys : List ℕ)
    → packets_under slots keys ≡ packets_in slots keys
packets_same slots [] = refl
packets_same slots (k ∷ keys) =
    first_same slots k keys (slot_at slots k) refl (packets_same slots keys)

-- there are as many as keys
one_more : (o : Option Packet) (packets : List Packet) (keys : List ℕ) → is_some o ≡ true
    → length packets ≡ length keys → length (then_packet o packets) ≡ suc (length keys)
one_more None packets keys is same = absurd (false≢true is)
one_more (Some p) packets keys is same = ap suc same

pub packets_count : (slots : List (Option Packet)) (keys : List ℕ) → Hold slots keys
    → length (packets_in slots keys) ≡ length keys
packets_count slots [] h = refl
packets_count slots (k ∷ keys) h =
    one_more (slot_at slots k) (packets_in slots keys) keys h.0 (packets_count slots keys h.2)

-- the key of a number stands where its packet does
first_place : (slots : List (Option Packet)) (k : ℕ) (keys : List ℕ) (n : ℕ) (o : Option Packet)
    → is_some o ≡ true
    → slice_get keys (place_of (packets_in slots keys) n) ≡ key_of slots keys n
    → slice_get (k ∷ keys) (place_of (then_packet o (packets_in slots keys)) n)
    ≡ (if has_number o n then Some k else key_of slots keys n)
first_place slots k keys n None some others = absurd (false≢true some)
first_place slots k keys n (Some p) some others =
    elim (eqb_tells p.number n) [
      | inl e ↦ rw e.0 refl
      | inr e ↦ rw e.0 others
    ]

pub key_place : (slots : List (Option Packet)) (keys : List ℕ) (n : ℕ) → Hold slots keys
    → slice_get keys (place_of (packets_in slots keys) n) ≡ key_of slots keys n
key_place slots [] n h = refl
key_place slots (k ∷ keys) n h =
    first_place slots k keys n (slot_at slots k) h.0 (key_place slots keys n h.2)
