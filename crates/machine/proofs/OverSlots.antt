-- The slots of a world of words: each live packet stands in one, and no other has one.
use Rattle.std.proofs.Common.{◌≡◌, ◌<◌, ℕ, zero, suc, List, [], ◌∷◌, Option, None, Some, is_some, map, refl, sym, ◌∙◌, ap, subst, arith}
use Rattle.std.specs.Prelude.{option_map, slice_get, slice_index_or}
use Rattle.model.specs.declared.world.Packet.{Packet}
use Rattle.model.specs.Set.{Set}
use Rattle.model.specs.Shown.{Shown, ShownPacket, shown_packet}
use Rattle.model.specs.World.{Shared, place_of}
use Rattle.machine.specs.Slots.{AreSlots, HasPacket, IsLive, number_at}
use Rattle.laws_runs.proofs.Past.LivePackets.{find_place}
use Rattle.laws_runs.proofs.Past.Packets.{found_lt}
use Rattle.laws_slots.proofs.Keys.{Found, Keyed, found_alone, found_name, found_used}
use Rattle.laws_slots.proofs.Words.{map_get}
use Rattle.laws_slots.specs.Rep.{named, number_in_slot, packets_in, then_packet}
use Rattle.laws_slots.specs.Slots.{packet_at, slot_at}
use Rattle.laws_slots.specs.ShownWords.{shown_slot, shown_words}
use Rattle.laws_slots.specs.Words.{WordWorld}

-- what is shown of a slot is the number of its packet
pub slot_shown : (slots : List (Option Packet)) (k : ℕ)
    → slice_index_or (map shown_slot slots) k None ≡ shown_slot (slot_at slots k)
slot_shown [] k = refl
slot_shown (o ∷ slots) zero = refl
slot_shown (o ∷ slots) (suc k) = slot_shown slots k

-- a slot that names a packet which was issued has that one
number_of : (issued n : ℕ) (o : Option Packet) → number_in_slot issued o ≡ n → n < issued
    → shown_slot o ≡ Some n
number_of issued n None is low = absurd (omega (arith, is, low))
number_of issued n (Some p) is low = ap (λ (m : ℕ). Some m) is

-- what stands in the order of issue stands in a slot
record InSlot (slots : List (Option Packet)) (p : ShownPacket) : Type 0 where
  pub slot : ℕ
  pub number : shown_slot (slot_at slots slot) ≡ Some p.number

abbrev Listed : List (Option Packet) → List Packet → Type 0
Listed slots packets =
    (i : ℕ) (p : ShownPacket) → slice_get (map shown_packet packets) i ≡ Some p → InSlot slots p

listed_on : (slots : List (Option Packet)) (k : ℕ) (o : Option Packet) (packets : List Packet)
    → slot_at slots k ≡ o → Listed slots packets → Listed slots (then_packet o packets)
listed_on slots k None packets at later i p h = later i p h
listed_on slots k (Some q) packets at later zero p h =
    let same : shown_packet q ≡ p = cc in
    record {
      slot = k;
      number = ap shown_slot at ∙ ap (λ (x : ShownPacket). Some x.number) same;
    }
listed_on slots k (Some q) packets at later (suc i) p h = later i p h

listed_in : (slots : List (Option Packet)) (order : List ℕ)
    → Listed slots (packets_in slots order)
listed_in slots [] i p h = cc
listed_in slots (k ∷ order) i p h =
    listed_on slots k (slot_at slots k) (packets_in slots order) refl (listed_in slots order) i p h

module _ (set : Set) (w : WordWorld) where
  abbrev m : Shown
  m = shown_words set w

  pub number_is : (slot : ℕ) → number_at m slot ≡ shown_slot (packet_at w.shared slot)
  number_is slot = slot_shown w.shared.slots slot

  -- a key that names a packet which was issued is the slot of that packet
  pub named_here : (slot n : ℕ) → named w.shared slot ≡ n → n < w.shared.issued
      → number_at m slot ≡ Some n
  named_here slot n is low =
      number_is slot ∙ number_of w.shared.issued n (packet_at w.shared slot) is low

  module _ (r : Shared) (keyed : Keyed (named w.shared) w.shared r) where
    found_on : (slot n : ℕ) (o : Option Packet) → packet_at w.shared slot ≡ o
        → shown_slot o ≡ Some n → Found w.shared r slot n
    found_on slot n None at h = cc
    found_on slot n (Some p) at h =
        let number : p.number ≡ n = cc in
        subst (λ (i : ℕ). Found w.shared r slot i) number
        (found_used (named w.shared) w.shared r keyed slot p at)

    found_here : (slot n : ℕ) → number_at m slot ≡ Some n → Found w.shared r slot n
    found_here slot n h =
        found_on slot n (packet_at w.shared slot) refl (sym (number_is slot) ∙ h)

    pub live_here : (slot n : ℕ) → number_at m slot ≡ Some n → IsLive r n
    live_here slot n h =
        let found : Found w.shared r slot n = found_here slot n h in (
          found_lt r n found.packet keyed.rises (sym (find_place r.packets n) ∙ found.of),
          ap is_some found.of,
        )

    has_packet : m.packets ≡ map shown_packet r.packets → (slot n : ℕ)
        → number_at m slot ≡ Some n → HasPacket m n
    has_packet packets slot n h =
        let found : Found w.shared r slot n = found_here slot n h in
        record {
          place = place_of r.packets n;
          packet = shown_packet found.packet;
          listed =
              ap (λ (xs : List ShownPacket). slice_get xs (place_of r.packets n)) packets
              ∙ map_get shown_packet r.packets (place_of r.packets n)
              ∙ ap (option_map shown_packet) found.of;
          number = found.number;
        }

    pub are_slots : m.packets ≡ map shown_packet r.packets → AreSlots m
    are_slots packets =
        record {
          stands = λ place p h.
              let there : InSlot w.shared.slots p =
              listed_in w.shared.slots w.shared.order place p h in
              (there.slot, number_is there.slot ∙ there.number);
          alone = λ j k n first second.
              found_alone (named w.shared) w.shared r keyed j k n (found_here k n second)
              (found_name (named w.shared) w.shared r keyed j n (found_here j n first));
          live = has_packet packets;
        }
