-- What a key names: the packet in its slot is the live one of its number; and what is written to
-- the slot is written to that packet.
use Rattle.std.proofs.Common.{◌≡◌, ◌<◌, ℕ, true, List, Option, None, Some, refl, sym, ◌∙◌, ap, subst, map, is_some, inl, inr, arith}
use Rattle.std.specs.Prelude.{option_map, slice_set}
use Rattle.std.proofs.lemmas.Bool.Decides.{eqb_tells}
use Rattle.std.proofs.lemmas.Bool.{cases_lt}
use Rattle.model.specs.declared.world.Packet.{Packet}
use Rattle.model.specs.declared.world.Value.{Value}
use Rattle.model.specs.declared.world.Value.TheVariants.{Blank, Num, Ref, Status as StatusValue}
use Rattle.model.specs.Queues.{is_linked}
use Rattle.model.specs.World.{Shared, packet_in, packet_of, place_of, with_packet}
use Rattle.laws_runs.proofs.Past.LivePackets.{Rises, find, find_above, find_number, find_place}
use Rattle.laws_runs.proofs.Past.Packets.{found_lt, lt_false, lt_true}
use Rattle.laws_slots.specs.Rep.{MeansShared, Ordered, meant_value, named, number_in_slot, packets_in, slotted}
use Rattle.laws_slots.specs.Slots.{SlotShared, packet_at, with_packet_at}
use Rattle.laws_slots.specs.SlotStep.{key_read}
use Rattle.laws_slots.proofs.Outcomes.{SameSlots}
use Rattle.laws_slots.proofs.Packets.{apart_not, find_slotted, found_in, has_key, place_slotted, rises_slotted, set_in, slot_other, slot_same}
use Rattle.laws_slots.proofs.Words.{map_put}

-- what a world of slots has for its packets, and the shared part that it means
pub record Keyed (name : ℕ → ℕ) (s : SlotShared) (r : Shared) : Type 0 where
  pub means : MeansShared name s r
  pub order : Ordered s
  pub rises : Rises 0 r.packets r.issued
  pub names : (k : ℕ) → name k ≡ named s k

-- a packet that a key names: in its slot, and in the list of live packets
pub record Found (s : SlotShared) (r : Shared) (k n : ℕ) : Type 0 where
  pub packet : Packet
  pub at : packet_at s k ≡ Some (slotted packet)
  pub of : packet_of r n ≡ Some packet
  pub number : packet.number ≡ n

module _ (name : ℕ → ℕ) (s : SlotShared) (r : Shared) (keyed : Keyed name s r) where
  found_of : (k : ℕ) (p : Packet) (o : Option Packet) → packet_at s k ≡ Some p
      → find r.packets p.number ≡ o → option_map slotted o ≡ Some p
      → Found s r k p.number
  found_of k p None at there is = cc
  found_of k p (Some q) at there is =
      let same : slotted q ≡ p = cc in
      record {
        packet = q;
        at = at ∙ ap (λ (x : Packet). Some x) (sym same);
        of = find_place r.packets p.number ∙ there;
        number = find_number r.packets p.number q there;
      }

  pub found_used : (k : ℕ) (p : Packet) → packet_at s k ≡ Some p → Found s r k p.number
  found_used k p at =
      let rises : Rises 0 (packets_in s.slots s.order) r.issued =
      rw keyed.means.packets (rises_slotted 0 r.packets r.issued keyed.rises) in
      let linked : is_linked s.order k ≡ true =
      keyed.order.listed k (ap is_some at) in
      let there : find (packets_in s.slots s.order) p.number ≡ Some p =
      found_in s.slots k p at 0 r.issued s.order rises linked in
      found_of k p (find r.packets p.number) at refl
      (sym (find_slotted r.packets p.number)
      ∙ sym (ap (λ (packets : List Packet). find packets p.number) keyed.means.packets) ∙ there)

  -- a key that names a packet that was issued is that of a used slot
  issued_used : (k n : ℕ) (o : Option Packet) → packet_at s k ≡ o
      → number_in_slot s.issued o ≡ n → n < r.issued → Found s r k n
  issued_used k n None at is low =
      let all : s.issued ≡ r.issued = keyed.means.issued in
      let next : s.issued ≡ n = is in
      absurd (omega arith)
  issued_used k n (Some p) at is low =
      subst (λ (m : ℕ). Found s r k m) is (found_used k p at)

  pub found_low : (k n : ℕ) → name k ≡ n → n < r.issued → Found s r k n
  found_low k n is low =
      issued_used k n (packet_at s k) refl (sym (keyed.names k) ∙ is) low

  -- a register that refers to a packet
  refers : (k n : ℕ) → packet_in r (Ref (name k)) ≡ Some n → Found s r k n
  refers k n is =
      elim (cases_lt (name k) r.issued) [
        | inl low ↦
            let same : Some (name k) ≡ Some n = rw (lt_true (name k) r.issued low) at is in
            let one : name k ≡ n = cc in
            found_low k n one (rw (← one) low)
        | inr high ↦
            let no : None ≡ Some n = rw (lt_false (name k) r.issued high) at is in cc
      ]

  pub found_read : (v : Value) (n : ℕ) → packet_in r (meant_value name v) ≡ Some n
      → Found s r (key_read v) n
  found_read Blank n is = cc
  found_read (Num m) n is = cc
  found_read (Ref k) n is = refers k n is
  found_read (StatusValue status) n is = cc

  -- it names that packet, and no other key does
  pub found_name : (k n : ℕ) → Found s r k n → name k ≡ n
  found_name k n found =
      keyed.names k ∙ ap (λ (o : Option Packet). number_in_slot s.issued o) found.at ∙ found.number

  pub ordered : (k n : ℕ) → Found s r k n → is_linked s.order k ≡ true
  ordered k n found = keyed.order.listed k (ap is_some found.at)

  pub found_alone : (j k n : ℕ) → Found s r k n → name j ≡ n → j ≡ k
  found_alone j k n found is =
      elim (eqb_tells j k) [
        | inl same ↦ same.1
        | inr apart ↦
            let low : n < r.issued =
            found_lt r n found.packet keyed.rises
            (sym (find_place r.packets n) ∙ found.of) in
            let other : Found s r j n = found_low j n is low in
            let rises : Rises 0 (packets_in s.slots s.order) r.issued =
            rw keyed.means.packets (rises_slotted 0 r.packets r.issued keyed.rises) in
            absurd (apart_not s.slots j k (slotted other.packet) (slotted found.packet) other.at
            found.at (other.number ∙ sym found.number) 0 r.issued s.order rises
            (ordered j n other) (ordered k n found) apart.1)
      ]

  -- a key of a free slot names no packet, and each live packet has a key
  pub free_none : (k : ℕ) → packet_at s k ≡ None → packet_of r (name k) ≡ None
  free_none k free =
      let next : name k ≡ r.issued =
      keyed.names k ∙ ap (λ (o : Option Packet). number_in_slot s.issued o) free
      ∙ keyed.means.issued in
      find_place r.packets (name k)
      ∙ find_above 0 r.packets r.issued (name k) keyed.rises (omega arith)

  pub live_key : (n : ℕ) (q : Packet) → packet_of r n ≡ Some q → (k : ℕ) × Found s r k n
  live_key n q live =
      let there : find r.packets n ≡ Some q = sym (find_place r.packets n) ∙ live in
      let slot : find (packets_in s.slots s.order) n ≡ Some (slotted q) =
      ap (λ (packets : List Packet). find packets n) keyed.means.packets
      ∙ find_slotted r.packets n ∙ ap (λ (o : Option Packet). option_map slotted o) there in
      let key : (k : ℕ) × (packet_at s k ≡ Some (slotted q)) =
      has_key s.slots s.order n (slotted q) slot in (
        key.0,
        record { packet = q; at = key.1; of = live; number = find_number r.packets n q there },
      )

  -- a packet is written to its slot
  module _ (k n : ℕ) (found : Found s r k n) (q : Packet) (same : q.number ≡ n) where
    abbrev pub after : SlotShared
    after = with_packet_at s k (slotted q)

    pub written : MeansShared name after (with_packet r n q)
    written =
        let p : Packet = slotted found.packet in
        let rises : Rises 0 (packets_in s.slots s.order) r.issued =
        rw keyed.means.packets (rises_slotted 0 r.packets r.issued keyed.rises) in
        let linked : is_linked s.order k ≡ true = keyed.order.listed k (ap is_some found.at) in
        let there : packets_in after.slots s.order
        ≡ slice_set (packets_in s.slots s.order) (place_of (packets_in s.slots s.order) p.number)
        (slotted q) = set_in s.slots k p found.at (slotted q) 0 r.issued s.order rises linked in
        record {
          packets = there
              ∙ ap (λ (packets : List Packet). slice_set packets (place_of packets p.number)
              (slotted q)) keyed.means.packets
              ∙ ap (λ (i : ℕ). slice_set (map slotted r.packets) i (slotted q))
              (place_slotted r.packets p.number
              ∙ ap (λ (m : ℕ). place_of r.packets m) found.number)
              ∙ sym (map_put slotted r.packets (place_of r.packets n) q);
          issued = keyed.means.issued;
          locks = keyed.means.locks;
          cells = keyed.means.cells;
          queues = keyed.means.queues;
          starts = keyed.means.starts;
          dpcs = keyed.means.dpcs;
        }

    named_after : (j : ℕ) → named after j ≡ named s j
    named_after j =
        elim (eqb_tells j k) [
          | inl is ↦ rw (
            is.1,
            slot_same s.slots k (slotted found.packet) (Some (slotted q)) found.at,
            found.at,
          ) (same ∙ sym found.number)
          | inr apart ↦ rw (slot_other s.slots k j (Some (slotted q)) apart.1) refl
        ]

    used_after : (j : ℕ) → is_some (packet_at after j) ≡ is_some (packet_at s j)
    used_after j =
        elim (eqb_tells j k) [
          | inl is ↦ rw (
            is.1,
            slot_same s.slots k (slotted found.packet) (Some (slotted q)) found.at,
            found.at,
          ) refl
          | inr apart ↦ rw (slot_other s.slots k j (Some (slotted q)) apart.1) refl
        ]

    pub written_same : SameSlots s after
    written_same = record { name = named_after; use_of = used_after; order = refl; issued = refl }
