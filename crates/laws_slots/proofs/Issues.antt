-- A packet is put into a free slot, whose key is the last in the order of issue then.
use Rattle.std.proofs.Common.{◌≡◌, ◌≢◌, ◌<◌, ℕ, suc, true, false, List, [], ◌∷◌, ◌++◌, length, Option, None, Some, refl, sym, ◌∙◌, ap, is_some, inl, inr, nat_lt}
use Rattle.std.specs.Prelude.{◌&&◌}
use Rattle.std.proofs.lemmas.Bool.Decides.{eqb_tells}
use Rattle.std.proofs.lemmas.Bool.{cases_Bool, eq-eqb}
use Rattle.std.proofs.lemmas.List.{get_or-set_same, length-map}
use Rattle.model.specs.declared.limits.TheConstants.{MAX_ISSUED, MAX_LIVE_PACKETS}
use Rattle.model.specs.declared.world.Packet.{Packet}
use Rattle.model.specs.Events.{can_issue}
use Rattle.model.specs.Queues.{is_linked}
use Rattle.model.specs.World.{Shared}
use Rattle.laws_slots.specs.Rep.{MeansShared, Ordered, packets_in, slotted, then_packet}
use Rattle.laws_slots.specs.Slots.{SlotShared, packet_at, slot_at}
use Rattle.laws_slots.specs.SlotEvents.{can_issue_slot, with_new_slot}
use Rattle.laws_slots.proofs.Packets.{apart_same, slot_other}

-- keys with one more
linked_more : (keys : List ℕ) (k j : ℕ) → j ≢ k
    → is_linked (keys ++ k ∷ []) j ≡ is_linked keys j
linked_more [] k j apart =
    elim (eqb_tells k j) [
      | inl same ↦ absurd (apart (sym same.1))
      | inr other ↦ rw other.0 refl
    ]
linked_more (i ∷ keys) k j apart =
    elim (eqb_tells i j) [
      | inl same ↦ rw same.0 refl
      | inr other ↦ rw other.0 (linked_more keys k j apart)
    ]

linked_last : (keys : List ℕ) (k : ℕ) → is_linked (keys ++ k ∷ []) k ≡ true
linked_last [] k = rw (eq-eqb k k refl) refl
linked_last (i ∷ keys) k =
    elim (eqb_tells i k) [
      | inl same ↦ rw same.0 refl
      | inr other ↦ rw other.0 (linked_last keys k)
    ]

-- the packets of keys, and how many there are
then_more : (o : Option Packet) (xs ys : List Packet)
    → then_packet o (xs ++ ys) ≡ then_packet o xs ++ ys
then_more None xs ys = refl
then_more (Some p) xs ys = refl

packets_more : (slots : List (Option Packet)) (keys others : List ℕ)
    → packets_in slots (keys ++ others) ≡ packets_in slots keys ++ packets_in slots others
packets_more slots [] others = refl
packets_more slots (k ∷ keys) others =
    ap (then_packet (slot_at slots k)) (packets_more slots keys others)
    ∙ then_more (slot_at slots k) (packets_in slots keys) (packets_in slots others)

then_long : (o : Option Packet) (packets : List Packet) → is_some o ≡ true
    → length (then_packet o packets) ≡ suc (length packets)
then_long None packets is = cc
then_long (Some p) packets is = refl

linked_first : (k : ℕ) (keys : List ℕ) → is_linked (k ∷ keys) k ≡ true
linked_first k keys = rw (eq-eqb k k refl) refl

linked_next : (k j : ℕ) (keys : List ℕ) → is_linked keys j ≡ true → is_linked (k ∷ keys) j ≡ true
linked_next k j keys is =
    elim (eqb_tells k j) [ inl same ↦ rw same.0 refl | inr other ↦ rw (other.0, is) refl ]

packets_long : (slots : List (Option Packet)) (keys : List ℕ)
    → ((k : ℕ) → is_linked keys k ≡ true → is_some (slot_at slots k) ≡ true)
    → length (packets_in slots keys) ≡ length keys
packets_long slots [] used = refl
packets_long slots (k ∷ keys) used =
    then_long (slot_at slots k) (packets_in slots keys) (used k (linked_first k keys))
    ∙ ap suc (packets_long slots keys (λ j is. used j (linked_next k j keys is)))

ordered_long : (s : SlotShared) → Ordered s
    → length (packets_in s.slots s.order) ≡ length s.order
ordered_long s order = packets_long s.slots s.order order.used

-- as many packets live as keys are in the order
pub can_same : (name : ℕ → ℕ) (s : SlotShared) (r : Shared) → MeansShared name s r → Ordered s
    → can_issue_slot s ≡ can_issue r
can_same name s r means order =
    let long : length s.order ≡ length r.packets =
    sym (ordered_long s order) ∙ ap length means.packets ∙ length-map r.packets slotted in
    ap (λ (n : ℕ). nat_lt n MAX_LIVE_PACKETS && nat_lt s.issued MAX_ISSUED) long
    ∙ ap (λ (n : ℕ). nat_lt (length r.packets) MAX_LIVE_PACKETS && nat_lt n MAX_ISSUED)
    means.issued

-- a free slot gets a packet
module _ (s : SlotShared) (order : Ordered s) (key : ℕ) (free : packet_at s key ≡ None)
    (room : key < length s.slots) (p : Packet) where
  abbrev pub after : SlotShared
  after = with_new_slot s key p

  pub put : packet_at after key ≡ Some p
  put = get_or-set_same s.slots key (Some p) None room

  pub others : (j : ℕ) → j ≢ key → packet_at after j ≡ packet_at s j
  others j apart = slot_other s.slots key j (Some p) apart

  unlisted : is_linked s.order key ≡ false
  unlisted =
      elim (cases_Bool (is_linked s.order key)) [
        | inl linked ↦
            let no : true ≡ false = sym (order.used key linked) ∙ ap is_some free in cc
        | inr none ↦ none
      ]

  pub packets_after : packets_in after.slots after.order
      ≡ packets_in s.slots s.order ++ p ∷ []
  packets_after =
      packets_more after.slots s.order (key ∷ [])
      ∙ ap (λ (packets : List Packet). packets ++ packets_in after.slots (key ∷ []))
      (apart_same s.slots key (Some p) s.order unlisted)
      ∙ ap (λ (o : Option Packet). packets_in s.slots s.order ++ then_packet o []) put

  used : (j : ℕ) → is_linked after.order j ≡ true → is_some (packet_at after j) ≡ true
  used j linked =
      elim (eqb_tells j key) [
        | inl same ↦
            ap (λ (i : ℕ). is_some (packet_at after i)) same.1 ∙ ap is_some put
        | inr apart ↦
            ap is_some (others j apart.1)
            ∙ order.used j (sym (linked_more s.order key j apart.1) ∙ linked)
      ]

  listed : (j : ℕ) → is_some (packet_at after j) ≡ true → is_linked after.order j ≡ true
  listed j is =
      elim (eqb_tells j key) [
        | inl same ↦
            ap (λ (i : ℕ). is_linked after.order i) same.1 ∙ linked_last s.order key
        | inr apart ↦
            linked_more s.order key j apart.1
            ∙ order.listed j (ap is_some (sym (others j apart.1)) ∙ is)
      ]

  pub ordered_after : Ordered after
  ordered_after = record { used = used; listed = listed }
