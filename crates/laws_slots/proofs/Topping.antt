-- A packet tops out: its slot becomes free, and its key is out of the order of issue.
use Rattle.std.proofs.Common.{◌≡◌, ◌≢◌, ℕ, Bool, true, false, List, [], ◌∷◌, Option, None, Some, refl, sym, ◌∙◌, ap, map, is_some, inl, inr, nat_eq, nat_lt}
use Rattle.std.specs.Prelude.{remove, if◌then◌else◌}
use Rattle.std.proofs.lemmas.Bool.Decides.{eqb_tells}
use Rattle.std.proofs.lemmas.Bool.{eq-eqb}
use Rattle.model.specs.declared.event.Reply.TheVariants.{Topped}
use Rattle.model.specs.declared.world.Completion.{Completion}
use Rattle.model.specs.declared.world.Packet.{Packet}
use Rattle.model.specs.Effect.{walk_out, walk_packet}
use Rattle.model.specs.Queues.{is_linked, unlinked}
use Rattle.model.specs.Set.{Set}
use Rattle.model.specs.World.{Shared, completion_of, current_location, left_location, packet_of, place_of, without_packet}
use Rattle.laws_runs.proofs.Past.LivePackets.{Rises, find, find_place, find_remove}
use Rattle.laws_slots.specs.Rep.{MeansShared, named, number_in_slot, packets_in, slotted, then_packet}
use Rattle.laws_slots.specs.Slots.{SlotShared, packet_at, slot_at, without_packet_at}
use Rattle.laws_slots.specs.SlotStep.{walk_out_step, walk_step}
use Rattle.laws_slots.proofs.Keys.{Found, Keyed, found_name, ordered}
use Rattle.laws_slots.proofs.Left.{Fewer, Left, left_of}
use Rattle.laws_slots.proofs.Managing.{walks_found}
use Rattle.laws_slots.proofs.Packets.{alone, linked_not, map_remove, place_slotted, removed_in, rises_slotted, slot_other, slot_same, tail_rises}

-- keys without one
unlinked_other : (keys : List ℕ) (k j : ℕ) → j ≢ k
    → is_linked (unlinked keys k) j ≡ is_linked keys j
unlinked_other [] k j apart = refl
unlinked_other (i ∷ keys) k j apart =
    elim (eqb_tells i k) [
      | inl same ↦
          rw same.0 (sym (linked_not keys i j (λ e. apart (sym e ∙ same.1))))
      | inr other ↦
          elim (eqb_tells i j) [
            | inl its ↦ rw (other.0, its.0) refl
            | inr isnt ↦ rw (other.0, isnt.0) (unlinked_other keys k j apart)
          ]
    ]

unlinked_gone : (slots : List (Option Packet)) (k : ℕ) (p : Packet) → slot_at slots k ≡ Some p
    → (low high : ℕ) (keys : List ℕ) → Rises low (packets_in slots keys) high
    → is_linked (unlinked keys k) k ≡ false
unlinked_gone slots k p at low high [] rises = refl
unlinked_gone slots k p at low high (j ∷ keys) rises =
    elim (eqb_tells j k) [
      | inl same ↦
          let above : Rises low (then_packet (Some p) (packets_in slots keys)) high =
          rw (same.1, at) at rises in
          rw same.0 (alone slots k p at high keys above.1)
      | inr other ↦
          let less : (less : ℕ) × Rises less (packets_in slots keys) high =
          tail_rises slots k p at p low high (slot_at slots j) (packets_in slots keys) rises in
          rw other.0 (linked_not (unlinked keys k) j k other.1
          ∙ unlinked_gone slots k p at less.0 high keys less.1)
    ]

module _ (name : ℕ → ℕ) (s : SlotShared) (r : Shared) (keyed : Keyed name s r) (k n : ℕ)
    (found : Found s r k n) where
  abbrev after : SlotShared
  after = without_packet_at s k

  abbrev other : Shared
  other = without_packet r n

  abbrev its : Packet
  its = slotted found.packet

  rises : Rises 0 (packets_in s.slots s.order) r.issued
  rises = rw keyed.means.packets (rises_slotted 0 r.packets r.issued keyed.rises)

  free : packet_at after k ≡ None
  free = slot_same s.slots k its None found.at

  others : (j : ℕ) → j ≢ k → packet_at after j ≡ packet_at s j
  others j apart = slot_other s.slots k j None apart

  removed : MeansShared name after other
  removed =
      record {
        packets = removed_in s.slots k its found.at 0 r.issued s.order rises
            (ordered name s r keyed k n found)
            ∙ ap (λ (packets : List Packet). remove packets (place_of packets its.number))
            keyed.means.packets
            ∙ ap (remove (map slotted r.packets))
            (place_slotted r.packets its.number
            ∙ ap (λ (m : ℕ). place_of r.packets m) found.number)
            ∙ sym (map_remove slotted r.packets (place_of r.packets n));
        issued = keyed.means.issued;
        locks = keyed.means.locks;
        cells = keyed.means.cells;
        queues = keyed.means.queues;
        starts = keyed.means.starts;
        dpcs = keyed.means.dpcs;
      }

  -- nothing finds it any more
  gone : packet_of other n ≡ None
  gone =
      let finds : find other.packets n ≡ (if nat_eq n n then None else find r.packets n) =
      find_remove 0 r.packets r.issued n keyed.rises n in
      find_place other.packets n ∙ rw (eq-eqb n n refl) at finds

  live : (j : ℕ) → is_some (packet_of other (name j)) ≡ true → named after j ≡ name j
  live j is =
      elim (eqb_tells j k) [
        | inl same ↦
            let number : name j ≡ n = ap name same.1 ∙ found_name name s r keyed k n found in
            let no : false ≡ true =
            ap is_some (sym (ap (λ (m : ℕ). packet_of other m) number ∙ gone)) ∙ is in cc
        | inr apart ↦
            ap (λ (o : Option Packet). number_in_slot s.issued o) (others j apart.1)
            ∙ sym (keyed.names j)
      ]

  used : (j : ℕ) → is_linked after.order j ≡ true → is_some (packet_at after j) ≡ true
  used j linked =
      elim (eqb_tells j k) [
        | inl same ↦
            let no : true ≡ false =
            sym linked ∙ ap (λ (i : ℕ). is_linked after.order i) same.1
            ∙ unlinked_gone s.slots k its found.at 0 r.issued s.order rises in cc
        | inr apart ↦
            ap is_some (others j apart.1)
            ∙ keyed.order.used j (sym (unlinked_other s.order k j apart.1) ∙ linked)
      ]

  listed : (j : ℕ) → is_some (packet_at after j) ≡ true → is_linked after.order j ≡ true
  listed j is =
      elim (eqb_tells j k) [
        | inl same ↦
            let no : false ≡ true =
            ap is_some (sym (ap (λ (i : ℕ). packet_at after i) same.1 ∙ free)) ∙ is in cc
        | inr apart ↦
            unlinked_other s.order k j apart.1
            ∙ keyed.order.listed j (ap is_some (sym (others j apart.1)) ∙ is)
      ]

  fewer : Fewer s after
  fewer =
      record {
        was = λ j q at. elim (eqb_tells j k) [
          | inl same ↦
              let no : None ≡ Some q =
              sym (ap (λ (i : ℕ). packet_at after i) same.1 ∙ free) ∙ at in cc
          | inr apart ↦ (q, sym (others j apart.1) ∙ at, refl)
        ];
        issued = refl;
      }

  pub tops_out : (p : Packet) → p.number ≡ n
      → Left name s (walk_out_step s k (slotted p)) (walk_out r n p)
  tops_out p is =
      record {
        shared = removed;
        frames = refl;
        reply = ap (λ (m : ℕ). Topped m p.status p.info) is;
        taken = refl;
        told = refl;
        live = live;
        order = record { used = used; listed = listed };
        fewer = fewer;
        cancels = tt;
      }

  -- whatever the walk does
  walks_last : (set : Set) (deep : Bool)
      → completion_of (current_location found.packet) ≡ None
      → nat_lt 1 (left_location found.packet).depth ≡ deep
      → Left name s (walk_step set s k (packet_at s k)) (walk_packet set r n (packet_of r n))
  walks_last set true none is =
      left_of name s r keyed _ _ (walks_found name s r keyed set k n found (λ no. is))
  walks_last set false none is =
      rw (found.at, found.of, none, is) (tops_out (left_location found.packet) found.number)

  pub walks : (set : Set) (o : Option Completion)
      → completion_of (current_location found.packet) ≡ o
      → Left name s (walk_step set s k (packet_at s k)) (walk_packet set r n (packet_of r n))
  walks set (Some c) is =
      left_of name s r keyed _ _ (walks_found name s r keyed set k n found
      (λ none. let no : None ≡ Some c = sym none ∙ is in cc))
  walks set None is =
      walks_last set (nat_lt 1 (left_location found.packet).depth) is refl
