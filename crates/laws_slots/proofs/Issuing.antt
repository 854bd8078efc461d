-- A request on a world of slots, and on what it means by what keys name after it: the key of the
-- new packet names it, and each of a free slot the number after that.
use Rattle.std.proofs.Common.{◌≡◌, ◌<◌, ◌≤◌, ◌+◌, ℕ, Bool, true, false, List, [], ◌∷◌, ◌++◌, length, Option, None, Some, refl, sym, ◌∙◌, ap, subst, map, is_some, inl, inr, arith, nat_eq}
use Rattle.std.specs.Prelude.{◌&&◌, option_map, slice_get, slice_set, if◌then◌else◌}
use Rattle.std.proofs.lemmas.Bool.Decides.{eqb_tells}
use Rattle.std.proofs.lemmas.Bool.{eq-eqb}
use Rattle.std.proofs.lemmas.List.{length-map, map-append}
use Rattle.model.specs.declared.event.Reply.{Reply}
use Rattle.model.specs.declared.event.Reply.TheVariants.{Refused, Started}
use Rattle.model.specs.declared.set.Device.{Device}
use Rattle.model.specs.declared.status.Major.{Major}
use Rattle.model.specs.declared.world.Irql.TheVariants.{Passive}
use Rattle.model.specs.declared.world.Packet.{Packet}
use Rattle.model.specs.declared.world.Value.TheVariants.{Ref}
use Rattle.model.specs.Events.{can_issue, is_idle, issue_on, issued, rooted, unchanged, with_new_packet}
use Rattle.model.specs.Set.{Set, serving}
use Rattle.model.specs.World.{Shared, World, entered, new_packet, packet_of}
use Rattle.laws_runs.proofs.Past.LivePackets.{Rises, find_above, find_place}
use Rattle.laws_slots.specs.Rep.{CancelStands, EachThread, MeansShared, Ordered, meant_frame, meant_thread, named, number_in_slot, slotted}
use Rattle.laws_slots.specs.Slots.{SlotCancel, SlotFrame, SlotRoutine, SlotShared, SlotThread, SlotWalk, SlotWorld, packet_at}
use Rattle.laws_slots.specs.SlotEvents.{can_issue_slot, has_none, issue_slot, issued_slot, rooted_slot, with_new_slot}
use Rattle.laws_slots.specs.SlotStep.{stays}
use Rattle.laws_slots.proofs.Issues.{can_same, ordered_after, others, packets_after, put}
use Rattle.laws_slots.proofs.Stacks.{MeansChange, threads_map, threads_put}
use Rattle.laws_slots.proofs.Words.{map_put}

-- what keys name after a request
abbrev pub new_name : SlotShared → ℕ → ℕ → ℕ
new_name s key j =
    if nat_eq j key then s.issued else number_in_slot (s.issued + 1) (packet_at s j)

module _ (s : SlotShared) (r : Shared) (rises : Rises 0 r.packets r.issued)
    (same : s.issued ≡ r.issued) (key : ℕ) (free : packet_at s key ≡ None) where
  none_above : (n : ℕ) → r.issued ≤ n → is_some (packet_of r n) ≡ true → ⊥
  none_above n high is =
      let none : packet_of r n ≡ None =
      find_place r.packets n ∙ find_above 0 r.packets r.issued n rises high in
      let no : false ≡ true = sym (ap is_some none) ∙ is in
      cc

  -- a key that names a live packet before the request or after it names it all along
  was_on : (j : ℕ) (o : Option Packet) → packet_at s j ≡ o
      → is_some (packet_of r (number_in_slot s.issued o)) ≡ true
      → new_name s key j ≡ number_in_slot s.issued o
  was_on j None at is = absurd (none_above s.issued (omega arith) is)
  was_on j (Some p) at is =
      elim (eqb_tells j key) [
        | inl its ↦
            let no : None ≡ Some p =
            sym free ∙ sym (ap (λ (i : ℕ). packet_at s i) its.1) ∙ at in cc
        | inr apart ↦ rw (apart.0, at) refl
      ]

  pub name_was : (j : ℕ) → is_some (packet_of r (named s j)) ≡ true
      → new_name s key j ≡ named s j
  name_was j is = was_on j (packet_at s j) refl is

  still_on : (j : ℕ) (o : Option Packet) (own : Bool) → packet_at s j ≡ o → nat_eq j key ≡ own
      → is_some (packet_of r (if own then s.issued else number_in_slot (s.issued + 1) o)) ≡ true
      → number_in_slot s.issued o
      ≡ (if own then s.issued else number_in_slot (s.issued + 1) o)
  still_on j o true at its is = absurd (none_above s.issued (omega arith) is)
  still_on j None false at its is = absurd (none_above (s.issued + 1) (omega arith) is)
  still_on j (Some p) false at its is = refl

  pub name_still : (j : ℕ) → is_some (packet_of r (new_name s key j)) ≡ true
      → named s j ≡ new_name s key j
  name_still j is = still_on j (packet_at s j) (nat_eq j key) refl refl is

module _ (set : Set) (v : SlotWorld) (r : Shared) (key : ℕ)
    (means : MeansShared (new_name v.shared key) v.shared r) (order : Ordered v.shared)
    (cancels : EachThread (CancelStands v.shared) v.threads)
    (rises : Rises 0 r.packets r.issued) where
  abbrev s : SlotShared
  s = v.shared

  abbrev name : ℕ → ℕ
  name = new_name s key

  abbrev mw : World
  mw = record { threads = map (meant_thread name) v.threads; shared = r }

  module _ (free : packet_at s key ≡ None) (room : key < length s.slots) where
    refuses : (reply : Reply) → MeansChange name (stays v reply) (unchanged mw reply)
    refuses reply =
        record {
          threads = refl;
          shared = means;
          reply = refl;
          live = name_still s r rises means.issued key free;
          order = order;
          cancels = cancels;
        }

    module _ (t d : ℕ) (x : SlotThread) (device : Device) (major : Major) (argument : ℕ) where
      abbrev p : Packet
      p = new_packet s.issued d major argument device.stack

      abbrev after : SlotShared
      after = with_new_slot s key p

      abbrev other : Shared
      other = with_new_packet r d device major argument

      name_now : (j : ℕ) → named after j ≡ name j
      name_now j =
          elim (eqb_tells j key) [
            | inl its ↦
                rw its.0
                (ap (λ (i : ℕ). named after i) its.1
                ∙ ap (λ (o : Option Packet). number_in_slot (s.issued + 1) o)
                (put s order key free room p))
            | inr apart ↦
                rw apart.0
                (ap (λ (o : Option Packet). number_in_slot (s.issued + 1) o)
                (others s order key free room p j apart.1))
          ]

      cancel_now : (f : SlotFrame) → CancelStands s f → CancelStands after f
      cancel_now (SlotRoutine a) h = tt
      cancel_now (SlotWalk k) h = tt
      cancel_now (SlotCancel k n step) h = (
        (let low : n < s.issued = h.0 in omega arith),
        λ j q at number. elim (eqb_tells j key) [
          | inl its ↦
              let new : Some p ≡ Some q =
              sym (put s order key free room p)
              ∙ sym (ap (λ (i : ℕ). packet_at after i) its.1) ∙ at in
              let one : p ≡ q = cc in
              let its_number : s.issued ≡ q.number = ap (λ (u : Packet). u.number) one in
              let low : n < s.issued = h.0 in
              absurd (omega arith)
          | inr apart ↦
              h.1 j q (sym (others s order key free room p j apart.1) ∙ at) number
        ],
      )

      means_now : MeansShared name after other
      means_now =
          record {
            packets = packets_after s order key free room p
                ∙ ap (λ (packets : List Packet). packets ++ p ∷ []) means.packets
                ∙ ap (λ (n : ℕ). map slotted r.packets
                ++ new_packet n d major argument device.stack ∷ []) means.issued
                ∙ sym (map-append slotted r.packets
                (new_packet r.issued d major argument device.stack ∷ []));
            issued = ap (λ (n : ℕ). n + 1) means.issued;
            locks = means.locks;
            cells = means.cells;
            queues = means.queues;
            starts = means.starts;
            dpcs = means.dpcs;
          }

      key_named : name key ≡ r.issued
      key_named = rw (eq-eqb key key refl) means.issued

      issues_one : MeansChange name (issued_slot set v key t d device major argument)
          (issued set mw t d (meant_thread name x) device major argument)
      issues_one =
          let routine : ℕ = serving (slice_get set.drivers device.driver) major in
          record {
            threads = map_put (meant_thread name) v.threads t
                (rooted_slot Passive (SlotRoutine (entered device.driver routine d (Ref key))))
                ∙ ap (λ (n : ℕ). slice_set mw.threads t
                (rooted (meant_thread name x) Passive (entered device.driver routine d (Ref n))))
                key_named;
            shared = means_now;
            reply = ap (λ (n : ℕ). Started n) means.issued;
            live = λ j live. name_now j;
            order = ordered_after s order key free room p;
            cancels = threads_put (CancelStands after) v.threads t
                (rooted_slot Passive (SlotRoutine (entered device.driver routine d (Ref key))))
                (threads_map (CancelStands s) (CancelStands after) v.threads cancel_now cancels)
                (tt, tt);
          }

      issues_if : (may : Bool)
          → MeansChange name
          (if may then issued_slot set v key t d device major argument else stays v Refused)
          (if may then issued set mw t d (meant_thread name x) device major argument
          else unchanged mw Refused)
      issues_if true = issues_one
      issues_if false = refuses Refused

    idle_same : (x : SlotThread) → has_none x ≡ is_idle (meant_thread name x)
    idle_same x =
        ap (λ (n : ℕ). nat_eq n 0) (sym (length-map x.frames (meant_frame name)))

    pub issues : (t d : ℕ) (major : Major) (argument : ℕ) (o : Option SlotThread)
        (device : Option Device)
        → MeansChange name (issue_slot set v key t d major argument o device)
        (issue_on set mw t d major argument (option_map (meant_thread name) o) device)
    issues t d major argument None device = refuses Refused
    issues t d major argument (Some x) None = refuses Refused
    issues t d major argument (Some x) (Some device) =
        let may : (has_none x && can_issue_slot s)
        ≡ (is_idle (meant_thread name x) && can_issue r) =
        ap (λ (b : Bool). b && can_issue_slot s) (idle_same x)
        ∙ ap (λ (b : Bool). is_idle (meant_thread name x) && b) (can_same name s r means order) in
        subst (λ (b : Bool). MeansChange name
        (if has_none x && can_issue_slot s then issued_slot set v key t d device major argument
        else stays v Refused)
        (if b then issued set mw t d (meant_thread name x) device major argument
        else unchanged mw Refused)) may
        (issues_if t d x device major argument (has_none x && can_issue_slot s))
