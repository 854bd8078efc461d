-- The packet of a number is found in the number's bucket, where it is live.
use Rattle.std.proofs.Common.{◌≡◌, ◌≢◌, ◌<◌, ℕ, true, false, Option, Some, None, get_or, length, ap, sym, ◌∙◌, refl, arith}
use Rattle.std.specs.Prelude.{slice_get}
use Rattle.std.proofs.lemmas.Bool.{eq-eqb, false≢true}
use Rattle.std.proofs.lemmas.Bool.Decides.{nat_tests}
use Rattle.std.proofs.lemmas.List.{length-map}
use Rattle.std.proofs.lemmas.Option.{slice_get-get_or, slice_get_past, slice_get_within}
use Rattle.model.specs.declared.world.Packet.{Packet}
use Rattle.model.specs.Queues.{is_linked}
use Rattle.model.specs.World.{place_of}
use Rattle.slab.specs.Slab.{Slab}
use Rattle.devqueue.specs.Lists.{Lists, entries_of}
use Rattle.iomgr.proofs.Places.{found_place, missing_place, number_there, numbered_place}
use Rattle.iomgr.proofs.Slots.{key_held, key_there, length_in, packet_at as packet_there, some_packet}
use Rattle.iomgr.proofs.Used.{used_held}
use Rattle.iomgr.specs.Buckets.{IsNumbered, bucket_of, has_number}
use Rattle.iomgr.specs.Numbers.{numbers_of}
use Rattle.iomgr.specs.Slots.{Holds, IsOrdered, Slots, lies_at, packet_at, place_at}

-- what has a number is its packet
numbered_some : (found : Option Packet) (n : ℕ) → has_number found n ≡ true
    → (p : Packet) × (found ≡ Some p) × (p.number ≡ n)
numbered_some None n has = absurd (false≢true has)
numbered_some (Some p) n has = (p, refl, grind (arith, nat_tests, has))

module _ (live : Slots) (buckets : Lists) (issued : ℕ) (numbered : IsNumbered live buckets issued)
    (ordered : IsOrdered live) (n : ℕ) where
  abbrev slab : Slab Packet
  slab = record { slots = live.lying; vacant_key = 0; capacity = 0 }

  many : length live.packets ≡ length live.order
  many = rw ordered.packets (length_in slab live.order ordered.held)

  -- the packet that stands where a key does
  stands : (key place : ℕ) → slice_get live.order place ≡ Some key
      → slice_get live.packets place ≡ lies_at live key
  stands key place at = rw ordered.packets (packet_there slab key live.order place ordered.held at)

  module _ (slot : ℕ) (has : has_number (lies_at live slot) n ≡ true) where
    abbrev lying : (p : Packet) × (lies_at live slot ≡ Some p) × (p.number ≡ n)
    lying = numbered_some (lies_at live slot) n has

    pub found_holds : Holds live slot
    found_holds = used_held live slot ordered (rw lying.1 refl)

    at_place : slice_get live.order (place_at live slot) ≡ Some slot
    at_place = key_there live.order slot found_holds

    pub found_at : place_at live slot ≡ place_of live.packets n
    found_at =
        let here = stands slot (place_at live slot) at_place ∙ lying.1 in
        let number = number_there live.packets (place_at live slot) lying.0 here in
        sym (numbered_place live.packets n
        ∙ found_place 0 issued (numbers_of live.packets) (place_at live slot) n numbered.rising
        (number ∙ ap (λ (m : ℕ). Some m) lying.2))

    pub found_key : Some slot ≡ slice_get live.order (place_of live.packets n)
    found_key = rw found_at at (sym at_place)

    pub found_packet : Some (packet_at live slot) ≡ slice_get live.packets (place_of live.packets n)
    found_packet =
        rw (← found_at)
        (sym (stands slot (place_at live slot) at_place ∙ some_packet (lies_at live slot) (rw lying.1 refl)))

  module _ (none : (slot : ℕ) → is_linked (entries_of buckets (bucket_of n)) slot ≡ true
      → has_number (lies_at live slot) n ≡ false) where
    nowhere : (place : ℕ) → slice_get (numbers_of live.packets) place ≢ Some n
    nowhere place found =
        let few : place < length live.order =
        omega (
          arith,
          slice_get_within (numbers_of live.packets) place n found,
          length-map live.packets (λ (p : Packet). p.number),
          many,
        ) in
        let key = get_or live.order place 0 in
        let at = slice_get-get_or live.order place 0 few in
        let p = packet_at live key in
        let lies : lies_at live key ≡ Some p =
        some_packet (lies_at live key) (key_held slab key live.order place ordered.held at) in
        let number : slice_get (numbers_of live.packets) place ≡ Some p.number =
        number_there live.packets place p (stands key place at ∙ lies) in
        let same : p.number ≡ n = cc in
        let linked : is_linked (entries_of buckets (bucket_of n)) key ≡ true =
        numbered.listed (bucket_of n) key ∙ rw lies (eq-eqb _ _ (ap bucket_of same)) in
        let has : has_number (lies_at live key) n ≡ true = rw lies (eq-eqb _ _ same) in
        absurd (false≢true (sym (none key linked) ∙ has))

    past : place_of live.packets n ≡ length live.packets
    past =
        numbered_place live.packets n ∙ missing_place (numbers_of live.packets) n nowhere
        ∙ length-map live.packets (λ (p : Packet). p.number)

    pub missing_key : None ≡ slice_get live.order (place_of live.packets n)
    missing_key = sym (slice_get_past live.order (place_of live.packets n) (omega (arith, past, many)))

    pub missing_packet : None ≡ slice_get live.packets (place_of live.packets n)
    missing_packet =
        sym (slice_get_past live.packets (place_of live.packets n) (omega (arith, past)))
