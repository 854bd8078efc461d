-- A step of the walk that completes a packet, and what a run makes of it.
use Rattle.std.proofs.Common.{◌≡◌, refl, if◌then◌else◌, inl, inr, ap, ◌∙◌, ◌<◌, length, ℕ, suc, nat_eq, nat_lt, Bool, true, false, Option, None, Some, List, [], ◌∷◌, slice_get, slice_set}
use Rattle.std.proofs.lemmas.Bool.Decides.{eqb_tells}
use Rattle.std.proofs.lemmas.List.{get_or-set_same, length-set, set-set}
use Rattle.std.proofs.lemmas.Option.{slice_get_within, slice_get-get_or}
use Rattle.model.specs.declared.set.Sort.{Sort}
use Rattle.model.specs.declared.set.Sort.TheVariants.{Dispatch, StartIo, Dpc, Propagate, Hold, Cancel}
use Rattle.model.specs.declared.world.Completion.{Completion}
use Rattle.model.specs.declared.world.Packet.{Packet}
use Rattle.model.specs.Effect.{lent_to, sort_of_completion, walk_from as world_from, walk_out as world_out, walk_up as world_up, walk_packet as world_walk}
use Rattle.model.specs.Set.{Set}
use Rattle.model.specs.World.{Shared, completion_of, current_location, left_location, moved_up, place_of, with_packet}
use Rattle.iomgr.specs.Table.{Table, live_packet, with_live, with_table}
use Rattle.iomgr.specs.Hold.{lent}
use Rattle.iomgr.specs.Slots.{SlotTable, packet_at, place_at, table_in}
use Rattle.iomgr.specs.Walk.{Stepped, lent_if, steps_from, steps_out, steps_up, walk_outcome, walk_from, walk_out, walk_packet, walk_up, Walked, walked, walked_at}

-- a packet that keeps its number is found where it was
place_kept : (packets : List Packet) (n : ℕ) (p q : Packet)
    → slice_get packets (place_of packets n) ≡ Some p → q.number ≡ p.number
    → place_of (slice_set packets (place_of packets n) q) n ≡ place_of packets n
place_kept [] n p q there same = refl
place_kept (r ∷ packets) n p q there same =
    elim (eqb_tells r.number n) [
      | inl e ↦ let first : Some r ≡ Some p = rw e.0 at there in
          let one : r ≡ p = cc in
          let named : nat_eq q.number n ≡ true = rw (same, ← one) e.0 in rw (e.0, named) refl
      | inr e ↦ rw (e.0, e.0) (ap suc (place_kept packets n p q (rw e.0 at there) same))
    ]

found_set : (packets : List Packet) (place : ℕ) (p q : Packet)
    → slice_get packets place ≡ Some p → slice_get (slice_set packets place q) place ≡ Some q
found_set packets place p q there =
    let within : place < length packets = slice_get_within packets place p there in
    let still : place < length (slice_set packets place q) =
    rw (length-set packets place q) within in
    slice_get-get_or (slice_set packets place q) place q still
    ∙ ap Some (get_or-set_same packets place q q within)

-- a packet that goes up is the one that is lent then
module _ (table : Table) (n : ℕ) (p q : Packet) where
  live_after : live_packet table n ≡ Some p → q.number ≡ p.number
      → live_packet (with_live table n q) n ≡ Some q
  live_after there same =
      rw (place_kept table.packets n p q there same)
      (found_set table.packets (place_of table.packets n) p q there)

  lent_after : live_packet table n ≡ Some p → q.number ≡ p.number
      → lent (with_live table n q) n ≡ with_live table n (lent_to Hold q)
  lent_after there same =
      rw (
        live_after there same,
        place_kept table.packets n p q there same,
        set-set table.packets (place_of table.packets n) q (lent_to Hold q),
      ) refl

  lent_if_after : (sort : Sort) (s : Shared) → live_packet table n ≡ Some p → q.number ≡ p.number
      → lent_if sort (with_table s (with_live table n q)) n
      ≡ with_packet (with_table s table) n (lent_to sort q)
  lent_if_after Dispatch s there same = refl
  lent_if_after StartIo s there same = refl
  lent_if_after Dpc s there same = refl
  lent_if_after Propagate s there same = refl
  lent_if_after Hold s there same = ap (with_table s) (lent_after there same)
  lent_if_after Cancel s there same = refl

-- what a run makes of a step is a step of the run
module _ (set : Set) (s : Shared) (table : Table) (n : ℕ) where
  abbrev Agrees : Walked → Option Packet → Type 0
  Agrees w found =
      walk_outcome set (with_table s w.table) n w.step
      ≡ world_walk set (with_table s table) n found

  agrees_ending : (p : Packet) (rises : Bool) → let left : Packet = left_location p in
      walk_outcome set
      (with_table s (if rises then walk_up table n left else walk_out table n left).table) n
      (if rises then walk_up table n left else walk_out table n left).step
      ≡ (if rises
      then world_up (with_table s table) n left
      else world_out (with_table s table) n left)
  agrees_ending p true = refl
  agrees_ending p false = refl

  agrees_from : (p : Packet) → live_packet table n ≡ Some p → (completion : Option Completion)
      → let walked : Walked = walk_from table n (left_location p) completion in
      walk_outcome set (with_table s walked.table) n walked.step
      ≡ world_from set (with_table s table) n (left_location p) completion
  agrees_from p there (Some c) =
      let up : Packet = moved_up (left_location p) in
      rw (lent_if_after table n p up (sort_of_completion set c) s there refl) refl
  agrees_from p there None = agrees_ending p (nat_lt 1 p.depth)

  agrees : (found : Option Packet) → live_packet table n ≡ found
      → Agrees (walk_packet table n found) found
  agrees None there = refl
  agrees (Some p) there = agrees_from p there (completion_of (current_location p))

  pub walked_agrees : (w : Walked) → w ≡ walked table n → Agrees w (live_packet table n)
  walked_agrees w same = rw same (agrees (live_packet table n) refl)

-- a step by the packet's key is one by its number
pub walked_by_key : (t : SlotTable) (key n : ℕ) (w : Stepped)
    → Some (packet_at t.live key) ≡ live_packet (table_in t) n
    → place_at t.live key ≡ place_of t.live.packets n → w ≡ walked_at t key (packet_at t.live key)
    → record { table = table_in w.slots; step = w.step } ≡ walked (table_in t) n
walked_by_key t key n w found place is =
    rw (is, ← found)
    (by (left_location (packet_at t.live key))
    (completion_of (current_location (packet_at t.live key))))
  where
    of_step : Stepped → Walked
    of_step s = record { table = table_in s.slots; step = s.step }

    last : (p : Packet) (rises : Bool)
        → of_step (if rises then steps_up t key p else steps_out t key p)
        ≡ (if rises then walk_up (table_in t) n p else walk_out (table_in t) n p)
    last p true = rw place refl
    last p false = rw place refl

    by : (p : Packet) (completion : Option Completion)
        → of_step (steps_from t key p completion) ≡ walk_from (table_in t) n p completion
    by p (Some c) = rw place refl
    by p None = last p (nat_lt 1 p.depth)
