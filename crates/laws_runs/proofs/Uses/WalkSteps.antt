-- What a step of the I/O manager's frame does to each packet and its uses.
use Rattle.laws_runs.proofs.Common.{ap, arith, drop, inl, inr, refl, sym, ◌-◌, ◌∙◌, cases_lt, cond_both, eq-eqb, ltb-false, ltb-true, list_any, Bool, List, None, Option, Some, [], false, if◌then◌else◌, nat_eq, nat_lt, slice_get, suc, true, ℕ, ◌+◌, ◌<◌, ◌∷◌, ◌≡◌, ◌≤◌, ◌⊎◌, Action, Lends, Marks, TopsOut, Touches, Ups, Outcome, completes_with, leaves, sort_of_completion, stack_size, is_hold, marked, is_use, marks_left, was_marked, Set, Actor, Entry, current_use, recorded, uses, Shared, completion_of, current_location, is_marked, left_location, mark_current, moved_up, packet_of, with_packet, without_packet, Open, SettledMark, Topped, Hold, Completion, Frame, Routine, Walk, Location, Packet, States, state_of, Comes, carries_up, lends_to, tops_out, walks_gone, walks_to, walks_up}
use Rattle.model.specs.Action.{Leaves}
use Rattle.laws_runs.proofs.Room.Marked.{LentMarked}
use Rattle.laws_runs.proofs.Past.LivePackets.{Rises, find, find_remove}
use Rattle.laws_runs.proofs.Past.Packets.{found, numbered}
use Rattle.laws_runs.proofs.Uses.Becomes.{gets_marked, goes_out, goes_up}
use Rattle.laws_runs.proofs.Uses.Fates.{late_in, late_on}
use Rattle.laws_runs.proofs.Uses.LateMarks.{late_walk}
use Rattle.laws_runs.proofs.Uses.Traced.{is_about, noted_recorded, opened_recorded, traced_recorded}
use Rattle.laws_runs.proofs.Uses.Steps.{UseStep, apart_at, becomes_at, found_other, found_put, late_of, split_step}

-- completion leaves the current location
left_current : (past : List Entry) (actor : Actor) (n u : ℕ)
    → marks_left (recorded past actor (Touches n ∷ Leaves n ∷ Ups n ∷ []))
    (record { packet = n; «use» = u })
    ≡ (if is_use n (current_use past n) (record { packet = n; «use» = u })
    then was_marked past (record { packet = n; «use» = u }) ∷ marks_left past
    (record { packet = n; «use» = u })
    else marks_left past (record { packet = n; «use» = u }))
left_current past actor n u = refl

-- a location with a completion routine isn't the first one
routed_deep : (p : Packet) (c : Completion) → completion_of (current_location p) ≡ Some c
    → 1 ≤ p.depth
    → completion_of (slice_get p.locations.items 0) ≡ None → 1 < p.depth
routed_deep p c there some rooted =
    elim (cases_lt 1 p.depth) [
      | inl more ↦ more
      | inr few ↦
          let first : p.depth - 1 ≡ 0 = omega arith in
          let none : completion_of (current_location p) ≡ None =
          ap (λ (k : ℕ). completion_of (slice_get p.locations.items k)) first ∙ rooted in
          let no : None ≡ Some c = sym none ∙ there in cc
    ]

-- what is known of the I/O manager's frame that steps
pub record StepsWalk (set : Set) (states : States) (s : Shared) (n : ℕ) : Type 0 where
  pub rises : Rises 0 s.packets s.issued
  pub done : (p : Packet) → find s.packets n ≡ Some p → p.completing ≡ true
  pub starts : (p : Packet) (c : Completion) → packet_of s n ≡ Some p
      → completion_of (current_location p) ≡ Some c
      → is_hold (sort_of_completion set c) ≡ false
      → (state_of states (completes_with set c n)).settled ≡ Open
  pub lent : (p : Packet) (c : Completion) → packet_of s n ≡ Some p
      → completion_of (current_location p) ≡ Some c → sort_of_completion set c ≡ Hold
      → (state_of states (completes_with set c n)).settled ≡ SettledMark
  pub lends : (p : Packet) → find s.packets n ≡ Some p → LentMarked set p

-- where a packet is lent, the location above is marked
lent_above : (set : Set) (p q : Packet) (c : Completion) → LentMarked set p
    → completion_of (current_location p) ≡ Some c → sort_of_completion set c ≡ Hold
    → q.locations.items ≡ p.locations.items → q.depth ≡ p.depth - 1
    → 1 < p.depth → is_marked (current_location q) ≡ true
lent_above set p q c lends routed holds alike higher more =
    let place : suc (p.depth - 1 - 1) ≡ p.depth - 1 = omega arith in
    let next : suc (p.depth - 1 - 1) < p.depth = omega arith in
    let last : q.depth - 1 ≡ p.depth - 1 - 1 = omega arith in
    let there : completion_of (slice_get p.locations.items (suc (p.depth - 1 - 1))) ≡ Some c =
    ap (λ (k : ℕ). completion_of (slice_get p.locations.items k)) place ∙ routed in
    ap (λ (ls : List Location). is_marked (slice_get ls (q.depth - 1))) alike
    ∙ ap (λ (k : ℕ). is_marked (slice_get p.locations.items k)) last
    ∙ lends (p.depth - 1 - 1) c next there holds

module _ (set : Set) (states : States) (s : Shared) (past : List Entry) (actor : Actor) (t : ℕ)
    (under : Option Frame) (n : ℕ) (h : StepsWalk set states s n) where
  -- what is told where the packet goes up: its completion leaves the current location
  record TellsUp (actions : List Action) : Type 0 where
    used : uses (recorded past actor actions) n ≡ drop 1 (uses past n)
    marked : (u : ℕ) → was_marked (recorded past actor actions) (record { packet = n; «use» = u })
        ≡ was_marked past (record { packet = n; «use» = u })
    left : (u : ℕ) → marks_left (recorded past actor actions) (record { packet = n; «use» = u })
        ≡ (if is_use n (current_use past n) (record { packet = n; «use» = u })
        then was_marked past (record { packet = n; «use» = u }) ∷ marks_left past
        (record { packet = n; «use» = u })
        else marks_left past (record { packet = n; «use» = u }))
    sized : stack_size (recorded past actor actions) n ≡ stack_size past n
    quiet : (m : ℕ) → nat_eq n m ≡ false → list_any (is_about m) actions ≡ false

  -- it goes up to the next location; what stands in place of the frame carries a mark up as the
  -- location says, or is lent the packet, and the next location is marked already
  goes_up_at : (p q : Packet) (frames : List Frame) (actions : List Action) → packet_of s n ≡ Some p
      → q.number ≡ p.number → q.locations.items ≡ p.locations.items → q.depth ≡ p.depth - 1
      → TellsUp actions
      → (1 ≤ p.depth → completion_of (slice_get p.locations.items 0) ≡ None → 1 < p.depth)
      → ((late_in states q.pending_returned n under frames
      ≡ (if is_marked (current_location p) then 1 else 0)) × (q.completing ≡ true))
      ⊎ ((late_in states q.pending_returned n under frames ≡ 0)
      × (1 < p.depth → is_marked (current_location q) ≡ true))
      → ((m : ℕ) (returned : Bool) → nat_eq n m ≡ false
      → late_in states returned m under frames ≡ 0)
      → UseStep states s past actor under (Walk n)
      (leaves (with_packet s n q) frames actions)
  goes_up_at p q frames actions there same alike higher tells more own others =
      let at : find s.packets n ≡ Some p = found s n (Some p) there in
      let number : q.number ≡ n = same ∙ numbered s n p there in
      let o : Outcome = leaves (with_packet s n q) frames actions in
      let now : find o.shared.packets n ≡ Some q = found_put s n p q at number in
      split_step states s past actor under (Walk n) o n
      (becomes_at states s past actor under (Walk n) o n (λ late lately lates.
      let none : (returned : Bool) → late returned ≡ 0 = lates.walked refl in
      let even : lately q.pending_returned + late_on states q.pending_returned n under (Walk n)
      ≡ late q.pending_returned + late_in states q.pending_returned n under frames =
      lates.even q.pending_returned in
      let top : late_on states q.pending_returned n under (Walk n) ≡ 0 =
      late_walk states q.pending_returned n under n in
      let zero_before : late q.pending_returned ≡ 0 = none q.pending_returned in
      let onwards : lately q.pending_returned ≡ late_in states q.pending_returned n under frames =
      omega arith in
      goes_up (record {
        p = p;
        q = q;
        was = at;
        now = now;
        alike = alike;
        higher = higher;
        used = tells.used;
        marked = tells.marked;
        left = tells.left;
        sized = tells.sized;
        more = more;
        done = h.done p at;
        none = ap (late_of late) at ∙ none p.pending_returned;
        carried = elim own [
          | inl went ↦ inl (ap (late_of lately) now ∙ onwards ∙ went.0, went.1)
          | inr lent ↦ inr (ap (late_of lately) now ∙ onwards ∙ lent.0, lent.1)
        ];
      })))
      (λ m apart. record {
        there = found_other s n m p q at number apart;
        quiet = tells.quiet m apart;
        late = λ x is.
            let top : late_on states x.pending_returned m under (Walk n) ≡ 0 =
            late_walk states x.pending_returned m under n in
            others m x.pending_returned apart ∙ sym top;
      })

  goes_tells : TellsUp (Touches n ∷ Leaves n ∷ Ups n ∷ [])
  goes_tells =
      record {
        used = rw (eq-eqb n n refl) refl;
        marked = λ u. refl;
        left = left_current past actor n;
        sized = rw (eq-eqb n n refl) refl;
        quiet = λ m apart. rw apart refl;
      }

  lends_tells : TellsUp (Touches n ∷ Leaves n ∷ Ups n ∷ Lends n ∷ [])
  lends_tells =
      record {
        used = rw (eq-eqb n n refl) refl;
        marked = λ u. refl;
        left = λ u. refl;
        sized = rw (eq-eqb n n refl) refl;
        quiet = λ m apart. rw apart refl;
      }

  -- the mark is carried up at once
  carries_at : (p : Packet) → packet_of s n ≡ Some p → nat_lt 1 p.depth ≡ true
      → is_marked (current_location p) ≡ true → UseStep states s past actor under (Walk n)
      (leaves (with_packet s n (mark_current (moved_up (left_location p)))) (Walk n ∷ [])
      (Touches n ∷ Leaves n ∷ Ups n ∷ Marks n ∷ []))
  carries_at p there deep is =
      let at : find s.packets n ≡ Some p = found s n (Some p) there in
      let up : Packet = moved_up (left_location p) in
      let q : Packet = mark_current up in
      let number : p.number ≡ n = numbered s n p there in
      let first : List Action = Touches n ∷ Leaves n ∷ Ups n ∷ [] in
      let middle : List Entry = recorded past actor first in
      let o : Outcome =
      leaves (with_packet s n q) (Walk n ∷ []) (Touches n ∷ Leaves n ∷ Ups n ∷ Marks n ∷ []) in
      let now : find o.shared.packets n ≡ Some q = found_put s n p q at number in
      split_step states s past actor under (Walk n) o n
      (λ late lately lates.
      let none : (returned : Bool) → late returned ≡ 0 = lates.walked refl in
      inr (record {
        middle = middle;
        between = Some up;
        midway = 1;
        traced = traced_recorded past actor first;
        first = record {
          grows = opened_recorded past actor first;
          noted = λ v k marked h. noted_recorded past actor first v k marked h;
          how = goes_up (record {
            p = p;
            q = up;
            was = at;
            now = refl;
            alike = refl;
            higher = refl;
            used = rw (eq-eqb n n refl) refl;
            marked = λ u. refl;
            left = left_current past actor n;
            sized = rw (eq-eqb n n refl) refl;
            more = λ some rooted. ltb-true 1 p.depth deep;
            done = h.done p at;
            none = ap (late_of late) at ∙ none p.pending_returned;
            carried = inl (rw is refl, h.done p at);
          });
        };
        second = record {
          grows = opened_recorded middle actor (Marks n ∷ []);
          noted = λ v k marked h. noted_recorded middle actor (Marks n ∷ []) v k marked h;
          how = gets_marked (record {
            p = up;
            was = refl;
            now = now;
            used = refl;
            marked = λ u. refl;
            left = λ u. refl;
            sized = rw (eq-eqb n n refl) refl;
            due = inr (omega arith);
          });
        };
      }))
      (λ m apart. record {
        there = found_other s n m p q at number apart;
        quiet = rw apart refl;
        late = λ x is.
            omega (arith, late_walk states x.pending_returned m under n);
      })

  -- at the first location the packet tops out
  tops_at : (p : Packet) → packet_of s n ≡ Some p → nat_lt 1 p.depth ≡ false
      → UseStep states s past actor under (Walk n)
      (record (leaves (without_packet s n) [] (Touches n ∷ Leaves n ∷ TopsOut n ∷ [])) {
        reply = Topped n p.status p.info;
      })
  tops_at p there last =
      let at : find s.packets n ≡ Some p = found s n (Some p) there in
      let o : Outcome =
      record (leaves (without_packet s n) [] (Touches n ∷ Leaves n ∷ TopsOut n ∷ [])) {
        reply = Topped n p.status p.info;
      } in
      split_step states s past actor under (Walk n) o n
      (becomes_at states s past actor under (Walk n) o n (λ late lately lates.
      let none : (returned : Bool) → late returned ≡ 0 = lates.walked refl in
      goes_out (record {
        p = p;
        was = at;
        gone = find_remove 0 s.packets s.issued n h.rises n ∙ rw (eq-eqb n n refl) refl;
        left = λ u. refl;
        shallow = ltb-false 1 p.depth last;
        none = ap (late_of late) at ∙ none p.pending_returned;
      })))
      (λ m apart. record {
        there = find_remove 0 s.packets s.issued n h.rises m ∙ rw apart refl;
        quiet = rw apart refl;
        late = λ x is. sym (late_walk states x.pending_returned m under n);
      })

  walk_late : (returned : Bool) (m : ℕ) → late_in states returned m under (Walk n ∷ []) ≡ 0
  walk_late returned m =
      omega (arith, late_walk states returned m under n)

  -- a completion routine that begins has still to see whether there is a mark
  routine_late : (c : Completion) (returned : Bool) (m : ℕ) (b : Bool) → nat_eq n m ≡ b
      → (state_of states (completes_with set c n)).settled ≡ Open
      → late_in states returned m under (Walk n ∷ Routine (completes_with set c n) ∷ [])
      ≡ (if b then if returned then 1 else 0 else 0)
  routine_late c returned m b same starts =
      let over : late_on states returned m (Some (Walk n)) (Routine (completes_with set c n))
      ≡ (if b then if returned then 1 else 0 else 0) = rw (same, starts) refl in
      omega (arith, late_walk states returned m under n)

  -- one that is lent the packet has nothing to carry up
  lent_late : (c : Completion) (returned : Bool) (m : ℕ)
      → (state_of states (completes_with set c n)).settled ≡ SettledMark
      → late_in states returned m under (Walk n ∷ Routine (completes_with set c n) ∷ []) ≡ 0
  lent_late c returned m starts =
      let over : late_on states returned m (Some (Walk n)) (Routine (completes_with set c n)) ≡ 0 =
      rw starts (cond_both (nat_eq n m) 0 0 (λ x. x ≡ 0) (λ is. refl) (λ other. refl)) in
      omega (arith, late_walk states returned m under n)

  pub walk_used : (below : Option Frame) (o : Outcome) → Comes set s t below (Walk n) o
      → UseStep states s past actor under (Walk n) o
  walk_used below o (walks_gone m gone) =
      λ k. apart_at states s past actor under (Walk n) o k
      (record {
        there = refl;
        quiet = refl;
        late = λ p is. sym (late_walk states p.pending_returned k under n);
      })
  walk_used below o (walks_to m p c there routed lends) =
      let starts : (state_of states (completes_with set c n)).settled ≡ Open =
      h.starts p c there routed lends in
      goes_up_at p (moved_up (left_location p)) (Walk n ∷ Routine (completes_with set c n) ∷ [])
      (Touches n ∷ Leaves n ∷ Ups n ∷ []) there refl refl refl goes_tells
      (λ some rooted. routed_deep p c routed some rooted)
      (inl (
        routine_late c (is_marked (current_location p)) n true (eq-eqb n n refl) starts,
        h.done p (found s n (Some p) there),
      ))
      (λ k returned apart. routine_late c returned k false apart starts)
  walk_used below o (lends_to m p c there routed lends) =
      let starts : (state_of states (completes_with set c n)).settled ≡ SettledMark =
      h.lent p c there routed lends in
      let q : Packet = record (moved_up (left_location p)) { completing = false } in
      goes_up_at p q (Walk n ∷ Routine (completes_with set c n) ∷ [])
      (Touches n ∷ Leaves n ∷ Ups n ∷ Lends n ∷ []) there refl refl refl lends_tells
      (λ some rooted. routed_deep p c routed some rooted)
      (inr (
        lent_late c (is_marked (current_location p)) n starts,
        lent_above set p q c (h.lends p (found s n (Some p) there)) routed lends refl refl,
      ))
      (λ k returned apart. lent_late c returned k starts)
  walk_used below o (walks_up m p there unrouted deep unmarked) =
      goes_up_at p (moved_up (left_location p)) (Walk n ∷ []) (Touches n ∷ Leaves n ∷ Ups n ∷ [])
      there refl refl refl goes_tells (λ some rooted. ltb-true 1 p.depth deep)
      (inl (
        walk_late (is_marked (current_location p)) n
            ∙ sym (ap (λ (b : Bool). if b then 1 else 0) unmarked),
        h.done p (found s n (Some p) there),
      ))
      (λ k returned apart. walk_late returned k)
  walk_used below o (carries_up m p there unrouted deep marked) = carries_at p there deep marked
  walk_used below o (tops_out m p there unrouted last) = tops_at p there last
