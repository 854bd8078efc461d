-- Loops: a step into one, and the end of its body, where it turns again or is closed.
use Rattle.laws_runs.proofs.Prelude.{ap, arith, drop, refl, subst, sym, take, zero, ◌*◌, ◌-◌, ◌∙◌, cond_both, leb-false, lt-ltb, ltb-true, List, None, Option, Some, [], false, length, nat_eq, nat_le, nat_lt, slice_get, suc, true, ℕ, ◌++◌, ◌+◌, ◌<◌, ◌∷◌, ◌≡◌, ◌≤◌, turned, loops_round, open_at, open_by, is_misplaced, Closes, Flow, Opens, Set, flow_of, Shared, at_label, innermost, next, with_loops, Abs, Instr, End, Loop, MAX_LOOPS, Activation, OpenLoop}
use Rattle.model.specs.World.{outer_loops}
use Rattle.laws_runs.proofs.Lists.{last_of, before_last}
use Rattle.laws_runs.proofs.States.Follows.{next_state, placed}
use Rattle.laws_runs.proofs.States.Frames.{Nested, nested_length, extra, extra_more, state_of, Moved, Runs}
use Rattle.laws_runs.proofs.States.Moves.{goes, next_at, open_next, rest_here, turns_of_known}
use Rattle.laws_runs.proofs.States.Remaining.{rest, rest_by, IsFormed, IsOpening, IsLoop, IsInside, Chain, chain, round_open, summed, summed_same}
use Rattle.laws_runs.specs.ArrivingStates.{States}
use Rattle.laws_runs.proofs.Tests.{or_right}

-- into a loop
summed_loop : (p turns : ℕ) (loops : List ℕ) (after : ℕ → ℕ)
    → summed loops (rest_by (Opens turns) after) + after 0
    ≡ 1 + (turns * after 0 + summed (p ∷ loops) after)
summed_loop p turns [] after = omega arith
summed_loop p turns (q ∷ loops) after = omega arith

one_turn : (turns cost : ℕ) → 1 ≤ turns → (turns - 1) * cost + cost ≡ turns * cost
one_turn zero cost some = absurd (omega arith)
one_turn (suc n) cost some = let less : suc n - 1 ≡ n = omega arith in rw less (omega arith)

-- fewer loops are open before a `loop` than may be
few_if : (code : List Instr) (p turns : ℕ) (i : Option Instr) → i ≡ Some (Loop turns)
    → is_misplaced code p i ≡ false
    → nat_le MAX_LOOPS (length (loops_round code p)) ≡ false
few_if code p turns i is placed_there =
    or_right _ _ (subst (λ (x : Option Instr). is_misplaced code p x ≡ false) is placed_there)

module _ (set : Set) (states : States) (s : Shared) (a : Activation) (turns : ℕ)
    (h : Runs set states s a (Loop turns)) where
  pub moved_loop : Moved set states s.issued a
      (next (with_loops a (a.loops.items ++ record { start = a.position + 1; turns = turns } ∷ [])))
      (state_of states a)
  moved_loop =
      let code : List Instr = h.routine.code in
      let p : ℕ = a.position in
      let l : OpenLoop = record { start = a.position + 1; turns = turns } in
      let there : (p + 1 < length code) × (states a.driver a.routine (p + 1) ≡ state_of states a) =
      next_at set states s a (Loop turns) h refl in
      let after : ℕ → ℕ = rest (drop (p + 1) code) in
      let loops : open_at code (p + 1) ≡ p ∷ open_at code p = open_next code p (Loop turns) h.here
      in
      let some : 1 ≤ turns = turns_of_known h.routine h.known.operands p turns h.here in
      let cost : summed (open_at code p) (rest (drop p code)) ≡ summed (open_at code p)
      (rest_by (Opens turns) after) =
      ap (λ (left : ℕ → ℕ). summed (open_at code p) left) (rest_here code p (Loop turns) h.here) in
      let sum : summed (open_at code p) (rest_by (Opens turns) after) + after 0
      ≡ 1 + (turns * after 0 + summed (p ∷ open_at code p) after) =
      summed_loop p turns (open_at code p) after in
      let turn : (turns - 1) * after 0 + after 0 ≡ turns * after 0 = one_turn turns (after 0) some
      in
      let inside : summed (open_at code (p + 1)) after ≡ summed (p ∷ open_at code p) after =
      ap (λ (open_now : List ℕ). summed open_now after) loops in
      let more : extra code (a.loops.items ++ l ∷ []) ≡ extra code a.loops.items
      + (turns - 1) * after 0 =
      extra_more code a.loops.items l in
      goes set states s a (Loop turns) h (p + 1) (a.loops.items ++ l ∷ []) a.registers
      (state_of states a) there.1
      there.0
      (subst (λ (open_now : List ℕ). Nested (a.loops.items ++ l ∷ []) open_now) (sym loops)
      (a.loops.items, turns, refl, h.stays.nested))
      h.stays.kinds h.stays.eight h.stays.sixteen (omega arith)

  pub room_for_loop : nat_lt (length a.loops.items) MAX_LOOPS ≡ true
  room_for_loop =
      let code : List Instr = h.routine.code in
      let p : ℕ = a.position in
      let within : p < length code = h.stays.within in
      let formed : IsFormed code = h.known.follows.formed in
      let few : length (loops_round code p) < MAX_LOOPS =
      leb-false MAX_LOOPS (length (loops_round code p))
      (few_if code p turns (slice_get code p) h.here (placed code p (formed p within))) in
      let round : length (loops_round code p) ≡ length (open_at code p) =
      ap length (round_open code p formed (omega arith)) in
      let long : length a.loops.items ≡ length (open_at code p) =
      nested_length a.loops.items (open_at code p) h.stays.nested in
      lt-ltb (length a.loops.items) MAX_LOOPS (omega arith)

-- an `end` where a loop is open: the loop's position, those round it, and its entry in the
-- activation
record ClosesAt (code : List Instr) (a : Activation) (q : ℕ) (loops : List ℕ)
    (outer : List OpenLoop)
    (turns : ℕ) : Type 0 where
  there : open_at code a.position ≡ q ∷ loops
  inside : IsInside code a.position q loops
  items : a.loops.items ≡ outer ++ record { start = q + 1; turns = turns } ∷ []
  nested : Nested outer loops

loop_opens : (code : List Instr) (q : ℕ) (i : Option Instr) → slice_get code q ≡ i → IsLoop i
    → open_at code (q + 1) ≡ q ∷ open_at code q
loop_opens code q None here loop = absurd loop
loop_opens code q (Some i) here loop = open_next code q i here ∙ opening (flow_of i) loop
  where
    opening : (f : Flow) → IsOpening f → open_by f q (open_at code q) ≡ q ∷ open_at code q
    opening (Opens turns) loop = refl
    opening _ loop = absurd loop

two_turns : (turns cost : ℕ) → 1 < turns → (turns - 1) * cost ≡ (turns - 1 - 1) * cost + cost
two_turns (suc (suc n)) cost some =
    let one : suc (suc n) - 1 ≡ suc n = omega arith in
    let two : suc n - 1 ≡ n = omega arith in
    rw (one, two) (omega arith)
two_turns _ cost some = absurd (omega arith)

-- a loop's body is entered in the state of its start
opened_state : (set : Set) (driver : ℕ) (i : Instr) → IsOpening (flow_of i) → (s : Abs)
    → next_state set driver s (Some i) ≡ Some s
opened_state set driver (Loop turns) loop s = refl
opened_state set driver _ loop s = absurd loop

module _ (set : Set) (states : States) (s : Shared) (a : Activation) (h : Runs set states s a End)
  where
    -- the loop is closed
    pop_moved : (q : ℕ) (loops : List ℕ) (outer : List OpenLoop) (turns : ℕ)
        → ClosesAt h.routine.code a q loops outer turns
        → Moved set states s.issued a (next (with_loops a outer)) (state_of states a)
    pop_moved q loops outer turns c =
        let code : List Instr = h.routine.code in
        let p : ℕ = a.position in
        let there : (p + 1 < length code)
        × (states a.driver a.routine (p + 1) ≡ state_of states a) =
        next_at set states s a End h refl in
        let after : ℕ → ℕ = rest (drop (p + 1) code) in
        let now_open : open_at code (p + 1) ≡ loops =
        open_next code p End h.here ∙ ap (λ (open_now : List ℕ). drop 1 open_now) c.there in
        let before : summed (open_at code p) (rest (drop p code)) ≡ summed (q ∷ loops)
        (rest_by Closes after) =
        rw (c.there) (ap (λ (left : ℕ → ℕ). summed (q ∷ loops) left) (rest_here code p End h.here))
        in
        let share : summed (q ∷ loops) (rest_by Closes after) ≡ 1 + summed loops after = refl in
        let left : summed (open_at code (p + 1)) after ≡ summed loops after =
        ap (λ (open_now : List ℕ). summed open_now after) now_open in
        let turns_left : extra code a.loops.items ≡ extra code outer + (turns - 1) * rest
        (drop (q + 1) code) 0 =
        ap (extra code) c.items ∙ extra_more code outer (record { start = q + 1; turns = turns }) in
        goes set states s a End h (p + 1) outer a.registers (state_of states a) there.1 there.0
        (subst (λ (open_now : List ℕ). Nested outer open_now) (sym now_open) c.nested) h.stays.kinds
        h.stays.eight
        h.stays.sixteen (omega arith)

    loop_state : (q : ℕ) (i : Option Instr) → slice_get h.routine.code q ≡ i → IsLoop i
        → q < length h.routine.code
        → (q + 1 < length h.routine.code)
        × (states a.driver a.routine (q + 1) ≡ states a.driver a.routine q)
    loop_state q None here loop within = absurd loop
    loop_state q (Some i) here loop within =
        h.known.follows.next q (states a.driver a.routine q) within
        (subst (λ (x : Option Instr). next_state set a.driver (states a.driver a.routine q) x
        ≡ Some (states a.driver a.routine q))
        (sym here) (opened_state set a.driver i loop (states a.driver a.routine q)))

    turn_moved : (q : ℕ) (loops : List ℕ) (outer : List OpenLoop) (turns : ℕ)
        → ClosesAt h.routine.code a q loops outer turns → 1 < turns
        → Moved set states s.issued a
        (at_label (with_loops a (outer ++ record { start = q + 1; turns = turns - 1 } ∷ []))
        (q + 1))
        (state_of states a)
    turn_moved q loops outer turns c some =
        let code : List Instr = h.routine.code in
        let p : ℕ = a.position in
        let l : OpenLoop = record { start = q + 1; turns = turns - 1 } in
        let there : (q + 1 < length code)
        × (states a.driver a.routine (q + 1) ≡ states a.driver a.routine q) =
        loop_state q (slice_get code q) refl c.inside.loop c.inside.within in
        let first : slice_get (open_at code p) 0 ≡ Some q = rw (c.there) refl in
        let alike : states a.driver a.routine q ≡ state_of states a =
        h.known.follows.closes p q h.stays.within h.here first in
        let now_open : open_at code (q + 1) ≡ q ∷ loops =
        loop_opens code q (slice_get code q) refl c.inside.loop
        ∙ ap (λ (open_now : List ℕ). q ∷ open_now) (sym c.inside.round) in
        let body : ℕ → ℕ = rest (drop (q + 1) code) in
        let one_on : q + 1 ≡ suc q = omega arith in
        let level : summed loops (λ d. body (suc d)) ≡ summed loops (rest (drop (p + 1) code)) =
        summed_same loops (λ d. body (suc d)) (rest (drop (p + 1) code))
        (λ d. ap (λ (x : ℕ). rest (drop x code) (suc d)) one_on ∙ sym (c.inside.level d)
        ∙ ap (λ (left : ℕ → ℕ). left (suc d)) (rest_here code p End h.here)) in
        let before : summed (open_at code p) (rest (drop p code))
        ≡ summed (q ∷ loops) (rest_by Closes (rest (drop (p + 1) code))) =
        rw (c.there) (ap (λ (left : ℕ → ℕ). summed (q ∷ loops) left) (rest_here code p End h.here))
        in
        let share : summed (q ∷ loops) (rest_by Closes (rest (drop (p + 1) code)))
        ≡ 1 + summed loops (rest (drop (p + 1) code)) = refl in
        let after : summed (open_at code (q + 1)) body ≡ body 0 + summed loops (λ d. body (suc d)) =
        ap (λ (open_now : List ℕ). summed open_now body) now_open in
        let turns_left : extra code a.loops.items ≡ extra code outer + (turns - 1) * body 0 =
        ap (extra code) c.items ∙ extra_more code outer (record { start = q + 1; turns = turns }) in
        let turns_after : extra code (outer ++ l ∷ [])
        ≡ extra code outer + (turns - 1 - 1) * body 0 =
        extra_more code outer l in
        let turn : (turns - 1) * body 0 ≡ (turns - 1 - 1) * body 0 + body 0 =
        two_turns turns (body 0) some in
        goes set states s a End h (q + 1) (outer ++ l ∷ []) a.registers (state_of states a)
        (there.1 ∙ alike) there.0
        (subst (λ (open_now : List ℕ). Nested (outer ++ l ∷ []) open_now) (sym now_open)
        (outer, turns - 1, refl, c.nested))
        h.stays.kinds h.stays.eight h.stays.sixteen (omega arith)

    -- some loop is open at an `end`
    ends_in : (loops : List ℕ) → open_at h.routine.code a.position ≡ loops
        → is_misplaced h.routine.code a.position (Some End) ≡ false
        → Chain h.routine.code a.position loops
        → Nested a.loops.items loops
        → (l : OpenLoop) × (innermost a ≡ Some l)
        × Moved set states s.issued a (turned a l) (state_of states a)
    ends_in [] there placed_there inside nested =
        let no : nat_eq (length (open_at h.routine.code a.position)) 0 ≡ true = rw there refl in cc
    ends_in (q ∷ loops) there placed_there inside nested =
        let outer : List OpenLoop = nested.0 in
        let turns : ℕ = nested.1 in
        let l : OpenLoop = record { start = q + 1; turns = turns } in
        let closes : ClosesAt h.routine.code a q loops outer turns =
        record { there = there; inside = inside.0; items = nested.2; nested = nested.3 } in
        let last : innermost a ≡ Some l =
        ap (λ (items : List OpenLoop). slice_get items (length items - 1)) nested.2
        ∙ last_of outer l in
        let others : outer_loops a ≡ outer =
        ap (λ (items : List OpenLoop). take (length items - 1) items) nested.2
        ∙ before_last outer l in (
          l,
          last,
          rw (others)
              (cond_both (nat_lt 1 turns)
              (at_label (with_loops a (outer ++ record { start = q + 1; turns = turns - 1 } ∷ []))
              (q + 1))
              (next (with_loops a outer)) (λ b. Moved set states s.issued a b (state_of states a))
              (λ more. turn_moved q loops outer turns closes (ltb-true 1 turns more))
              (λ last_turn. pop_moved q loops outer turns closes)),
        )

    ends : (l : OpenLoop) × (innermost a ≡ Some l)
        × Moved set states s.issued a (turned a l) (state_of states a)
    ends =
        let code : List Instr = h.routine.code in
        let within : a.position < length code = h.stays.within in
        let placed_here : is_misplaced code a.position (Some End) ≡ false =
        subst (λ (i : Option Instr). is_misplaced code a.position i ≡ false) h.here
        (placed code a.position (h.known.follows.formed a.position within)) in
        ends_in (open_at code a.position) refl placed_here (chain code a.position (omega arith))
        h.stays.nested

    pub some_loop : innermost a ≡ None → ⊥
    some_loop none = let no : None ≡ Some ends.0 = sym none ∙ ends.1 in cc

    pub moved_end : (l : OpenLoop) → innermost a ≡ Some l
        → Moved set states s.issued a (turned a l) (state_of states a)
    moved_end l there =
        let both : Some ends.0 ≡ Some l = sym ends.1 ∙ there in
        let same : ends.0 ≡ l = cc in
        subst (λ (x : OpenLoop). Moved set states s.issued a (turned a x) (state_of states a)) same
        ends.2
