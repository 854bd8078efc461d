-- The loops that are open at a position, and what is left to execute there. `rest code d` is the
-- cost of executing, once and with all inner loops' turns, what stands from here up to the `end`
-- that closes the loop which has d open loops inside it.
use Rattle.laws_runs.proofs.Prelude.{ap, arith, drop, get_or, inl, inr, refl, subst, sym, zero, ◌*◌, ◌-◌, ◌∙◌, cases_lt, slice_get-get_or, List, None, Option, Some, [], false, length, nat_eq, slice_get, suc, true, ℕ, ⊤, ◌+◌, ◌<◌, ◌∷◌, ◌≡◌, ◌≤◌, certificate, loops_round, open_at, open_by, is_malformed, is_misplaced, is_misplaced_by, Closes, Flow, Opens, flow_of, Instr, End, Loop}
use Rattle.std.specs.Prelude.{filter}
use Rattle.std.proofs.lemmas.Nat.{mul-le}
use Rattle.model.specs.Certificate.{turns_at, certificate_to}
use Rattle.model.specs.Loops.{open_after, is_closed, turns_in, turns_of, turns_product}
use Rattle.laws_runs.proofs.Lists.{from_here}
use Rattle.laws_runs.proofs.States.Follows.{placed}
use Rattle.laws_runs.proofs.Tests.{or_left, not_false}

-- the cost from an instruction on, by what it is from the next one on
abbrev pub rest_by : Flow → (ℕ → ℕ) → ℕ → ℕ
rest_by (Opens turns) after zero = 1 + (turns * after 0 + after 1)
rest_by (Opens turns) after (suc d) = after (suc (suc d))
rest_by Closes after zero = 1
rest_by Closes after (suc d) = after d
rest_by _ after zero = 1 + after 0
rest_by _ after (suc d) = after (suc d)

abbrev pub rest : List Instr → ℕ → ℕ
rest [] = λ d. 0
rest (i ∷ code) = rest_by (flow_of i) (rest code)

-- a `loop`
abbrev pub IsOpening : Flow → Type 0
IsOpening (Opens turns) = ⊤
IsOpening _ = ⊥

abbrev pub IsLoop : Option Instr → Type 0
IsLoop None = ⊥
IsLoop (Some i) = IsOpening (flow_of i)

-- past a `loop`, what was outside it has one more loop inside
past_opening : (f : Flow) (after : ℕ → ℕ) (d : ℕ) → IsOpening f
    → rest_by f after (suc d) ≡ after (suc (suc d))
past_opening (Opens turns) after d opens = refl
past_opening _ after d opens = absurd opens

-- on products
one_product : (m n : ℕ) → 1 ≤ m → 1 ≤ n → 1 ≤ m * n
one_product (suc m) (suc n) one others = omega arith
one_product _ _ one others = absurd (omega arith)

loop_share : (turns product first second others : ℕ) →
    product * (1 + (turns * first + second)) + others
    ≡ product + (turns * product * first + (product * second + others))
loop_share turns product first second others = omega arith

one_more : (product first others : ℕ)
    → product * (1 + first) + others ≡ product + (product * first + others)
one_more product first others = omega arith

product_lt : (product m n : ℕ) → 1 ≤ product → n < m → product * m ≤ product * n → ⊥
product_lt zero m n some lt le = absurd (omega arith)
product_lt (suc k) m n some lt le =
    let more : k * n ≤ k * m = mul-le k n k m (omega arith) (omega arith) in
    let left : suc k * m ≡ k * m + m = omega arith in
    let right : suc k * n ≡ k * n + n = omega arith in
    omega arith

product_le : (product m n : ℕ) → 1 ≤ product → product * m ≤ product * n → m ≤ n
product_le product m n some le =
    elim (cases_lt n m) [ inl lt ↦ absurd (product_lt product m n some lt le) | inr h ↦ h ]

-- what is left on all levels, each once
abbrev pub summed : List ℕ → (ℕ → ℕ) → ℕ
summed [] left = left 0
summed (q ∷ loops) left = left 0 + summed loops (λ d. left (suc d))

pub summed_same : (loops : List ℕ) (left other : ℕ → ℕ) → ((d : ℕ) → left d ≡ other d)
    → summed loops left ≡ summed loops other
summed_same [] left other same = same 0
summed_same (q ∷ loops) left other same =
    rw (same 0, summed_same loops (λ d. left (suc d)) (λ d. other (suc d)) (λ d. same (suc d))) refl

drop_all : (code : List Instr) → drop (length code) code ≡ []
drop_all [] = refl
drop_all (i ∷ code) = drop_all code

module _ (code : List Instr) where
  -- a position is directly inside the body of the loop that opens at q, round which are these
  pub record IsInside (p q : ℕ) (outer : List ℕ) : Type 0 where
    pub before : q < p
    pub within : q < length code
    pub loop : IsLoop (slice_get code q)
    pub round : outer ≡ open_at code q
    pub level : (d : ℕ) → rest (drop p code) (suc d) ≡ rest (drop (suc q) code) (suc d)

  abbrev pub Chain : ℕ → List ℕ → Type 0
  Chain p [] = ⊤
  Chain p (q ∷ outer) = IsInside p q outer × Chain q outer

  -- a later position on the same level
  chain_later : (p later : ℕ) (loops : List ℕ) → p ≤ later
      → ((d : ℕ) → rest (drop later code) (suc d) ≡ rest (drop p code) (suc d)) → Chain p loops
      → Chain later loops
  chain_later p later [] le same h = tt
  chain_later p later (q ∷ outer) le same h = (
    record {
      before = (let l : q < p = h.0.before in omega arith);
      within = h.0.within;
      loop = h.0.loop;
      round = h.0.round;
      level = λ d. same d ∙ h.0.level d;
    },
    h.1,
  )

  past_loop : (q : ℕ) (i : Option Instr) → slice_get code q ≡ i → IsLoop i → (d : ℕ)
      → rest (drop q code) (suc d) ≡ rest (drop (suc q) code) (suc (suc d))
  past_loop q None here loop d = absurd loop
  past_loop q (Some i) here loop d =
      rw (from_here code q i here) (past_opening (flow_of i) (rest (drop (suc q) code)) d loop)

  chain_closed : (p : ℕ) (loops : List ℕ)
      → ((d : ℕ) → rest (drop p code) (suc d) ≡ rest (drop (suc p) code) d) → Chain p loops
      → Chain (suc p) (drop 1 loops)
  chain_closed p [] ended h = tt
  chain_closed p (q ∷ outer) ended h =
      let before : q < p = h.0.before in
      chain_later q (suc p) outer (omega arith)
      (λ d. sym (ended (suc d)) ∙ h.0.level (suc d)
      ∙ sym (past_loop q (slice_get code q) refl h.0.loop d))
      h.1

  something_there : (p : ℕ) → slice_get code p ≡ None → p < length code → ⊥
  something_there p h within =
      let there : slice_get code p ≡ Some (get_or code p End) = slice_get-get_or code p End within
      in
      let no : None ≡ Some (get_or code p End) = sym h ∙ there in
      cc

  chain_by : (p : ℕ) (f : Flow) (loops : List ℕ) → p < length code → loops ≡ open_at code p
      → ((d : ℕ) → rest (drop p code) d ≡ rest_by f (rest (drop (suc p) code)) d)
      → (IsOpening f → IsLoop (slice_get code p))
      → Chain p loops → Chain (suc p) (open_by f p loops)
  chain_by p (Opens turns) loops within round here opens h = (
    record {
      before = omega arith;
      within = within;
      loop = opens tt;
      round = round;
      level = λ d.
          refl;
    },
    h,
  )
  chain_by p Closes loops within round here opens h = chain_closed p loops (λ d. here (suc d)) h
  chain_by p _ loops within round here opens h =
      chain_later p (suc p) loops (omega arith) (λ d. sym (here (suc d))) h

  chain_after : (p : ℕ) (i : Option Instr) (loops : List ℕ) → slice_get code p ≡ i → p < length code
      → loops ≡ open_at code p → Chain p loops → Chain (suc p) (open_after i p loops)
  chain_after p None loops here within round h = absurd (something_there p here within)
  chain_after p (Some i) loops here within round h =
      chain_by p (flow_of i) loops within round (λ d. rw (from_here code p i here) refl)
      (λ opens. rw here opens) h

  pub chain : (p : ℕ) → p ≤ length code → Chain p (open_at code p)
  chain zero le = tt
  chain (suc p) le =
      chain_after p (slice_get code p) (open_at code p) refl (omega arith) refl
      (chain p (omega arith))

  -- in a routine whose instructions stand where they may, each loop has an end
  abbrev pub IsFormed : Type 0
  IsFormed = (p : ℕ) → p < length code → is_malformed code p ≡ false

  closed_by : (q : ℕ) (f : Flow) → is_misplaced_by code q f ≡ false → IsOpening f
      → is_closed code q ≡ true
  closed_by q (Opens turns) placed opens = not_false (is_closed code q) (or_left _ _ placed)
  closed_by q _ placed opens = absurd opens

  closed_if : (q : ℕ) (i : Option Instr) → is_misplaced code q i ≡ false → IsLoop i
      → is_closed code q ≡ true
  closed_if q None placed loop = absurd loop
  closed_if q (Some i) placed loop = closed_by q (flow_of i) placed loop

  all_closed : (p : ℕ) (loops : List ℕ) → IsFormed → Chain p loops
      → filter (is_closed code) loops ≡ loops
  all_closed p [] formed h = refl
  all_closed p (q ∷ outer) formed h =
      let closed : is_closed code q ≡ true =
      closed_if q (slice_get code q) (placed code q (formed q h.0.within)) h.0.loop
      in
      rw closed (ap (λ (loops : List ℕ). q ∷ loops) (all_closed q outer formed h.1))

  pub round_open : (p : ℕ) → IsFormed → p ≤ length code → loops_round code p ≡ open_at code p
  round_open p formed le = all_closed p (open_at code p) formed (chain p le)

  -- the turns of all loops are some
  abbrev pub HasTurns : Type 0
  HasTurns = (p turns : ℕ) → slice_get code p ≡ Some (Loop turns) → 1 ≤ turns

  some_turns_of : (q : ℕ) (i : Option Instr) → HasTurns → slice_get code q ≡ i → 1 ≤ turns_of i
  some_turns_of q None turns here = omega arith
  some_turns_of q (Some (Loop n)) turns here = turns q n here
  some_turns_of q (Some _) turns here = omega arith

  some_product : (loops : List ℕ) → HasTurns → 1 ≤ turns_product code loops
  some_product [] turns = omega arith
  some_product (q ∷ loops) turns =
      let one : 1 ≤ turns_of (slice_get code q) = some_turns_of q (slice_get code q) turns refl in
      let others : 1 ≤ turns_product code loops = some_product loops turns in
      one_product (turns_of (slice_get code q)) (turns_product code loops) one others

  -- what is left on each level, as often as the loops round it turn
  abbrev pub weighted : List ℕ → (ℕ → ℕ) → ℕ
  weighted [] left = left 0
  weighted (q ∷ loops) left =
      turns_product code (q ∷ loops) * left 0 + weighted loops (λ d. left (suc d))

  weighted_same : (loops : List ℕ) (left other : ℕ → ℕ) → ((d : ℕ) → left d ≡ other d)
      → weighted loops left ≡ weighted loops other
  weighted_same [] left other same = same 0
  weighted_same (q ∷ loops) left other same =
      rw (same 0, weighted_same loops (λ d. left (suc d)) (λ d. other (suc d)) (λ d. same (suc d)))
      refl

  weighted_none : (loops : List ℕ) → weighted loops (λ d. 0) ≡ 0
  weighted_none [] = refl
  weighted_none (q ∷ loops) =
      omega (arith, weighted_none loops)

  -- executing one instruction takes its share
  module _ (after : ℕ → ℕ) where
    weighted_loop : (p turns : ℕ) (loops : List ℕ) → turns_of (slice_get code p) ≡ turns
        → weighted loops (rest_by (Opens turns) after) ≡ turns_product code loops + weighted
        (p ∷ loops) after
    weighted_loop p turns [] here = rw here (omega arith)
    weighted_loop p turns (q ∷ loops) here =
        rw here (loop_share turns (turns_product code (q ∷ loops)) (after 0) (after 1)
        (weighted loops (λ d. after (suc (suc d)))))

    weighted_plain : (loops : List ℕ) (left : ℕ → ℕ) → left 0 ≡ 1 + after 0
        → ((d : ℕ) → left (suc d) ≡ after (suc d))
        → weighted loops left ≡ turns_product code loops + weighted loops after
    weighted_plain [] left first others = first
    weighted_plain (q ∷ loops) left first others =
        let same : weighted loops (λ d. left (suc d)) ≡ weighted loops (λ d. after (suc d)) =
        weighted_same loops (λ d. left (suc d)) (λ d. after (suc d)) others
        in
        rw (first, same)
        (one_more (turns_product code (q ∷ loops)) (after 0)
        (weighted loops (λ d. after (suc d))))

    weighted_by : (p : ℕ) (f : Flow) (loops : List ℕ) → turns_of (slice_get code p) ≡ turns_in f
        → is_misplaced_by code p f ≡ false → loops ≡ open_at code p
        → weighted loops (rest_by f after) ≡ turns_product code loops
        + weighted (open_by f p loops) after
    weighted_by p (Opens turns) loops here placed round = weighted_loop p turns loops here
    weighted_by p Closes [] here placed round =
        let no : nat_eq (length (open_at code p)) 0 ≡ true = rw (← round) refl in cc
    weighted_by p Closes (q ∷ loops) here placed round = omega arith
    weighted_by p _ loops here placed round = weighted_plain loops _ refl (λ d. refl)

  weighted_step : (p : ℕ) (i : Option Instr) (loops : List ℕ) → slice_get code p ≡ i
      → p < length code → is_misplaced code p i ≡ false → loops ≡ open_at code p →
      weighted loops (rest (drop p code)) ≡ turns_product code loops
      + weighted (open_after i p loops)
      (rest (drop (suc p) code))
  weighted_step p None loops here within placed round = absurd (something_there p here within)
  weighted_step p (Some i) loops here within placed round =
      rw (from_here code p i here)
      (weighted_by (rest (drop (suc p) code)) p (flow_of i) loops (ap turns_of here) placed round)

  -- the certificate is what was counted before a position, and what is left there
  counted : (p : ℕ) → IsFormed → p ≤ length code →
      certificate_to code p + weighted (open_at code p) (rest (drop p code)) ≡ rest code 0
  counted zero formed le = omega arith
  counted (suc p) formed le =
      let before : certificate_to code p + weighted (open_at code p) (rest (drop p code))
      ≡ rest code 0 =
      counted p formed (omega arith) in
      let step : weighted (open_at code p) (rest (drop p code))
      ≡ turns_product code (open_at code p)
      + weighted (open_at code (suc p)) (rest (drop (suc p) code)) =
      weighted_step p (slice_get code p) (open_at code p) refl (omega arith)
      (placed code p (formed p (omega arith))) refl
      in
      let turns : turns_at code p ≡ turns_product code (open_at code p) =
      ap (turns_product code) (round_open p formed (omega arith)) in
      omega arith

  -- what a routine executes in all is its certificate
  pub certified : IsFormed → rest code 0 ≡ certificate code
  certified formed =
      let all : certificate code + weighted (open_at code (length code))
      (rest (drop (length code) code))
      ≡ rest code 0 =
      counted (length code) formed (omega arith)
      in
      let none : weighted (open_at code (length code)) (rest (drop (length code) code)) ≡ 0 =
      rw (drop_all code) (weighted_none (open_at code (length code)))
      in
      omega arith

  certificate_rises : (p more : ℕ) → certificate_to code p ≤ certificate_to code (p + more)
  certificate_rises p zero = let same : p + zero ≡ p = omega arith in rw same (omega arith)
  certificate_rises p (suc more) =
      let before : certificate_to code p ≤ certificate_to code (p + more) = certificate_rises p more
      in
      let same : p + suc more ≡ suc (p + more) = omega arith in
      rw same (omega arith)

  certificate_le : (p later : ℕ) → p ≤ later → certificate_to code p ≤ certificate_to code later
  certificate_le p later le =
      let same : p + (later - p) ≡ later = omega arith in
      subst (λ (q : ℕ). certificate_to code p ≤ certificate_to code q) same
      (certificate_rises p (later - p))

  -- further on inside the same loops less is left, and outside of them the same
  first_le : (loops : List ℕ) (p later : ℕ) → HasTurns → Chain p loops → Chain later loops
      → weighted loops (rest (drop later code)) ≤ weighted loops (rest (drop p code))
      → rest (drop later code) 0 ≤ rest (drop p code) 0
  first_le [] p later turns h there le = le
  first_le (q ∷ loops) p later turns h there le =
      let same : weighted loops (λ d. rest (drop later code) (suc d)) ≡ weighted loops
      (λ d. rest (drop p code) (suc d)) =
      weighted_same loops (λ d. rest (drop later code) (suc d)) (λ d. rest (drop p code) (suc d))
      (λ d. there.0.level d ∙ sym (h.0.level d))
      in
      let some : 1 ≤ turns_product code (q ∷ loops) = some_product (q ∷ loops) turns in
      product_le (turns_product code (q ∷ loops)) (rest (drop later code) 0) (rest (drop p code) 0)
      some (omega arith)

  summed_le : (loops : List ℕ) (p later : ℕ) → Chain p loops → Chain later loops
      → rest (drop later code) 0 ≤ rest (drop p code) 0 → summed loops (rest (drop later code))
      ≤ summed loops (rest (drop p code))
  summed_le [] p later h there le = le
  summed_le (q ∷ loops) p later h there le =
      let same : summed loops (λ d. rest (drop later code) (suc d))
      ≡ summed loops (λ d. rest (drop p code) (suc d)) =
      summed_same loops (λ d. rest (drop later code) (suc d)) (λ d. rest (drop p code) (suc d))
      (λ d. there.0.level d ∙ sym (h.0.level d))
      in
      omega arith

  -- a jump forward inside the same loops leaves no more to execute
  pub forward_le : (p later : ℕ) → IsFormed → HasTurns → p ≤ later → later ≤ length code
      → open_at code later ≡ open_at code p
      → summed (open_at code p) (rest (drop later code))
      ≤ summed (open_at code p) (rest (drop p code))
  forward_le p later formed turns le within same =
      let h : Chain p (open_at code p) = chain p (omega arith) in
      let there : Chain later (open_at code p) = subst (λ (loops : List ℕ). Chain later loops) same
      (chain later within) in
      let all : certificate_to code p + weighted (open_at code p) (rest (drop p code))
      ≡ rest code 0 =
      counted p formed (omega arith) in
      let all_later : certificate_to code later + weighted (open_at code later)
      (rest (drop later code))
      ≡ rest code 0 = counted later formed within in
      let weigh : weighted (open_at code later) (rest (drop later code)) ≡ weighted (open_at code p)
      (rest (drop later code)) =
      ap (λ (loops : List ℕ). weighted loops (rest (drop later code))) same in
      let rises : certificate_to code p ≤ certificate_to code later = certificate_le p later le in
      summed_le (open_at code p) p later h there
      (first_le (open_at code p) p later turns h there (omega arith))
