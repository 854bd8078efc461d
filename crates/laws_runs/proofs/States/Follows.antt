-- From all paths through a routine to one state at each position: the states through which the
-- local rule leads.
use Rattle.laws_runs.proofs.Prelude.{ap, arith, inl, inr, refl, subst, sym, zero, ◌∙◌, cases_lt, slice_get_within, Bool, List, None, Option, Some, [], false, length, nat_eq, slice_get, suc, true, ℕ, ◌&&◌, ◌+◌, ◌<◌, ◌∷◌, ◌≡◌, ◌≢◌, ◌≤◌, ◌⊎◌, entered_with, entry_state, outs, outs_by, refuses, rule_or, with_kind, open_at, Along, Arrives, HandsOn, LeadsFrom, goes_forward, is_malformed, is_misplaced, is_misplaced_by, Branches, Flow, Jumps, Leaves, Member, Set, default_code, default_number, default_routine, flow_of, label_in, label_of, member, ArrivesAlone, IsTypableRoutine, fault_in, Abs, Finished, Fresh, NoDuty, New, Rule, Open, SettledMark, Instr, End}
use Rattle.std.proofs.Common.{Ok, eq-eqb}
use Rattle.model.specs.declared.abs.Kind.TheVariants.{Blank}
use Rattle.model.specs.declared.abs.Outs.{Outs}
use Rattle.model.specs.Paths.{goes_on_by, isnt_return}
use Rattle.model.specs.Typable.{ReachesLoop, ClosesAlike, ClosesAlikeBy, IsFineAt}
use Rattle.laws_runs.proofs.Tests.{or_left, or_right, and_left, and_right, not_false, lt_of}

-- what the local rule hands on from a position, and the label of the instruction there
abbrev pub next_state : Set → ℕ → Abs → Option Instr → Option Abs
next_state set driver s None = None
next_state set driver s (Some i) = (outs set driver s i).next

abbrev pub jump_state : Set → ℕ → Abs → Option Instr → Option Abs
jump_state set driver s None = None
jump_state set driver s (Some i) = (outs set driver s i).jump

abbrev pub label_at : Option Instr → Option ℕ
label_at None = None
label_at (Some i) = label_of i

-- a state for each position of a routine, through which the local rule leads
pub record Follows (m : Member) (state : ℕ → Abs) : Type 0 where
  pub some : 0 < length m.routine.code
  pub arrives : (p : ℕ) → p < length m.routine.code → Arrives m p (state p)
  pub start : entry_state m ≡ Some (state 0)
  pub formed : (p : ℕ) → p < length m.routine.code → is_malformed m.routine.code p ≡ false
  pub keeps : (p : ℕ) → p < length m.routine.code
      → fault_in m (state p) (slice_get m.routine.code p) ≡ None
  pub next : (p : ℕ) (s : Abs) → p < length m.routine.code
      → next_state m.set m.driver (state p) (slice_get m.routine.code p) ≡ Some s
      → (p + 1 < length m.routine.code) × (state (p + 1) ≡ s)
  pub jump : (p label : ℕ) (s : Abs) → p < length m.routine.code
      → label_at (slice_get m.routine.code p) ≡ Some label
      → jump_state m.set m.driver (state p) (slice_get m.routine.code p) ≡ Some s
      → (label < length m.routine.code) × (state label ≡ s)
  pub closes : (p q : ℕ) → p < length m.routine.code → slice_get m.routine.code p ≡ Some End
      → slice_get (open_at m.routine.code p) 0 ≡ Some q → state q ≡ state p

abbrev pub Typed : Member → Type 0
Typed m = (state : ℕ → Abs) × Follows m state

-- where an instruction hands on, there is a position
not_last : (last goes_on : Bool) → last ≡ true → goes_on ≡ true → (last && goes_on) ≡ false → ⊥
not_last last goes_on l g h = let yes : (last && goes_on) ≡ true = rw (l, g) refl in cc

next_goes_on : (f : Flow) (next jump after : Abs) → (outs_by f next jump).next ≡ Some after
    → goes_on_by f ≡ true
next_goes_on Leaves next jump after h = cc
next_goes_on _ next jump after h = refl

next_isnt_return : (set : Set) (driver : ℕ) (s : Abs) (i : Option Instr) (after : Abs)
    → next_state set driver s i ≡ Some after → isnt_return i ≡ true
next_isnt_return set driver s None after h = refl
next_isnt_return set driver s (Some i) after h = next_goes_on (flow_of i) _ _ after h

pub next_within : (set : Set) (driver : ℕ) (code : List Instr) (p : ℕ) (s after : Abs)
    → p < length code → is_malformed code p ≡ false
    → next_state set driver s (slice_get code p) ≡ Some after → p + 1 < length code
next_within set driver code p s after within formed h =
    let last : (nat_eq (p + 1) (length code) && isnt_return (slice_get code p)) ≡ false =
    or_left _ _ (or_right (nat_eq (length code) 0) _ formed) in
    let differs : p + 1 ≢ length code =
    λ same. not_last (nat_eq (p + 1) (length code)) (isnt_return (slice_get code p))
    (eq-eqb (p + 1) (length code) same) (next_isnt_return set driver s (slice_get code p) after h)
    last
    in
    omega arith

pub placed : (code : List Instr) (p : ℕ) → is_malformed code p ≡ false
    → is_misplaced code p (slice_get code p)
    ≡ false
placed code p formed =
    or_right (nat_eq (p + 1) (length code) && isnt_return (slice_get code p)) _
    (or_right (nat_eq (length code) 0) _ formed)

forward_by : (code : List Instr) (p label : ℕ) (f : Flow) → label_in f ≡ Some label
    → is_misplaced_by code p f ≡ false → goes_forward code p label ≡ true
forward_by code p label (Branches l) h m =
    let same : l ≡ label = cc in rw (← same) (not_false (goes_forward code p l) m)
forward_by code p label (Jumps l) h m =
    let same : l ≡ label = cc in rw (← same) (not_false (goes_forward code p l) m)
forward_by code p label _ h m = cc

forward_in : (code : List Instr) (p label : ℕ) (i : Option Instr) → label_at i ≡ Some label
    → is_misplaced code p i ≡ false → goes_forward code p label ≡ true
forward_in code p label None h m = cc
forward_in code p label (Some i) h m = forward_by code p label (flow_of i) h m

pub goes_to_label : (code : List Instr) (p label : ℕ) → is_malformed code p ≡ false
    → label_at (slice_get code p) ≡ Some label → goes_forward code p label ≡ true
goes_to_label code p label formed h =
    forward_in code p label (slice_get code p) h (placed code p formed)

-- a routine that something arrives at is entered in a state
entered_along : (m : Member) (path : List ℕ) (p : ℕ) (s : Abs) → Along m (p ∷ path) s
    → (entry : Abs) × (entry_state m ≡ Some entry)
entered_along m [] p s h = (s, h.1)
entered_along m (q ∷ path) p s h = entered_along m path q h.0 h.1

-- what is said of a fine position, of the state there
record FineIn (m : Member) (p : ℕ) (state : Abs) : Type 0 where
  formed : is_malformed m.routine.code p ≡ false
  arrival : ArrivesAlone m p state
  closes : ClosesAlike m p state (slice_get m.routine.code p)
  keeps : fault_in m state (slice_get m.routine.code p) ≡ None

hands_next : (m : Member) (i : Option Instr) (q : ℕ) (before s : Abs) → fault_in m before i ≡ None
    → next_state m.set m.driver before i ≡ Some s
    → LeadsFrom m i q before (q + 1) s
hands_next m None q before s keeps h = cc
hands_next m (Some i) q before s keeps h =
    let on : HandsOn (Ok (outs m.set m.driver before i)) (label_of i) q (q + 1) s = inl (refl, h) in
    subst (λ (rule : Option Rule).
    HandsOn (rule_or rule (outs m.set m.driver before i)) (label_of i) q (q + 1) s)
    (sym keeps) on

hands_jump : (m : Member) (i : Option Instr) (q label : ℕ) (before s : Abs)
    → fault_in m before i ≡ None
    → label_at i ≡ Some label
    → jump_state m.set m.driver before i ≡ Some s → LeadsFrom m i q before label s
hands_jump m None q label before s keeps there h = cc
hands_jump m (Some i) q label before s keeps there h =
    let on : HandsOn (Ok (outs m.set m.driver before i)) (label_of i) q label s = inr (there, h) in
    subst (λ (rule : Option Rule).
    HandsOn (rule_or rule (outs m.set m.driver before i)) (label_of i) q label s)
    (sym keeps) on

-- the loops of a routine are before a position, which the caller shows
abbrev pub LoopsBefore : Member → Type 0
LoopsBefore m = (p q : ℕ) → p ≤ length m.routine.code
    → slice_get (open_at m.routine.code p) 0 ≡ Some q
    → q < length m.routine.code

-- an accepted routine: at each of its positions, the one state that arrives there
module _ (m : Member) (typable : IsTypableRoutine m) where
  abbrev Within : ℕ → Type 0
  Within p = p < length m.routine.code

  abbrev fine_state : (p : ℕ) → Within p ⊎ (length m.routine.code ≤ p) → Abs
  fine_state p (inl within) = (typable.each p within).state
  fine_state p (inr past) = entered_with Blank NoDuty Open false

  abbrev state_at : ℕ → Abs
  state_at p = fine_state p (cases_lt p (length m.routine.code))

  fine_in : (p : ℕ) (place : Within p ⊎ (length m.routine.code ≤ p)) → Within p
      → FineIn m p (fine_state p place)
  fine_in p (inl within) h =
      let fine : IsFineAt m p = typable.each p within in
      record {
        formed = fine.formed;
        arrival = fine.arrival;
        closes = fine.closes;
        keeps =
            fine.keeps;
      }
  fine_in p (inr past) h = absurd (omega arith)

  fine_at : (p : ℕ) → Within p → FineIn m p (state_at p)
  fine_at p h = fine_in p (cases_lt p (length m.routine.code)) h

  -- where an arrival goes on, it arrives
  leads_same : (q p : ℕ) (s : Abs) → Within q → Within p
      → LeadsFrom m (slice_get m.routine.code q) q (state_at q) p s → state_at p ≡ s
  leads_same q p s below within leads =
      let fine : FineIn m q (state_at q) = fine_at q below in
      let path : List ℕ = fine.arrival.arrives.0 in
      let goes_on : Arrives m p s =
      (q ∷ path, (state_at q, fine.arrival.arrives.1, (fine.formed, leads))) in
      sym ((fine_at p within).arrival.alone s goes_on)

  closes_in : (q : ℕ) (s : Abs) (o : Option ℕ) → o ≡ Some q → Within q → ReachesLoop m o s
      → state_at q ≡ s
  closes_in q s None same within h = cc
  closes_in q s (Some r) same within h =
      let one : r ≡ q = cc in
      let there : ArrivesAlone m q s = subst (λ (x : ℕ). ArrivesAlone m x s) one h in
      there.alone (state_at q) (fine_at q within).arrival.arrives

  closes_at : (p q : ℕ) (s : Abs) (i : Option Instr) → i ≡ Some End
      → slice_get (open_at m.routine.code p) 0 ≡ Some q → Within q → ClosesAlike m p s i
      → state_at q ≡ s
  closes_at p q s None here same within h = cc
  closes_at p q s (Some i) here same within h =
      let end : i ≡ End = cc in
      closes_in q s (slice_get (open_at m.routine.code p) 0) same within
      (subst (λ (x : Instr). ClosesAlikeBy m p s (flow_of x)) end h)

  starts : Within 0 → entry_state m ≡ Some (state_at 0)
  starts some =
      let first : ArrivesAlone m 0 (state_at 0) = (fine_at 0 some).arrival in
      let entry : (e : Abs) × (entry_state m ≡ Some e) =
      entered_along m first.arrives.0 0 (state_at 0) first.arrives.1 in
      entry.1 ∙ ap (λ (s : Abs). Some s) (first.alone entry.0 ([], (refl, entry.1)))

  pub typed : LoopsBefore m → Typed m
  typed before = (
    state_at,
    record {
      some = (let none : length m.routine.code ≢ 0 = typable.some in omega arith);
      arrives = λ p h. (fine_at p h).arrival.arrives;
      start = starts (let none : length m.routine.code ≢ 0 = typable.some in omega arith);
      formed = λ p h. (fine_at p h).formed;
      keeps = λ p h. (fine_at p h).keeps;
      next = λ p s h leads.
          let fine : FineIn m p (state_at p) = fine_at p h in
          let within : p + 1 < length m.routine.code =
          next_within m.set m.driver m.routine.code p (state_at p) s h fine.formed leads in (
            within,
            leads_same p (p + 1) s h within
                (hands_next m (slice_get m.routine.code p) p (state_at p) s fine.keeps leads),
          );
      jump = λ p label s h there leads.
          let fine : FineIn m p (state_at p) = fine_at p h in
          let forward : goes_forward m.routine.code p label ≡ true =
          goes_to_label m.routine.code p label fine.formed there in
          let within : label < length m.routine.code =
          lt_of label (length m.routine.code) (and_left _ _ (and_right _ _ forward)) in (
            within,
            leads_same p label s h within
                (hands_jump m (slice_get m.routine.code p) p label (state_at p) s fine.keeps there
                leads),
          );
      closes = λ p q h here open_there.
          closes_at p q (state_at p) (slice_get m.routine.code p) here open_there
          (before p q (omega arith) open_there) (fine_at p h).closes;
    },
  )

-- the default routine: its packet is new at first, and then completed
abbrev default_entry : Abs
default_entry = entered_with New Fresh SettledMark false

abbrev default_completed : Abs
default_completed = record (with_kind default_entry 0 Blank) { duty = Finished }

abbrev default_state : ℕ → Abs
default_state zero = default_entry
default_state (suc p) = default_completed

module _ (set : Set) (driver : ℕ) where
  abbrev default_member : Member
  default_member = member set driver default_number default_routine

  default_formed : (p : ℕ) → p < 2 → is_malformed default_code p ≡ false
  default_formed zero h = refl
  default_formed (suc zero) h = refl
  default_formed (suc (suc p)) h = absurd (omega arith)

  default_arrives : (p : ℕ) → p < 2 → Arrives default_member p (default_state p)
  default_arrives zero h = ([], (refl, refl))
  default_arrives (suc zero) h = (0 ∷ [], (default_entry, (refl, refl), (refl, inl (refl, refl))))
  default_arrives (suc (suc p)) h = absurd (omega arith)

  default_keeps : (p : ℕ) → p < 2
      → fault_in default_member (default_state p) (slice_get default_code p) ≡ None
  default_keeps zero h = refl
  default_keeps (suc zero) h = refl
  default_keeps (suc (suc p)) h = absurd (omega arith)

  default_next : (p : ℕ) (s : Abs) → p < 2
      → next_state set driver (default_state p) (slice_get default_code p) ≡ Some s
      → (p + 1 < 2) × (default_state (p + 1) ≡ s)
  default_next zero s h leads = (omega arith, cc)
  default_next (suc zero) s h leads = cc
  default_next (suc (suc p)) s h leads = absurd (omega arith)

  default_jump : (p label : ℕ) → p < 2 → label_at (slice_get default_code p) ≡ Some label → ⊥
  default_jump (suc (suc p)) label h there = absurd (omega arith)
  default_jump _ label h there = cc

  default_ends : (p : ℕ) → p < 2 → slice_get default_code p ≡ Some End → ⊥
  default_ends (suc (suc p)) h here = absurd (omega arith)
  default_ends _ h here = cc

  pub default_typed : Typed default_member
  default_typed = (
    default_state,
    record {
      some = omega arith;
      arrives = default_arrives;
      start = refl;
      formed = default_formed;
      keeps = default_keeps;
      next = default_next;
      jump = λ p label s h there leads. absurd (default_jump p label h there);
      closes = λ p q h here open_there. absurd (default_ends p h here);
    },
  )

-- no other state arrives at a position than that of the table
hands_out : (o : Option Rule) (one : Outs) (label : Option ℕ) (q p : ℕ) (s : Abs)
    → HandsOn (rule_or o one) label q p s → HandsOn (Ok one) label q p s
hands_out None one label q p s h = h
hands_out (Some rule) one label q p s h = absurd h

module _ (m : Member) (state : ℕ → Abs) (follows : Follows m state) where
  leads_alone : (q p : ℕ) (before s : Abs) (i : Option Instr) → slice_get m.routine.code q ≡ i
      → before ≡ state q → LeadsFrom m i q before p s → s ≡ state p
  leads_alone q p before s None there is h = absurd h
  leads_alone q p before s (Some i) there is h =
      let within : q < length m.routine.code = slice_get_within m.routine.code q i there in
      elim (hands_out (refuses before i m.routine.sort m.set m.driver)
      (outs m.set m.driver before i) (label_of i) q p s h) [
        | inl next ↦
            let here : (q + 1 < length m.routine.code) × (state (q + 1) ≡ s) =
            follows.next q s within (rw (there, ← is) next.1) in
            rw next.0 (sym here.1)
        | inr jump ↦
            let here : (p < length m.routine.code) × (state p ≡ s) =
            follows.jump q p s within (rw there jump.0) (rw (there, ← is) jump.1) in
            sym here.1
      ]

  pub arrives_alone : (path : List ℕ) (p : ℕ) (s : Abs) → Along m (p ∷ path) s → s ≡ state p
  arrives_alone [] p s h =
      let both : Some s ≡ Some (state 0) = sym h.1 ∙ follows.start in
      let same : s ≡ state 0 = cc in
      rw h.0 same
  arrives_alone (q ∷ path) p s h =
      leads_alone q p h.0 s (slice_get m.routine.code q) refl (arrives_alone path q h.0 h.1) h.2.1

  pub alone_at : (p : ℕ) → p < length m.routine.code → ArrivesAlone m p (state p)
  alone_at p within =
      record {
        arrives = follows.arrives p within;
        alone = λ s other. arrives_alone other.0 p s other.1;
      }
