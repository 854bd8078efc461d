-- Where a loop that ends at a position was opened.
use Rattle.std.proofs.Common.{◌≡◌, ◌≢◌, ◌∙◌, ℕ, zero, suc, ◌<◌, List, [], ◌∷◌, Option, None, Some, refl, arith, sym, subst, ap}
use Rattle.std.specs.Prelude.{⊤, slice_get, drop}
use Rattle.model.specs.declared.abs.Abs.{Abs}
use Rattle.model.specs.declared.instr.Instr.{Instr}
use Rattle.model.specs.declared.instr.Instr.TheVariants.{Const, End}
use Rattle.model.specs.Loops.{open_at, open_after, open_by}
use Rattle.model.specs.Set.{Member, Flow, Onward, Branches, Jumps, Opens, Closes, Leaves, flow_of}
use Rattle.model.specs.Typable.{ArrivesAlone, ClosesUnlike, ClosesUnlikeBy, EndsUnlike, ReachesLoop}

-- the loops that are open before a position are opened below it
abbrev AreBelow : ℕ → List ℕ → Type 0
AreBelow p [] = ⊤
AreBelow p (q ∷ loops) = (q < p) × AreBelow p loops

below_suc : (p : ℕ) (loops : List ℕ) → AreBelow p loops → AreBelow (suc p) loops
below_suc p [] h = tt
below_suc p (q ∷ loops) h =
    let low : q < p = h.0 in (omega arith, below_suc p loops h.1)

below_dropped : (p : ℕ) (loops : List ℕ) → AreBelow p loops → AreBelow p (drop 1 loops)
below_dropped p [] h = h
below_dropped p (q ∷ loops) h = h.1

below_by : (f : Flow) (p : ℕ) (loops : List ℕ) → AreBelow p loops
    → AreBelow (suc p) (open_by f p loops)
below_by Onward p loops h = below_suc p loops h
below_by (Branches label) p loops h = below_suc p loops h
below_by (Jumps label) p loops h = below_suc p loops h
below_by (Opens turns) p loops h = (omega arith, below_suc p loops h)
below_by Closes p loops h = below_suc p (drop 1 loops) (below_dropped p loops h)
below_by Leaves p loops h = below_suc p loops h

below_after : (i : Option Instr) (p : ℕ) (loops : List ℕ) → AreBelow p loops
    → AreBelow (suc p) (open_after i p loops)
below_after None p loops h = below_suc p loops h
below_after (Some i) p loops h = below_by (flow_of i) p loops h

open_below : (code : List Instr) (p : ℕ) → AreBelow p (open_at code p)
open_below code zero = tt
open_below code (suc p) =
    below_after (slice_get code p) p (open_at code p) (open_below code p)

first_below : (p q : ℕ) (loops : List ℕ) → AreBelow p loops → slice_get loops 0 ≡ Some q → q < p
first_below p q [] h first = cc
first_below p q (r ∷ loops) h first =
    let same : r ≡ q = cc in subst (λ (x : ℕ). x < p) same h.0

opened_below : (code : List Instr) (p q : ℕ) → slice_get (open_at code p) 0 ≡ Some q → q < p
opened_below code p q first = first_below p q (open_at code p) (open_below code p) first

-- only an `end` closes a loop
closes_end : (i : Instr) → flow_of i ≡ Closes → i ≡ End
closes_end (Const r n) is = cc
closes_end End is = refl
closes_end i is = cc

-- a loop's start, and the state that arrives there
pub record IsStart (m : Member) (at q : ℕ) (s : Abs) : Type 0 where
  pub closes : slice_get m.routine.code at ≡ Some End
  pub opened : slice_get (open_at m.routine.code at) 0 ≡ Some q
  pub start : Abs
  pub arrival : ArrivesAlone m q start
  pub differs : start ≢ s

pub record HasStart (m : Member) (at : ℕ) (s : Abs) : Type 0 where
  pub place : ℕ
  pub is : IsStart m at place s

start_by : (m : Member) (at : ℕ) (s start : Abs) (q : Option ℕ)
    → slice_get m.routine.code at ≡ Some End → slice_get (open_at m.routine.code at) 0 ≡ q
    → ReachesLoop m q start → start ≢ s → HasStart m at s
start_by m at s start None closes opened reaches differs = absurd reaches
start_by m at s start (Some q) closes opened reaches differs = record {
  place = q;
  is = record {
    closes = closes;
    opened = opened;
    start = start;
    arrival = reaches;
    differs = differs;
  };
}

flow_start : (m : Member) (at : ℕ) (s : Abs) (i : Instr) (f : Flow) → flow_of i ≡ f
    → slice_get m.routine.code at ≡ Some i → ClosesUnlikeBy m at s f → HasStart m at s
flow_start m at s i Onward is here h = absurd h
flow_start m at s i (Branches label) is here h = absurd h
flow_start m at s i (Jumps label) is here h = absurd h
flow_start m at s i (Opens turns) is here h = absurd h
flow_start m at s i Closes is here h =
    start_by m at s h.0 (slice_get (open_at m.routine.code at) 0)
    (here ∙ ap (λ (x : Instr). Some x) (closes_end i is)) refl h.1 h.2
flow_start m at s i Leaves is here h = absurd h

instr_start : (m : Member) (at : ℕ) (s : Abs) (i : Option Instr)
    → slice_get m.routine.code at ≡ i → ClosesUnlike m at s i → HasStart m at s
instr_start m at s None here h = absurd h
instr_start m at s (Some i) here h = flow_start m at s i (flow_of i) refl here h

start_of : (m : Member) (at : ℕ) → (h : EndsUnlike m at) → HasStart m at h.state
start_of m at h = instr_start m at h.state (slice_get m.routine.code at) refl h.closes

pub start_at : (m : Member) (at q : ℕ) → (h : EndsUnlike m at)
    → slice_get (open_at m.routine.code at) 0 ≡ Some q → IsStart m at q h.state
start_at m at q h first =
    let has : HasStart m at h.state = start_of m at h in
    let opened : slice_get (open_at m.routine.code at) 0 ≡ Some has.place = has.is.opened in
    let same : has.place ≡ q = cc in
    subst (λ (p : ℕ). IsStart m at p h.state) same has.is

-- it is below the end
pub start_below : (m : Member) (at q : ℕ) (code : List Instr) (found : Option ℕ)
    → code ≡ m.routine.code → found ≡ slice_get (open_at code at) 0 → found ≡ Some q
    → (slice_get (open_at m.routine.code at) 0 ≡ Some q) × (q < at)
start_below m at q code found same told is =
    let first : slice_get (open_at m.routine.code at) 0 ≡ Some q =
    ap (λ (list : List Instr). slice_get (open_at list at) 0) (sym same) ∙ sym told ∙ is in
    (first, opened_below m.routine.code at q first)
