-- One position more on the way to a place.
use Rattle.std.proofs.Common.{◌≡◌, ℕ, ◌<◌, ◌+◌, inl, inr, List, ◌∷◌, length, Option, None, Some, Result, Ok, Err, false, refl, arith, sym, subst, ap}
use Rattle.std.specs.Prelude.{slice_get}
use Rattle.model.specs.declared.abs.Abs.{Abs}
use Rattle.model.specs.declared.abs.Outs.{Outs}
use Rattle.model.specs.declared.abs.Rule.{Rule}
use Rattle.model.specs.declared.instr.Instr.{Instr}
use Rattle.model.specs.LocalRule.{local_rule}
use Rattle.model.specs.Paths.{Arrives, HandsOn, Leads, LeadsFrom, is_malformed}
use Rattle.model.specs.Set.{Member, label_of}
use Rattle.verifier_evidence.specs.declared.arrivals.Arrival.{Arrival}
use Rattle.verifier_evidence.specs.Table.{HasArrival, noted, noted_out, noted_outs, noted_result, passed_by, passed_on, IsReached, IsTraced}
use Rattle.verifier_evidence.proofs.Forward.{leads_up}
use Rattle.verifier_evidence.proofs.Table.{IsGrown, grown_none, grown_twice, noted_grown, noted_there, noted_traced}

abbrev pub from_there : ℕ → Abs → Arrival
from_there from s = record { from = Some from; state = s }

-- what is handed on from an arrival is one
pub reached_next : (m : Member) (table : List (Option Arrival)) (q : ℕ) (a : Arrival) (p : ℕ)
    (s : Abs) → IsTraced m table → slice_get table q ≡ Some (Some a) → Leads m q a.state p s
    → IsReached m table p (from_there q s)
reached_next m table q a p s traced there leads =
    let arrives : Arrives m q a.state = (traced q a there).arrives in
    record {
      comes = record {
        below = leads_up m q a.state p s leads;
        before = a;
        there = there;
        leads = leads;
      };
      arrives = (q ∷ arrives.0, (a.state, arrives.1, leads));
    }

-- one state that is handed on, or none
out_grown : (to : Option ℕ) (s : Option Abs) (from : ℕ) (table : List (Option Arrival))
    → IsGrown table (noted_out to s from table)
out_grown None s from table = grown_none table
out_grown (Some to) None from table = grown_none table
out_grown (Some to) (Some s) from table = noted_grown table to (from_there from s)

out_traced : (m : Member) (to : Option ℕ) (s : Option Abs) (from : ℕ)
    (table : List (Option Arrival)) (a : Arrival) → IsTraced m table
    → slice_get table from ≡ Some (Some a)
    → ((p : ℕ) (x : Abs) → to ≡ Some p → s ≡ Some x → Leads m from a.state p x)
    → IsTraced m (noted_out to s from table)
out_traced m None s from table a traced there leads = traced
out_traced m (Some to) None from table a traced there leads = traced
out_traced m (Some to) (Some s) from table a traced there leads =
    noted_traced m table to (from_there from s) traced
    (reached_next m table from a to s traced there (leads to s refl refl))

out_there : (to : Option ℕ) (s : Option Abs) (from : ℕ) (table : List (Option Arrival)) (p : ℕ)
    (x : Abs) → to ≡ Some p → s ≡ Some x → p < length table
    → HasArrival (noted_out to s from table) p
out_there None s from table p x goes is within = cc
out_there (Some to) None from table p x goes is within = cc
out_there (Some to) (Some s) from table p x goes is within =
    let same : to ≡ p = cc in
    subst (λ (q : ℕ). HasArrival (noted table to (from_there from s)) q) same
    (noted_there table to (from_there from s) (subst (λ (q : ℕ). q < length table) (sym same) within))

has_kept : (old new : List (Option Arrival)) (p : ℕ) → IsGrown old new → HasArrival old p
    → HasArrival new p
has_kept old new p grown has = (has.0, grown.kept p has.0 has.1)

-- what an instruction hands on
pub record IsPassing (m : Member) (from : ℕ) (a : Arrival) (old new : List (Option Arrival))
    : Type 0 where
  pub grown : IsGrown old new
  pub traced : IsTraced m new
  pub there : (p : ℕ) (s : Abs) → Leads m from a.state p s → p < length old → HasArrival new p

hands_there : (label : Option ℕ) (outs : Outs) (from : ℕ) (table : List (Option Arrival)) (p : ℕ)
    (s : Abs) → HandsOn (Ok outs) label from p s → p < length table
    → HasArrival (noted_outs outs label from table) p
hands_there label outs from table p s (inl h) within =
    let next : from + 1 ≡ p = sym h.0 in
    has_kept (noted_out (Some (from + 1)) outs.next from table)
    (noted_outs outs label from table) p
    (out_grown label outs.jump from (noted_out (Some (from + 1)) outs.next from table))
    (out_there (Some (from + 1)) outs.next from table p s (ap Some next) h.1 within)
hands_there label outs from table p s (inr h) within =
    let grown : IsGrown table (noted_out (Some (from + 1)) outs.next from table) =
    out_grown (Some (from + 1)) outs.next from table in
    let long : length (noted_out (Some (from + 1)) outs.next from table) ≡ length table =
    grown.long in
    out_there label outs.jump from (noted_out (Some (from + 1)) outs.next from table) p s h.0 h.1
    (omega arith)

leads_by : (m : Member) (from : ℕ) (i : Instr) (s : Abs) (outs : Outs) (p : ℕ) (x : Abs)
    → is_malformed m.routine.code from ≡ false → slice_get m.routine.code from ≡ Some i
    → local_rule s i m.routine.sort m.set m.driver ≡ Ok outs
    → HandsOn (Ok outs) (label_of i) from p x → Leads m from s p x
leads_by m from i s outs p x formed here rule hands = (
  formed,
  subst (λ (o : Option Instr). LeadsFrom m o from s p x) (sym here)
      (subst (λ (r : Result Outs Rule). HandsOn r (label_of i) from p x) (sym rule) hands),
)

pub hands_by : (m : Member) (from : ℕ) (i : Instr) (s : Abs) (given : Result Outs Rule) (p : ℕ)
    (x : Abs) → slice_get m.routine.code from ≡ Some i
    → local_rule s i m.routine.sort m.set m.driver ≡ given
    → Leads m from s p x → HandsOn given (label_of i) from p x
hands_by m from i s given p x here rule leads =
    subst (λ (r : Result Outs Rule). HandsOn r (label_of i) from p x) rule
    (subst (λ (o : Option Instr). LeadsFrom m o from s p x) here leads.1)

result_passing : (m : Member) (from : ℕ) (i : Instr) (a : Arrival) (given : Result Outs Rule)
    (table : List (Option Arrival)) → IsTraced m table → slice_get table from ≡ Some (Some a)
    → is_malformed m.routine.code from ≡ false → slice_get m.routine.code from ≡ Some i
    → local_rule a.state i m.routine.sort m.set m.driver ≡ given
    → IsPassing m from a table (noted_result given (label_of i) from table)
result_passing m from i a (Err rule) table traced there formed here is = record {
  grown = grown_none table;
  traced = traced;
  there = λ p s leads within. absurd (hands_by m from i a.state (Err rule) p s here is leads);
}
result_passing m from i a (Ok outs) table traced there formed here is =
    let mid : List (Option Arrival) = noted_out (Some (from + 1)) outs.next from table in
    let grown : IsGrown table mid = out_grown (Some (from + 1)) outs.next from table in
    let next : IsTraced m mid =
    out_traced m (Some (from + 1)) outs.next from table a traced there
    (λ p x goes out. leads_by m from i a.state outs p x formed here is
    (inl (let same : from + 1 ≡ p = cc in sym same, out)))
    in
    record {
      grown = grown_twice table mid (noted_outs outs (label_of i) from table) grown
          (out_grown (label_of i) outs.jump from mid);
      traced = out_traced m (label_of i) outs.jump from mid a next (grown.kept from a there)
          (λ p x goes out. leads_by m from i a.state outs p x formed here is (inr (goes, out)));
      there = λ p s leads within. hands_there (label_of i) outs from table p s
          (hands_by m from i a.state (Ok outs) p s here is leads) within;
    }

instr_passing : (m : Member) (from : ℕ) (i : Option Instr) (a : Arrival)
    (table : List (Option Arrival)) → IsTraced m table → slice_get table from ≡ Some (Some a)
    → is_malformed m.routine.code from ≡ false → slice_get m.routine.code from ≡ i
    → IsPassing m from a table (passed_by m from (Some (Some a)) i table)
instr_passing m from None a table traced there formed here = record {
  grown = grown_none table;
  traced = traced;
  there = λ p s leads within.
      absurd (subst (λ (o : Option Instr). LeadsFrom m o from a.state p s) here leads.1);
}
instr_passing m from (Some i) a table traced there formed here =
    result_passing m from i a (local_rule a.state i m.routine.sort m.set m.driver) table traced
    there formed here refl

pub passing : (m : Member) (from : ℕ) (a : Arrival) (table : List (Option Arrival))
    → IsTraced m table → slice_get table from ≡ Some (Some a)
    → is_malformed m.routine.code from ≡ false
    → IsPassing m from a table (passed_on m from table)
passing m from a table traced there formed =
    subst (λ (entry : Option (Option Arrival)). IsPassing m from a table
    (passed_by m from entry (slice_get m.routine.code from) table)) (sym there)
    (instr_passing m from (slice_get m.routine.code from) a table traced there formed refl)
