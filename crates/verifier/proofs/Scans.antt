-- One step of each scan over the loops of a routine.
use Rattle.std.proofs.Common.{◌≡◌, ℕ, suc, ◌+◌, ◌<◌, ◌≤◌, ◌⊎◌, inl, inr, true, false, Bool, List, [], ◌∷◌, length, Option, None, Some, nat_eq, eq-eqb, slice_index_or, slice_set, refl, arith, sym, subst, ◌∙◌, ap}
use Rattle.std.specs.Prelude.{slice_get, drop, IfSome}
use Rattle.std.proofs.lemmas.Option.{slice_get-get_or}
use Rattle.std.specs.List.{list_any}
use Rattle.std.proofs.lemmas.Bool.{cases_eq, ne_eqb}
use Rattle.std.proofs.lemmas.List.{get_or-set_same, get_or-set_other, length-set}
use Rattle.model.specs.declared.instr.Instr.{Instr}
use Rattle.model.specs.Loops.{open_at, open_by, open_after}
use Rattle.model.specs.Set.{Flow, Onward, Branches, Jumps, Opens, Closes, Leaves, flow_of}
use Rattle.verifier.specs.Survey.{first_of, outer, open_next, flags_ended, flags_next, AreOpen, AreFlagged, IsScanned}
use Rattle.verifier.proofs.Nesting.{first_open, none_open, unopened}

pub open_more : (code : List Instr) (at : ℕ) (i : Instr) → slice_get code at ≡ Some i
    → open_at code (at + 1) ≡ open_by (flow_of i) at (open_at code at)
open_more code at i here =
    let next : at + 1 ≡ suc at = omega arith in
    ap (open_at code) next ∙ ap (λ (x : Option Instr). open_after x at (open_at code at)) here

-- the table of the innermost open loops, one position more
set_split : (code : List Instr) (at : ℕ) (opened : List (Option ℕ)) (inner : Option ℕ)
    → AreOpen code at opened → at < length code
    → inner ≡ first_of (open_at code at) → (p : ℕ) → p < at + 1 → (p ≡ at) ⊎ (p ≡ at → ⊥)
    → slice_index_or (slice_set opened at inner) p None ≡ first_of (open_at code p)
set_split code at opened inner known within first p low (inl same) =
    let long : length opened ≡ length code = known.long in
    let here : slice_index_or (slice_set opened at inner) at None ≡ first_of (open_at code at) =
    get_or-set_same opened at inner None (omega arith) ∙ first
    in
    subst (λ (q : ℕ). slice_index_or (slice_set opened at inner) q None ≡ first_of (open_at code q))
    (sym same) here
set_split code at opened inner known within first p low (inr differs) =
    get_or-set_other opened at p inner None differs ∙ known.each p (omega arith)

pub open_set : (code : List Instr) (at : ℕ) (opened : List (Option ℕ)) (inner : Option ℕ)
    → AreOpen code at opened → at < length code
    → inner ≡ first_of (open_at code at) → AreOpen code (at + 1) (slice_set opened at inner)
open_set code at opened inner known within first = record {
  long = length-set opened at inner ∙ known.long;
  each = λ p low. set_split code at opened inner known within first p low (cases_eq p at);
}

-- the innermost open loop after an instruction
outer_first : (code : List Instr) (at : ℕ) (opened : List (Option ℕ)) (inner : Option ℕ)
    → AreOpen code (at + 1) opened
    → inner ≡ first_of (open_at code at) → outer inner opened ≡ first_of (drop 1 (open_at code at))
outer_first code at opened None known first =
    sym (ap (λ (loops : List ℕ). first_of (drop 1 loops)) (none_open code at (sym first)))
outer_first code at opened (Some q) known first =
    let under : (q < at) × (open_at code at ≡ q ∷ open_at code q) = first_open code at q (sym first)
    in
    let low : q < at = under.0 in
    known.each q (omega arith) ∙ sym (ap (λ (loops : List ℕ). first_of (drop 1 loops)) under.1)

first_after : (code : List Instr) (at : ℕ) (f : Flow) (opened : List (Option ℕ)) (inner : Option ℕ)
    → AreOpen code (at + 1) opened
    → inner ≡ first_of (open_at code at)
    → open_next f at inner opened ≡ first_of (open_by f at (open_at code at))
first_after code at Onward opened inner known first = first
first_after code at (Branches label) opened inner known first = first
first_after code at (Jumps label) opened inner known first = first
first_after code at (Opens turns) opened inner known first = refl
first_after code at Closes opened inner known first = outer_first code at opened inner known first
first_after code at Leaves opened inner known first = first

pub first_next : (code : List Instr) (at : ℕ) (i : Instr) (opened : List (Option ℕ))
    (inner : Option ℕ) → AreOpen code (at + 1) opened
    → inner ≡ first_of (open_at code at) → slice_get code at ≡ Some i
    → open_next (flow_of i) at inner opened ≡ first_of (open_at code (at + 1))
first_next code at i opened inner known first here =
    first_after code at (flow_of i) opened inner known first
    ∙ ap first_of (sym (open_more code at i here))

-- the flags after an instruction
same_flag : (q : ℕ) → nat_eq q q ≡ true
same_flag q = eq-eqb q q refl

opened_flag : (code : List Instr) (at : ℕ) (flags : List Bool) → AreFlagged code at flags
    → at < length code → (q : ℕ) → q < length code
    → (q ≡ at) ⊎ (q ≡ at → ⊥) → slice_index_or (slice_set flags at true) q false
    ≡ list_any (nat_eq q) (at ∷ open_at code at)
opened_flag code at flags known here q within (inl same) =
    let long : length flags ≡ length code = known.long in
    let flag : slice_index_or (slice_set flags at true) at false ≡ list_any (nat_eq at)
    (at ∷ open_at code at) =
    get_or-set_same flags at true false (omega arith) ∙ rw (same_flag at) refl
    in
    subst (λ (x : ℕ). slice_index_or (slice_set flags at true) x false ≡ list_any (nat_eq x)
    (at ∷ open_at code at)) (sym same) flag
opened_flag code at flags known here q within (inr differs) =
    get_or-set_other flags at q true false differs ∙ known.each q within
    ∙ rw (ne_eqb q at differs) refl

closed_flag : (code : List Instr) (h : ℕ) (flags : List Bool) → length flags ≡ length code
    → h < length code → (q : ℕ) → q < length code
    → slice_index_or flags q false ≡ list_any (nat_eq q) (h ∷ open_at code h)
    → (q ≡ h) ⊎ (q ≡ h → ⊥) → slice_index_or (slice_set flags h false) q false ≡ list_any (nat_eq q)
    (open_at code h)
closed_flag code h flags long here q within was (inl same) =
    let flag : slice_index_or (slice_set flags h false) h false ≡ list_any (nat_eq h)
    (open_at code h) =
    get_or-set_same flags h false false (omega arith) ∙ sym (unopened code h)
    in
    subst (λ (x : ℕ). slice_index_or (slice_set flags h false) x false ≡ list_any (nat_eq x)
    (open_at code h)) (sym same) flag
closed_flag code h flags long here q within was (inr differs) =
    get_or-set_other flags h q false false differs ∙ was ∙ rw (ne_eqb q h differs) refl

ended_flags : (code : List Instr) (at : ℕ) (inner : Option ℕ) (flags : List Bool)
    → AreFlagged code at flags → at < length code
    → inner ≡ first_of (open_at code at) → (q : ℕ) → q < length code
    → slice_index_or (flags_ended inner flags) q false ≡ list_any (nat_eq q)
    (drop 1 (open_at code at))
ended_flags code at None flags known here first q within =
    let none : open_at code at ≡ [] = none_open code at (sym first) in
    known.each q within ∙ ap (λ (loops : List ℕ). list_any (nat_eq q) loops) none
    ∙ sym (ap (λ (loops : List ℕ). list_any (nat_eq q) (drop 1 loops)) none)
ended_flags code at (Some h) flags known here first q within =
    let under : (h < at) × (open_at code at ≡ h ∷ open_at code h) = first_open code at h (sym first)
    in
    let low : h < at = under.0 in
    closed_flag code h flags known.long (omega arith) q within
    (known.each q within ∙ ap (λ (loops : List ℕ). list_any (nat_eq q) loops) under.1)
    (cases_eq q h)
    ∙ sym (ap (λ (loops : List ℕ). list_any (nat_eq q) (drop 1 loops)) under.1)

flags_after : (code : List Instr) (at : ℕ) (f : Flow) (inner : Option ℕ) (flags : List Bool)
    → AreFlagged code at flags → at < length code
    → inner ≡ first_of (open_at code at) → (q : ℕ) → q < length code
    → slice_index_or (flags_next f at inner flags) q false ≡ list_any (nat_eq q)
    (open_by f at (open_at code at))
flags_after code at Onward inner flags known here first q within = known.each q within
flags_after code at (Branches label) inner flags known here first q within = known.each q within
flags_after code at (Jumps label) inner flags known here first q within = known.each q within
flags_after code at (Opens turns) inner flags known here first q within =
    opened_flag code at flags known here q within (cases_eq q at)
flags_after code at Closes inner flags known here first q within =
    ended_flags code at inner flags known here first q within
flags_after code at Leaves inner flags known here first q within = known.each q within

ended_long : (inner : Option ℕ) (flags : List Bool)
    → length (flags_ended inner flags) ≡ length flags
ended_long None flags = refl
ended_long (Some q) flags = length-set flags q false

flags_long : (f : Flow) (at : ℕ) (inner : Option ℕ) (flags : List Bool)
    → length (flags_next f at inner flags) ≡ length flags
flags_long Onward at inner flags = refl
flags_long (Branches label) at inner flags = refl
flags_long (Jumps label) at inner flags = refl
flags_long (Opens turns) at inner flags = length-set flags at true
flags_long Closes at inner flags = ended_long inner flags
flags_long Leaves at inner flags = refl

pub flagged_more : (code : List Instr) (at : ℕ) (i : Instr) (inner : Option ℕ) (flags : List Bool)
    → AreFlagged code at flags → at < length code
    → inner ≡ first_of (open_at code at) → slice_get code at ≡ Some i
    → AreFlagged code (at + 1) (flags_next (flow_of i) at inner flags)
flagged_more code at i inner flags known within first here = record {
  long = flags_long (flow_of i) at inner flags ∙ known.long;
  each = λ q low. flags_after code at (flow_of i) inner flags known within first q low
      ∙ ap (λ (loops : List ℕ). list_any (nat_eq q) loops) (sym (open_more code at i here));
}

-- the first scan, one position more
pub scanned_more : (code : List Instr) (at : ℕ) (i : Instr) (opened : List (Option ℕ))
    (flags flags_new : List Bool) (inner inner_new : Option ℕ)
    → IsScanned code at opened flags inner → at < length code → i ≡ slice_index_or code at i
    → flags_new ≡ flags_next (flow_of i) at inner flags
    → inner_new ≡ open_next (flow_of i) at inner (slice_set opened at inner)
    → IsScanned code (at + 1) (slice_set opened at inner) flags_new inner_new
scanned_more code at i opened flags flags_new inner inner_new known within read flagged next =
    let here : slice_get code at ≡ Some i = slice_get-get_or code at i within ∙ ap Some (sym read)
    in
    let table : AreOpen code (at + 1) (slice_set opened at inner) =
    open_set code at opened inner known.table within known.first in
    record {
      table = table;
      flagged = subst (λ (all : List Bool). AreFlagged code (at + 1) all) (sym flagged)
          (flagged_more code at i inner flags known.flagged within known.first here);
      first = next ∙ first_next code at i (slice_set opened at inner) inner table known.first here;
    }

-- the innermost open loop stands below its position
pub first_within : (code : List Instr) (at bound : ℕ) (inner : Option ℕ)
    → inner ≡ first_of (open_at code at) → at ≤ bound → IfSome inner (λ q. q < bound)
first_within code at bound None first within = tt
first_within code at bound (Some q) first within =
    let under : (q < at) × (open_at code at ≡ q ∷ open_at code q) = first_open code at q (sym first)
    in
    let low : q < at = under.0 in
    omega arith
