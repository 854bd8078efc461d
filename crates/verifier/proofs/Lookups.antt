-- What the innermost loop round a position says, as the table of places has it.
use Rattle.std.proofs.Common.{◌≡◌, ◌≢◌, ℕ, suc, ◌+◌, ◌-◌, ◌*◌, ◌<◌, ◌≤◌, ◌⊎◌, inl, inr, true, false, Bool, List, [], ◌∷◌, length, Option, None, Some, nat_eq, eq-eqb, lt-ltb, slice_index_or, refl, arith, sym, ◌∙◌, ap}
use Rattle.std.specs.Prelude.{slice_get, ◌&&◌, ◌↔◌, IsTrue}
use Rattle.std.proofs.lemmas.Bool.Decides.{eqb_tells}
use Rattle.std.proofs.lemmas.Option.{get_or_from_slice_get}
use Rattle.model.specs.declared.instr.Instr.{Instr}
use Rattle.model.specs.declared.limits.TheConstants.{MAX_CERTIFICATE}
use Rattle.model.specs.Certificate.{certificate_to, turns_at}
use Rattle.model.specs.Loops.{loops_round, turns_of, turns_product}
use Rattle.model.specs.Paths.{are_same_positions, goes_forward}
use Rattle.verifier.specs.declared.loops.Place.{Place}
use Rattle.verifier.specs.Pass.{AreSums}
use Rattle.verifier.specs.Survey.{first_of, place_at, ArePlaced}
use Rattle.verifier.proofs.Nesting.{first_round, empty_of_first, false_of}

pub place_read : (code : List Instr) (places : List Place) (p : ℕ) (d : Place)
    → ArePlaced code (length code) places → p < length code
    → slice_index_or places p d ≡ place_at code p
place_read code places p d placed within =
    get_or_from_slice_get places p (place_at code p) d (placed.each p within)

-- the same loops are round two positions exactly if the innermost is the same
same_self : (loops : List ℕ) → are_same_positions loops loops ≡ true
same_self [] = refl
same_self (q ∷ loops) = rw (eq-eqb q q refl, same_self loops) refl

head_same : (p q : ℕ) (rest : Bool) → (nat_eq p q && rest) ≡ true → ((nat_eq p q ≡ true) × (p ≡ q))
    ⊎ ((nat_eq p q ≡ false) × (p ≢ q))
    → Some p ≡ Some q
head_same p q rest same (inl h) = ap Some h.1
head_same p q rest same (inr h) = let fails : (nat_eq p q && rest) ≡ false = rw h.0 refl in cc

same_first : (here there : List ℕ) → are_same_positions here there ≡ true
    → first_of here ≡ first_of there
same_first [] [] same = refl
same_first [] (q ∷ there) same = cc
same_first (p ∷ here) [] same = cc
same_first (p ∷ here) (q ∷ there) same =
    head_same p q (are_same_positions here there) same (eqb_tells p q)

lists_same : (code : List Instr) (p l : ℕ) (first : Option ℕ)
    → first_of (loops_round code p) ≡ first → first_of (loops_round code l) ≡ first
    → loops_round code p ≡ loops_round code l
lists_same code p l None here there = empty_of_first (loops_round code p) here
    ∙ sym (empty_of_first (loops_round code l) there)
lists_same code p l (Some q) here there = (first_round code p q here).1
    ∙ sym ((first_round code l q there).1)

pub same_loops : (code : List Instr) (p l : ℕ) (result : Bool)
    → (IsTrue result ↔ (first_of (loops_round code p) ≡ first_of (loops_round code l)))
    → result ≡ are_same_positions (loops_round code p) (loops_round code l)
same_loops code p l true tells =
    let same : loops_round code p ≡ loops_round code l =
    lists_same code p l (first_of (loops_round code l)) (tells.0 refl) refl in
    sym (ap (λ (loops : List ℕ). are_same_positions loops (loops_round code l)) same
    ∙ same_self (loops_round code l))
same_loops code p l false tells =
    sym (false_of (are_same_positions (loops_round code p) (loops_round code l))
    (λ same. let yes : IsTrue false =
    tells.1 (same_first (loops_round code p) (loops_round code l) same) in cc))

-- the innermost loop stands below, and its turns come on top of those round it
pub inner_below : (code : List Instr) (places : List Place) (p q : ℕ) (d : Place)
    → ArePlaced code (length code) places → p < length code
    → (slice_index_or places p d).round.innermost ≡ Some q
    → (q < p) × (loops_round code p ≡ q ∷ loops_round code q)
inner_below code places p q d placed within first =
    let read : slice_index_or places p d ≡ place_at code p =
    place_read code places p d placed within in
    let inner : first_of (loops_round code p) ≡ Some q =
    ap (λ (place : Place). place.round.innermost) (sym read) ∙ first in
    first_round code p q inner

pub inner_none : (code : List Instr) (places : List Place) (p : ℕ) (d : Place)
    → ArePlaced code (length code) places → p < length code
    → (slice_index_or places p d).round.innermost ≡ None → turns_at code p ≡ 1
inner_none code places p d placed within first =
    let read : slice_index_or places p d ≡ place_at code p =
    place_read code places p d placed within in
    let inner : first_of (loops_round code p) ≡ None =
    ap (λ (place : Place). place.round.innermost) (sym read) ∙ first in
    ap (turns_product code) (empty_of_first (loops_round code p) inner)

pub inner_turns : (code : List Instr) (places : List Place) (sums : List ℕ) (p q : ℕ) (d : Place)
    → ArePlaced code (length code) places
    → AreSums code p sums → p < length code → (slice_index_or places p d).round.innermost ≡ Some q
    → turns_of (slice_get code q) * (slice_index_or sums (q + 1) 0 - slice_index_or sums q 0)
    ≡ turns_at code p
inner_turns code places sums p q d placed summed within first =
    let inner : (q < p) × (loops_round code p ≡ q ∷ loops_round code q) =
    inner_below code places p q d placed within first in
    let low : q < p = inner.0 in
    let after : slice_index_or sums (q + 1) 0 ≡ certificate_to code (q + 1) =
    summed.each (q + 1) (omega arith) in
    let before : slice_index_or sums q 0 ≡ certificate_to code q = summed.each q (omega arith) in
    let next : q + 1 ≡ suc q = omega arith in
    let more : certificate_to code (q + 1) ≡ certificate_to code q + turns_at code q =
    ap (certificate_to code) next in
    let turns : slice_index_or sums (q + 1) 0 - slice_index_or sums q 0 ≡ turns_at code q =
    omega arith in
    ap (λ (n : ℕ). turns_of (slice_get code q) * n) turns ∙ sym (ap (turns_product code) inner.1)

-- what the sums say of the loop
pub sums_short : (code : List Instr) (sums : List ℕ) (p q : ℕ) → AreSums code p sums → q < p
    → (slice_index_or sums q 0 ≤ slice_index_or sums (q + 1) 0)
    × (slice_index_or sums (q + 1) 0 ≤ MAX_CERTIFICATE)
sums_short code sums p q summed low =
    let after : slice_index_or sums (q + 1) 0 ≡ certificate_to code (q + 1) =
    summed.each (q + 1) (omega arith) in
    let before : slice_index_or sums q 0 ≡ certificate_to code q = summed.each q (omega arith) in
    let next : q + 1 ≡ suc q = omega arith in
    let more : certificate_to code (q + 1) ≡ certificate_to code q + turns_at code q =
    ap (certificate_to code) next in
    let short : certificate_to code (q + 1) ≤ MAX_CERTIFICATE = summed.short (q + 1) (omega arith)
    in
    (omega arith, omega arith)

-- a jump's label, by the places
pub forward_read : (code : List Instr) (places : List Place) (p l : ℕ) (d : Place) (result : Bool)
    → ArePlaced code (length code) places
    → p < l → l < length code
    → (IsTrue result ↔
    ((slice_index_or places p d).round.innermost ≡ (slice_index_or places l d).round.innermost))
    → result ≡ goes_forward code p l
forward_read code places p l d result placed up within tells =
    let here : slice_index_or places p d ≡ place_at code p =
    place_read code places p d placed (omega arith) in
    let there : slice_index_or places l d ≡ place_at code l =
    place_read code places l d placed within in
    let tells_loops : IsTrue result ↔
    (first_of (loops_round code p) ≡ first_of (loops_round code l)) = (
      λ yes. ap (λ (place : Place). place.round.innermost) (sym here) ∙ tells.0 yes
          ∙ ap (λ (place : Place). place.round.innermost) there,
      λ same. tells.1 (ap (λ (place : Place). place.round.innermost) here ∙ same
          ∙ ap (λ (place : Place). place.round.innermost) (sym there)),
    )
    in
    same_loops code p l result tells_loops
    ∙ sym (rw (lt-ltb p l up, lt-ltb l (length code) within) refl)
