-- The places of a routine, from what the first scan noted.
use Rattle.std.proofs.Common.{◌≡◌, ℕ, zero, suc, ◌+◌, ◌<◌, ◌≤◌, ◌⊎◌, inl, inr, true, false, Bool, List, [], ◌∷◌, ◌++◌, length, Option, None, Some, nat_eq, slice_index_or, refl, arith, sym, subst, ◌∙◌, ap}
use Rattle.std.specs.Prelude.{slice_get, not}
use Rattle.std.specs.List.{list_any}
use Rattle.std.proofs.lemmas.Bool.{cases_eq}
use Rattle.std.proofs.lemmas.Option.{slice_get_within}
use Rattle.model.specs.declared.instr.Instr.{Instr}
use Rattle.model.specs.Loops.{open_at, is_closed, loops_round}
use Rattle.verifier.specs.declared.loops.Place.{Place}
use Rattle.verifier.specs.declared.loops.Round.{Round}
use Rattle.verifier.specs.Survey.{first_of, round_of, round_from, round_next, place_at, AreOpen, AreFlagged, ArePlaced, AreShallow}
use Rattle.verifier.proofs.Nesting.{first_open, few_round, round_none, round_closed, round_unclosed}

-- a list with one element more
pub got_below : {X : Type 0} (xs ys : List X) (p : ℕ) → p < length xs
    → slice_get (xs ++ ys) p ≡ slice_get xs p
got_below [] ys p low = absurd (omega arith)
got_below (x ∷ xs) ys zero low = refl
got_below (x ∷ xs) ys (suc p) low = got_below xs ys p (omega arith)

pub got_last : {X : Type 0} (xs : List X) (y : X) → slice_get (xs ++ y ∷ []) (length xs) ≡ Some y
got_last [] y = refl
got_last (x ∷ xs) y = got_last xs y

pub long_last : {X : Type 0} (xs : List X) (y : X) → length (xs ++ y ∷ []) ≡ length xs + 1
long_last [] y = refl
long_last (x ∷ xs) y = let rest : length (xs ++ y ∷ []) ≡ length xs + 1 =
    long_last xs y in omega arith

-- the loops whose bodies hold a position, by the innermost that is open
abbrev round_with : ℕ → ℕ → Round
round_with q depth = record { innermost = Some q; depth = depth }

round_split : (code : List Instr) (at q : ℕ) (unclosed : Bool) → first_of (open_at code at) ≡ Some q
    → is_closed code q ≡ not unclosed
    → round_from (Some (place_at code q)) q unclosed ≡ round_of (loops_round code at)
round_split code at q true first closed = sym (ap round_of (round_unclosed code at q first closed))
round_split code at q false first closed =
    let more : length (loops_round code q) + 1 ≡ suc (length (loops_round code q)) = omega arith in
    ap (round_with q) more ∙ sym (ap round_of (round_closed code at q first closed))

round_led : (code : List Instr) (at : ℕ) (opened : Option ℕ) (flags : List Bool)
    (places : List Place) → AreFlagged code (length code) flags
    → ArePlaced code at places → at < length code → opened ≡ first_of (open_at code at)
    → round_next opened flags places ≡ round_of (loops_round code at)
round_led code at None flags places flagged placed within first =
    sym (ap round_of (round_none code at (sym first)))
round_led code at (Some q) flags places flagged placed within first =
    let under : (q < at) × (open_at code at ≡ q ∷ open_at code q) = first_open code at q (sym first)
    in
    let low : q < at = under.0 in
    let unclosed : slice_index_or flags q false ≡ list_any (nat_eq q) (open_at code (length code)) =
    flagged.each q (omega arith) in
    ap (λ (place : Option Place). round_from place q (slice_index_or flags q false))
    (placed.each q low)
    ∙ round_split code at q (slice_index_or flags q false) (sym first) (sym (ap not unclosed))

-- one place more
placed_split : (code : List Instr) (at : ℕ) (places : List Place) (place : Place)
    → ArePlaced code at places → place ≡ place_at code at
    → (p : ℕ) → p < at + 1 → (p ≡ at) ⊎ (p ≡ at → ⊥)
    → slice_get (places ++ place ∷ []) p ≡ Some (place_at code p)
placed_split code at places place placed right p low (inl same) =
    let here : p ≡ length places = same ∙ sym placed.long in
    ap (slice_get (places ++ place ∷ [])) here ∙ got_last places place ∙ ap Some right
    ∙ ap (λ (q : ℕ). Some (place_at code q)) (sym same)
placed_split code at places place placed right p low (inr differs) =
    let long : length places ≡ at = placed.long in
    got_below places (place ∷ []) p (omega arith) ∙ placed.each p (omega arith)

pub placed_more : (code : List Instr) (at : ℕ) (opened : List (Option ℕ)) (flags : List Bool)
    (places places_new : List Place) (round : Round)
    → AreOpen code (length code) opened → AreFlagged code (length code) flags
    → ArePlaced code at places → at < length code
    → round ≡ round_next (slice_index_or opened at None) flags places
    → places_new ≡ places ++ record {
      opened = slice_index_or opened at None;
      closed =
          not (slice_index_or flags at false);
      round = round;
    } ∷ []
    → ArePlaced code (at + 1) places_new
placed_more code at opened flags places places_new round known flagged placed within right pushed =
    let first : slice_index_or opened at None ≡ first_of (open_at code at) = known.each at within in
    let unclosed : slice_index_or flags at false ≡ list_any (nat_eq at) (open_at code (length code))
    = flagged.each at within in
    let rounds : round ≡ round_of (loops_round code at) =
    right ∙ round_led code at (slice_index_or opened at None) flags places flagged placed within
    first
    in
    let place : Place =
    record {
      opened = slice_index_or opened at None;
      closed =
          not (slice_index_or flags at false);
      round = round;
    } in
    let is_right : place ≡ place_at code at = rw (first, unclosed, rounds) refl in
    let all : ArePlaced code (at + 1) (places ++ place ∷ []) =
    record {
      long = long_last places place ∙ ap (λ (n : ℕ). n + 1) placed.long;
      each = λ p low. placed_split code at places place placed is_right p low (cases_eq p at);
    }
    in
    subst (λ (new : List Place). ArePlaced code (at + 1) new) (sym pushed) all

-- the depth of a place
pub placed_shallow : (code : List Instr) (at : ℕ) (places : List Place) → ArePlaced code at places
    → AreShallow places
placed_shallow code at places placed p place found =
    let within : p < length places = slice_get_within places p place found in
    let long : length places ≡ at = placed.long in
    let known : slice_get places p ≡ Some (place_at code p) = placed.each p (omega arith) in
    let same : place ≡ place_at code p = cc in
    let few : length (loops_round code p) ≤ p = few_round code p in
    subst (λ (x : Place). x.round.depth ≤ p) (sym same) few
