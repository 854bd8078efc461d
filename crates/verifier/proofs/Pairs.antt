-- The places of a routine each of whose loops has an `end`, from one scan.
use Rattle.std.proofs.Common.{◌≡◌, ℕ, suc, ◌+◌, ◌<◌, ◌≤◌, ◌⊎◌, inl, inr, true, Bool, List, [], ◌∷◌, ◌++◌, length, Option, None, Some, nat_eq, slice_index_or, refl, arith, sym, ◌∙◌, ap}
use Rattle.std.specs.Prelude.{slice_get, not, drop, filter, IfSome}
use Rattle.std.specs.List.{list_any}
use Rattle.std.proofs.lemmas.Bool.{cases_eq}
use Rattle.std.proofs.lemmas.Option.{slice_get-get_or}
use Rattle.model.specs.declared.instr.Instr.{Instr}
use Rattle.model.specs.Loops.{open_at, open_by, is_closed, loops_round}
use Rattle.model.specs.Set.{Flow, Onward, Branches, Jumps, Opens, Closes, Leaves, flow_of}
use Rattle.verifier.specs.declared.loops.Place.{Place}
use Rattle.verifier.specs.declared.loops.Round.{Round}
use Rattle.verifier.specs.Survey.{first_of, round_of, round_in, round_ended, round_after, paired_at, place_at, ArePaired, ArePlaced}
use Rattle.verifier.proofs.Nesting.{first_open, few_open, none_open}
use Rattle.verifier.proofs.Places.{got_below, got_last, long_last}
use Rattle.verifier.proofs.Scans.{first_within, open_more}

-- one place more
paired_split : (code : List Instr) (at : ℕ) (places : List Place) (place : Place)
    → length places ≡ at → ((p : ℕ) → p < at → slice_get places p ≡ Some (paired_at code p))
    → place ≡ paired_at code at
    → (p : ℕ) → p < at + 1 → (p ≡ at) ⊎ (p ≡ at → ⊥)
    → slice_get (places ++ place ∷ []) p ≡ Some (paired_at code p)
paired_split code at places place long each right p low (inl same) =
    let here : p ≡ length places = same ∙ sym long in
    ap (slice_get (places ++ place ∷ [])) here ∙ got_last places place ∙ ap Some right
    ∙ ap (λ (q : ℕ). Some (paired_at code q)) (sym same)
paired_split code at places place long each right p low (inr differs) =
    got_below places (place ∷ []) p (omega arith) ∙ each p (omega arith)

-- the open loops after an instruction
abbrev round_with : ℕ → ℕ → Round
round_with q depth = record { innermost = Some q; depth = depth }

ended : (code : List Instr) (at : ℕ) (places : List Place)
    → ((p : ℕ) → p < at → slice_get places p ≡ Some (paired_at code p))
    → (inner : Option ℕ) → first_of (open_at code at) ≡ inner
    → round_ended inner (round_of (open_at code at)) places ≡ round_of (drop 1 (open_at code at))
ended code at places each None first =
    let none : open_at code at ≡ [] = none_open code at first in
    ap round_of none ∙ sym (ap (λ (loops : List ℕ). round_of (drop 1 loops)) none)
ended code at places each (Some q) first =
    let under : (q < at) × (open_at code at ≡ q ∷ open_at code q) = first_open code at q first in
    ap round_in (each q under.0) ∙ sym (ap (λ (loops : List ℕ). round_of (drop 1 loops)) under.1)

opened : (at : ℕ) (loops : List ℕ) → round_with at (length loops + 1) ≡ round_of (at ∷ loops)
opened at loops =
    let more : length loops + 1 ≡ suc (length loops) = omega arith in
    ap (round_with at) more

after : (code : List Instr) (at : ℕ) (f : Flow) (places : List Place)
    → ((p : ℕ) → p < at → slice_get places p ≡ Some (paired_at code p))
    → round_after f at (round_of (open_at code at)) places ≡ round_of (open_by f at (open_at code at))
after code at Onward places each = refl
after code at (Branches label) places each = refl
after code at (Jumps label) places each = refl
after code at (Opens turns) places each = opened at (open_at code at)
after code at Closes places each =
    ended code at places each (first_of (open_at code at)) refl
after code at Leaves places each = refl

pub paired_more : (code : List Instr) (at : ℕ) (i : Instr) (places places_new : List Place)
    (round round_new : Round)
    → ArePaired code at places round → at < length code → i ≡ slice_index_or code at i
    → round_new ≡ round_after (flow_of i) at round places
    → places_new ≡ places ++ record {
      opened = round.innermost;
      closed = true;
      round = round;
    } ∷ []
    → ArePaired code (at + 1) places_new round_new
paired_more code at i places places_new round round_new known within read next pushed =
    let here : slice_get code at ≡ Some i = slice_get-get_or code at i within ∙ ap Some (sym read)
    in
    let place : Place = record { opened = round.innermost; closed = true; round = round } in
    let right : place ≡ paired_at code at = rw known.rounds refl in
    let all : length (places ++ place ∷ []) ≡ at + 1 =
    long_last places place ∙ ap (λ (n : ℕ). n + 1) known.long in
    record {
      long = ap (λ (new : List Place). length new) pushed ∙ all;
      each = λ p low. ap (λ (new : List Place). slice_get new p) pushed
          ∙ paired_split code at places place known.long known.each right p low (cases_eq p at);
      rounds = next
          ∙ ap (λ (r : Round). round_after (flow_of i) at r places) known.rounds
          ∙ after code at (flow_of i) places known.each
          ∙ ap round_of (sym (open_more code at i here));
    }

-- the innermost open loop stands below its position, and there are no more than positions
pub paired_within : (code : List Instr) (at : ℕ) (places : List Place) (round : Round)
    → ArePaired code at places round → IfSome round.innermost (λ q. q < length places)
paired_within code at places round known =
    let long : length places ≡ at = known.long in
    first_within code at (length places) round.innermost
    (ap (λ (r : Round). r.innermost) known.rounds) (omega arith)

pub paired_shallow : (code : List Instr) (at : ℕ) (places : List Place) (round : Round)
    → ArePaired code at places round → round.depth ≤ length places
paired_shallow code at places round known =
    let long : length places ≡ at = known.long in
    let few : length (open_at code at) ≤ at = few_open code at in
    let depth : round.depth ≡ length (open_at code at) = ap (λ (r : Round). r.depth) known.rounds in
    omega arith

-- where no loop is open at the end, each of them has an `end`
all_kept : (keep : ℕ → Bool) (loops : List ℕ) → ((q : ℕ) → keep q ≡ true)
    → filter keep loops ≡ loops
all_kept keep [] all = refl
all_kept keep (q ∷ loops) all =
    let kept : keep q ≡ true = all q in
    let rest : filter keep loops ≡ loops = all_kept keep loops all in
    rw (kept, rest) refl

all_closed : (code : List Instr) → open_at code (length code) ≡ [] → (q : ℕ)
    → is_closed code q ≡ true
all_closed code none q = ap (λ (loops : List ℕ). not (list_any (nat_eq q) loops)) none

paired_place : (code : List Instr) → open_at code (length code) ≡ [] → (p : ℕ)
    → paired_at code p ≡ place_at code p
paired_place code none p =
    let closed : is_closed code p ≡ true = all_closed code none p in
    let kept : loops_round code p ≡ open_at code p =
    all_kept (is_closed code) (open_at code p) (all_closed code none) in
    rw (closed, kept) refl

pub paired_placed : (code : List Instr) (places : List Place) (round : Round)
    → ArePaired code (length code) places round → round.innermost ≡ None
    → ArePlaced code (length code) places
paired_placed code places round known none =
    let first : first_of (open_at code (length code)) ≡ None =
    sym (ap (λ (r : Round). r.innermost) known.rounds) ∙ none in
    let empty : open_at code (length code) ≡ [] = none_open code (length code) first in
    record {
      long = known.long;
      each = λ p low. known.each p low ∙ ap Some (paired_place code empty p);
    }
