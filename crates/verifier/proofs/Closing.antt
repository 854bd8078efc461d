-- Whether an `end` is reached in the state in which its `loop` is.
use Rattle.std.proofs.Common.{◌≡◌, ℕ, ◌<◌, true, false, Bool, List, length, Option, None, Some, nat_eq, slice_index_or, refl, arith, sym, subst, ◌∙◌, ap}
use Rattle.std.specs.Prelude.{slice_get, IsTrue}
use Rattle.std.proofs.lemmas.Option.{slice_get-get_or}
use Rattle.model.specs.declared.abs.Abs.{Abs}
use Rattle.model.specs.declared.instr.Instr.{Instr}
use Rattle.model.specs.declared.instr.Instr.TheVariants.{End}
use Rattle.model.specs.Loops.{open_at}
use Rattle.model.specs.Paths.{Arrives, is_malformed, is_misplaced}
use Rattle.model.specs.Set.{Member}
use Rattle.model.specs.Typable.{ArrivesAlone, ReachesLoop, ClosesAlike, ClosesUnlike}
use Rattle.verifier.specs.declared.loops.Place.{Place}
use Rattle.verifier.specs.declared.seen.Seen.{Seen}
use Rattle.verifier.specs.declared.seen.Seen.TheVariants.{Nothing, One, Several}
use Rattle.verifier.specs.Pass.{Knows}
use Rattle.verifier.specs.Survey.{first_of, ArePlaced}
use Rattle.verifier.specs.Table.{Describes}
use Rattle.verifier.proofs.Arrivals.{settled, formed_place}
use Rattle.verifier.proofs.Lookups.{place_read}
use Rattle.verifier.proofs.Nesting.{first_open, first_starts, none_open}

pub opened_read : (code : List Instr) (places : List Place) (at : ℕ) (d : Place) (inner : Option ℕ)
    → ArePlaced code (length code) places → at < length code
    → (slice_index_or places at d).opened ≡ inner → first_of (open_at code at) ≡ inner
opened_read code places at d inner placed within read =
    ap (λ (place : Place). place.opened) (sym (place_read code places at d placed within)) ∙ read

pub here_read : (code read : List Instr) (at : ℕ) (d i : Instr) → read ≡ code → at < length code
    → slice_index_or read at d ≡ i → slice_get code at ≡ Some i
here_read code read at d i same within is =
    slice_get-get_or code at d within ∙ ap (λ (list : List Instr). Some (slice_index_or list at d))
    (sym same) ∙ ap Some is

-- the states that arrive at the position that the pass has come to
pub seen_there : (m : Member) (at : ℕ) (here : Seen) (table : List Seen) → Knows m at here table
    → at < length m.routine.code → Describes here (Arrives m at)
seen_there m at here table known within = settled m at at here (omega arith) (known.seen within)

pub alone_there : (m : Member) (at : ℕ) (here : Seen) (table : List Seen) (s : Abs)
    → Knows m at here table → at < length m.routine.code → here ≡ One s
    → ArrivesAlone m at s
alone_there m at here table s known within is =
    let one : Describes (One s) (Arrives m at) =
    subst (λ (seen : Seen). Describes seen (Arrives m at)) is
    (seen_there m at here table known within) in
    record { arrives = one.0; alone = one.1 }

-- and those that arrive at the start of a loop that is open there
start_there : (m : Member) (at q : ℕ) (here : Seen) (table : List Seen) → Knows m at here table
    → first_of (open_at m.routine.code at) ≡ Some q
    → Describes (slice_index_or table q Nothing) (Arrives m q)
start_there m at q here table known first =
    known.starts q (first_open m.routine.code at q first).0 (first_starts m.routine.code at q first)

pub entry_of : (m : Member) (p : ℕ) (seen : Seen) (start : Abs) → ArrivesAlone m p start
    → Describes seen (Arrives m p) → seen ≡ One start
entry_of m p Nothing start arrival h = absurd (h start arrival.arrives)
entry_of m p (One s) start arrival h = ap One (arrival.alone s h.0)
entry_of m p Several start arrival h =
    absurd (h.4 (arrival.alone h.0 h.2 ∙ sym (arrival.alone h.1 h.3)))

pub alike_there : (m : Member) (at q : ℕ) (here : Seen) (table : List Seen) (s : Abs)
    → Knows m at here table
    → slice_get m.routine.code at ≡ Some End → first_of (open_at m.routine.code at) ≡ Some q
    → slice_index_or table q Nothing ≡ One s
    → ClosesAlike m at s (slice_get m.routine.code at)
alike_there m at q here table s known is first entry =
    let one : Describes (One s) (Arrives m q) =
    subst (λ (seen : Seen). Describes seen (Arrives m q)) entry
    (start_there m at q here table known first)
    in
    let alone : ReachesLoop m (Some q) s = record { arrives = one.0; alone = one.1 } in
    let closes : ClosesAlike m at s (Some End) =
    subst (λ (o : Option ℕ). ReachesLoop m o s) (sym first) alone in
    subst (λ (i : Option Instr). ClosesAlike m at s i) (sym is) closes

pub unlike_there : (m : Member) (at q : ℕ) (here : Seen) (table : List Seen) (s : Abs)
    → Knows m at here table
    → slice_get m.routine.code at ≡ Some End → first_of (open_at m.routine.code at) ≡ Some q
    → (slice_index_or table q Nothing ≡ One s → ⊥)
    → ClosesUnlike m at s (slice_get m.routine.code at)
unlike_there m at q here table s known is first never =
    let low : q < at = (first_open m.routine.code at q first).0 in
    let start : Abs = (known.fine q low).state in
    let alone : ReachesLoop m (Some q) start = (known.fine q low).arrival in
    let entry : slice_index_or table q Nothing ≡ One start =
    entry_of m q (slice_index_or table q Nothing) start alone
    (start_there m at q here table known first)
    in
    let closes : ClosesUnlike m at s (Some End) = (
      start,
      subst (λ (o : Option ℕ). ReachesLoop m o start) (sym first) alone,
      λ same. never (entry ∙ ap One same),
    )
    in
    subst (λ (i : Option Instr). ClosesUnlike m at s i) (sym is) closes

pub false_isnt_true : (b : Bool) → b ≡ false → IsTrue b → ⊥
false_isnt_true true fails holds = cc
false_isnt_true false fails holds = let same : false ≡ true = holds in cc

-- an `end` that can stand where it does closes a loop
pub never_unopened : (code : List Instr) (at : ℕ) → is_malformed code at ≡ false
    → slice_get code at ≡ Some End → first_of (open_at code at) ≡ None → ⊥
never_unopened code at formed here first =
    let placed : is_misplaced code at (Some End) ≡ false = ap (is_misplaced code at) (sym here)
    ∙ formed_place code at formed in
    let none : nat_eq (length (open_at code at)) 0 ≡ true =
    ap (λ (loops : List ℕ). nat_eq (length loops) 0) (none_open code at first) in
    cc

closes_other : (m : Member) (at : ℕ) (s : Abs) (i : Instr) → (i ≡ End → ⊥)
    → ClosesAlike m at s (Some i)
closes_other m at s End never = absurd (never refl)
closes_other m at s _ never = tt

pub other_there : (m : Member) (at : ℕ) (s : Abs) (i : Instr) → slice_get m.routine.code at ≡ Some i
    → (i ≡ End → ⊥)
    → ClosesAlike m at s (slice_get m.routine.code at)
other_there m at s i here never =
    subst (λ (x : Option Instr). ClosesAlike m at s x) (sym here) (closes_other m at s i never)
