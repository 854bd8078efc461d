-- The lines of a routine's instructions are those on which they stand. The lines of a text are
-- walked once: up to the line of the driver, in it up to that of the routine, and to its end.
use Rattle.std.proofs.Common.{◌≡◌, ◌∙◌, ◌+◌, ℕ, zero, suc, true, List, [], ◌∷◌, Option, Some, None, length, ap, arith, refl, subst, sym}
use Rattle.std.specs.Prelude.{slice_get}
use Rattle.text.specs.Cut.{lines_of}
use Rattle.model.specs.declared.set.Driver.{Driver}
use Rattle.model.specs.declared.set.Routine.{Routine}
use Rattle.model.specs.Set.{Set}
use Rattle.asm_line.specs.declared.line.Body.{Body}
use Rattle.asm_line.specs.declared.line.Body.TheVariants.{Blank, OpenDriver, CloseDriver, OpenRoutine, CloseRoutine, Step}
use Rattle.asm_line.specs.declared.line.Line.{Line}
use Rattle.asm.specs.declared.draft.Place.{Place}
use Rattle.asm.specs.declared.draft.Place.TheVariants.{Outside, InRoutine as OfRoutine}
use Rattle.asm.specs.Faults.{has_room, is_again, is_out_of_range, misfit, stands}
use Rattle.asm.specs.Laws.{AreFine, SetIsOfItsLines}
use Rattle.asm.specs.Names.{Inventory, inventory}
use Rattle.asm.specs.Parts.{around, closes_driver, closes_routine, driver_around, driver_on, opens_driver, opens_routine, place_after, routine_around, routine_on, said, step_on, up_to}
use Rattle.asm.specs.Said.{driver_of, drivers_on, instruction_on, routines_on}
use Rattle.asm.proofs.Fitting.{none_chosen, only_outside}
use Rattle.asm_places.specs.declared.source.Sought.TheVariants.{Driver as InDriver, Routine as InRoutine, End, Nothing}
use Rattle.asm_places.specs.Source.{counted, instruction_lines, lines_from, past}
use Rattle.asm_places.specs.Standing.{AreLinesOf, StandOn}

abbrev line : Option (List ℕ) → Body → Line
line label body = record { label = label; body = body }

-- a line without a fault may stand where it is
stood : (before : List Line) (l : Line) → misfit before l ≡ None
    → stands (place_after before) l.body ≡ true
stood before l fits =
    (none_chosen (stands (place_after before) l.body) (is_again before l.label l.body)
    (is_out_of_range l.body) (has_room before l.body) fits).0

-- where nothing is sought no line is counted
none_left : (routine n : ℕ) (raws : List (List ℕ)) → lines_from routine Nothing n raws ≡ []
none_left routine n [] = refl
none_left routine n (raw ∷ raws) = none_left routine (n + 1) raws

-- these are the lines from the one of this number on, behind those lines
record Reached (all before : List Line) (n : ℕ) (ls : List Line) : Type 0 where
  whole : all ≡ around before ls
  count : length before + 1 ≡ n

next_reached : (all before : List Line) (n : ℕ) (l : Line) (ls : List Line)
    → Reached all before n (l ∷ ls) → Reached all (l ∷ before) (n + 1) ls
next_reached all before n l ls h =
    record { whole = h.whole; count = let count = h.count in omega (arith, count) }

module _ (all : List Line) (driver routine : ℕ) where
  -- ---- in the routine, up to its end

  record IsWithin (has : Inventory) (code before ls : List Line) : Type 0 where
    place : place_after before ≡ OfRoutine
    in_driver : length (said driver_on before) ≡ driver + 1
    in_routine : length (said routine_on (up_to opens_driver before)) ≡ routine + 1
    has_these : inventory (driver_around before ls) ≡ has
    has_code : routine_around before ls ≡ code

  module _ (has : Inventory) (code before : List Line) (label : Option (List ℕ)) (n position : ℕ)
      (raws : List (List ℕ)) (ls : List Line) where
    abbrev StandLater : Body → Type 0
    StandLater body = (next : ℕ) → IsWithin has code (line label body ∷ before) ls
        → length (said step_on (up_to opens_routine (line label body ∷ before))) ≡ next
        → StandOn all driver routine next (said (instruction_on has code) (up_to closes_routine ls))
        (lines_from routine End (n + 1) raws)

    line_to_end : (body : Body) → misfit before (line label body) ≡ None
        → Reached all before n (line label body ∷ ls)
        → IsWithin has code before (line label body ∷ ls)
        → length (said step_on (up_to opens_routine before)) ≡ position → StandLater body
        → StandOn all driver routine position
        (said (instruction_on has code) (up_to closes_routine (line label body ∷ ls)))
        (counted End body n (lines_from routine (past routine End body) (n + 1) raws))
    line_to_end Blank fits reached h order later = later position (record {
      place = h.place;
      in_driver = h.in_driver;
      in_routine = h.in_routine;
      has_these = h.has_these;
      has_code = h.has_code;
    }) order
    line_to_end (Step (Some i) used) fits reached h order later = (
      record {
        before = before;
        line = line label (Step (Some i) used);
        after = ls;
        split = reached.whole;
        numbered = reached.count;
        in_driver = h.in_driver;
        in_routine = h.in_routine;
        in_order = order;
        says =
            ap (λ (x : Inventory). instruction_on x
            (routine_around before (line label (Step (Some i) used) ∷ ls)) (Step (Some i) used))
            h.has_these
            ∙ ap (λ (x : List Line). instruction_on has x (Step (Some i) used)) h.has_code;
      },
      later (suc position) (record {
        place = h.place;
        in_driver = h.in_driver;
        in_routine = h.in_routine;
        has_these = h.has_these;
        has_code = h.has_code;
      }) (ap suc order),
    )
    line_to_end (Step None used) fits reached h order later =
        let all = none_chosen (stands (place_after before) (Step None used))
        (is_again before label (Step None used)) true (has_room before (Step None used)) fits in
        let bad = all.2 in cc
    line_to_end CloseRoutine fits reached h order later =
        subst (λ (numbers : List ℕ). StandOn all driver routine position [] numbers)
        (sym (none_left routine (n + 1) raws)) tt
    line_to_end body fits reached h order later =
        let here : stands OfRoutine body ≡ true =
        subst (λ (p : Place). stands p body ≡ true) h.place (stood before (line label body) fits) in
        cc

  stand_to_end : (has : Inventory) (code before : List Line) (n position : ℕ)
      (raws : List (List ℕ)) (ls : List Line) → AreFine before raws ls → Reached all before n ls
      → IsWithin has code before ls → length (said step_on (up_to opens_routine before)) ≡ position
      → StandOn all driver routine position
      (said (instruction_on has code) (up_to closes_routine ls)) (lines_from routine End n raws)
  stand_to_end has code before n position [] [] fine reached h order = tt
  stand_to_end has code before n position [] (l ∷ ls) fine reached h order = absurd fine
  stand_to_end has code before n position (raw ∷ raws) [] fine reached h order = absurd fine
  stand_to_end has code before n position (raw ∷ raws) (l ∷ ls) fine reached h order =
      rw fine.0 (line_to_end has code before l.label n position raws ls l.body fine.1.0 reached h
      order (λ next. stand_to_end has code (l ∷ before) (n + 1) next raws ls fine.1.1
      (next_reached all before n l ls reached)))

  -- ---- in the driver, up to the line of the routine

  record IsInside (inside before ls : List Line) : Type 0 where
    place : place_after before ≡ Outside → ⊥
    in_driver : length (said driver_on before) ≡ driver + 1
    has_lines : driver_around before ls ≡ inside

  module _ (inside before : List Line) (label : Option (List ℕ)) (n : ℕ) (raws : List (List ℕ))
      (ls : List Line) (r : Routine) where
    abbrev StandHere : Body → Type 0
    StandHere body =
        IsWithin (inventory inside) (up_to closes_routine ls) (line label body ∷ before) ls
        → length (said step_on (up_to opens_routine (line label body ∷ before))) ≡ 0
        → StandOn all driver routine 0
        (said (instruction_on (inventory inside) (up_to closes_routine ls))
        (up_to closes_routine ls)) (lines_from routine End (n + 1) raws)

    abbrev StandBehind : Body → Type 0
    StandBehind body = (k : ℕ) → IsInside inside (line label body ∷ before) ls
        → length (said routine_on (up_to opens_driver (line label body ∷ before))) + k ≡ routine
        → slice_get (routines_on (inventory inside) ls) k ≡ Some r
        → StandOn all driver routine 0 r.code (lines_from routine (InRoutine k) (n + 1) raws)

    line_to_routine : (k : ℕ) (body : Body) → misfit before (line label body) ≡ None
        → IsInside inside before (line label body ∷ ls)
        → length (said routine_on (up_to opens_driver before)) + k ≡ routine
        → slice_get (routines_on (inventory inside) (line label body ∷ ls)) k ≡ Some r
        → StandHere body → StandBehind body
        → StandOn all driver routine 0 r.code
        (lines_from routine (past routine (InRoutine k) body) (n + 1) raws)
    line_to_routine k (OpenDriver name) fits h count at here later =
        absurd (h.place (only_outside (place_after before) (OpenDriver name) refl refl
        (stood before (line label (OpenDriver name)) fits)))
    line_to_routine k CloseDriver fits h count at here later = cc
    line_to_routine zero (OpenRoutine name sort) fits h count at here later =
        let code = said (instruction_on (inventory inside) (up_to closes_routine ls))
        (up_to closes_routine ls) in
        let opened : Routine = record { sort = sort; code = code } in
        let same : opened ≡ r = cc in
        subst (λ (r : Routine). StandOn all driver routine 0 r.code
        (lines_from routine End (n + 1) raws)) same (here (record {
          place = refl;
          in_driver = h.in_driver;
          in_routine = omega (arith, count);
          has_these = ap inventory h.has_lines;
          has_code = refl;
        }) refl)
    line_to_routine (suc k) (OpenRoutine name sort) fits h count at here later =
        later k (record {
          place = λ is. cc;
          in_driver = h.in_driver;
          has_lines = h.has_lines;
        }) (omega (arith, count)) at
    line_to_routine k CloseRoutine fits h count at here later =
        later k (record {
          place = λ is. cc;
          in_driver = h.in_driver;
          has_lines = h.has_lines;
        }) count at
    line_to_routine k body fits h count at here later =
        later k (record {
          place = h.place;
          in_driver = h.in_driver;
          has_lines = h.has_lines;
        }) count at

  stand_in_routine : (inside before : List Line) (n : ℕ) (raws : List (List ℕ)) (ls : List Line)
      (r : Routine) → AreFine before raws ls → Reached all before n ls → (k : ℕ)
      → IsInside inside before ls
      → length (said routine_on (up_to opens_driver before)) + k ≡ routine
      → slice_get (routines_on (inventory inside) ls) k ≡ Some r
      → StandOn all driver routine 0 r.code (lines_from routine (InRoutine k) n raws)
  stand_in_routine inside before n [] [] r fine reached k h count at = cc
  stand_in_routine inside before n [] (l ∷ ls) r fine reached k h count at = absurd fine
  stand_in_routine inside before n (raw ∷ raws) [] r fine reached k h count at = absurd fine
  stand_in_routine inside before n (raw ∷ raws) (l ∷ ls) r fine reached k h count at =
      let next = next_reached all before n l ls reached in
      rw fine.0 (line_to_routine inside before l.label n raws ls r k l.body fine.1.0 h count at
      (stand_to_end (inventory inside) (up_to closes_routine ls) (l ∷ before) (n + 1) 0 raws ls
      fine.1.1 next)
      (stand_in_routine inside (l ∷ before) (n + 1) raws ls r fine.1.1 next))

  -- ---- up to the line of the driver

  module _ (before : List Line) (label : Option (List ℕ)) (n : ℕ) (raws : List (List ℕ))
      (ls : List Line) (d : Driver) (r : Routine) where
    abbrev StandInside : Body → Type 0
    StandInside body = IsInside (up_to closes_driver ls) (line label body ∷ before) ls
        → length (said routine_on (up_to opens_driver (line label body ∷ before))) + routine
        ≡ routine
        → slice_get (routines_on (inventory (up_to closes_driver ls)) ls) routine ≡ Some r
        → StandOn all driver routine 0 r.code (lines_from routine (InRoutine routine) (n + 1) raws)

    abbrev StandBeyond : Body → Type 0
    StandBeyond body = (k : ℕ) → length (said driver_on (line label body ∷ before)) + k ≡ driver
        → slice_get (drivers_on ls) k ≡ Some d
        → StandOn all driver routine 0 r.code (lines_from routine (InDriver k) (n + 1) raws)

    line_to_driver : (k : ℕ) (body : Body) → length (said driver_on before) + k ≡ driver
        → slice_get (drivers_on (line label body ∷ ls)) k ≡ Some d
        → slice_get d.routines routine ≡ Some r → StandInside body → StandBeyond body
        → StandOn all driver routine 0 r.code
        (lines_from routine (past routine (InDriver k) body) (n + 1) raws)
    line_to_driver zero (OpenDriver name) count at routine_there here later =
        let inside = up_to closes_driver ls in
        let same : driver_of (inventory inside) inside ls ≡ d = cc in
        here (record { place = λ is. cc; in_driver = omega (arith, count); has_lines = refl })
        (omega arith)
        (ap (λ (d : Driver). slice_get d.routines routine) same ∙ routine_there)
    line_to_driver (suc k) (OpenDriver name) count at routine_there here later =
        later k (omega (arith, count)) at
    line_to_driver k body count at routine_there here later = later k count at

  stand_in_driver : (before : List Line) (n : ℕ) (raws : List (List ℕ)) (ls : List Line)
      (d : Driver) (r : Routine) → AreFine before raws ls → Reached all before n ls → (k : ℕ)
      → length (said driver_on before) + k ≡ driver → slice_get (drivers_on ls) k ≡ Some d
      → slice_get d.routines routine ≡ Some r
      → StandOn all driver routine 0 r.code (lines_from routine (InDriver k) n raws)
  stand_in_driver before n [] [] d r fine reached k count at there = cc
  stand_in_driver before n [] (l ∷ ls) d r fine reached k count at there = absurd fine
  stand_in_driver before n (raw ∷ raws) [] d r fine reached k count at there = absurd fine
  stand_in_driver before n (raw ∷ raws) (l ∷ ls) d r fine reached k count at there =
      let next = next_reached all before n l ls reached in
      rw fine.0 (line_to_driver before l.label n raws ls d r k l.body count at there
      (stand_in_routine (up_to closes_driver ls) (l ∷ before) (n + 1) raws ls r fine.1.1 next
      routine)
      (λ k count at. stand_in_driver (l ∷ before) (n + 1) raws ls d r fine.1.1 next k count at
      there))

-- the lines that were found are those of the routine
pub are_lines_of : SetIsOfItsLines → (text : List ℕ) (driver routine : ℕ)
    → AreLinesOf text driver routine (instruction_lines driver routine text)
are_lines_of law text driver routine set d r named driver_there routine_there =
    let its = law text set named in
    let all = its.0.lines in
    let there : slice_get (drivers_on all) driver ≡ Some d =
    ap (λ (set : Set). slice_get set.drivers driver) (sym its.1) ∙ driver_there in (
      its.0,
      stand_in_driver all driver routine [] 1 (lines_of text) all d r its.0.read
          (record { whole = refl; count = refl }) driver (omega arith) there routine_there,
    )
