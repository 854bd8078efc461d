-- One line at most is that of the instruction of a position of a routine of a driver.
use Rattle.std.proofs.Common.{◌≡◌, ◌∙◌, ◌+◌, ◌++◌, ◌≤◌, inl, inr, ℕ, suc, List, [], ◌∷◌, Option, Some, append-nil, ap, arith, length, refl, sym}
use Rattle.std.proofs.lemmas.Bool.Decides.{leb_tells}
use Rattle.std.proofs.lemmas.List.{length-append}
use Rattle.std.proofs.lemmas.List.Elements.{filter_map-append}
use Rattle.model.specs.declared.instr.Instr.{Instr}
use Rattle.asm_line.specs.declared.line.Body.{Body}
use Rattle.asm_line.specs.declared.line.Body.TheVariants.{OpenDriver, OpenRoutine, Step}
use Rattle.asm_line.specs.declared.line.Line.{Line}
use Rattle.asm.specs.Names.{Inventory, inventory}
use Rattle.asm.specs.Parts.{around, driver_around, driver_on, opens_driver, opens_routine, routine_around, routine_on, said, step_on, up_to}
use Rattle.asm.specs.Said.{instruction_on}
use Rattle.asm.proofs.Written.Devices.{around_split}
use Rattle.asm_places.specs.Standing.{OneLineEach, StandsOn}

-- lines in order, from the last to the first
turned : (before after rest : List Line)
    → around (around before after) rest ≡ around after (before ++ rest)
turned [] after rest = refl
turned (l ∷ before) after rest = turned before (l ∷ after) rest

-- so a line and those before it end them
ends_with : (all before after : List Line) (l : Line) → all ≡ around before (l ∷ after)
    → around all [] ≡ around after [] ++ l ∷ before
ends_with all before after l h =
    ap (λ (ls : List Line). around ls []) h
    ∙ turned before (l ∷ after) []
    ∙ ap (λ (ls : List Line). around after (l ∷ ls)) (append-nil before)
    ∙ around_split after (l ∷ before)

-- of two ends of one list the longer ends with the other one
longer_end : (xs ys others ends : List Line) → xs ++ ys ≡ others ++ ends
    → length ys ≤ length ends → (between : List Line) × (ends ≡ between ++ ys)
longer_end xs ys [] ends h long = (xs, sym h)
longer_end [] ys (o ∷ others) ends h long =
    let all : length ys ≡ suc (length (others ++ ends)) =
    ap (λ (ls : List Line). length ls) h in
    let more = length-append others ends in
    absurd (omega (arith, all, more, long))
longer_end (x ∷ xs) ys (o ∷ others) ends h long =
    let rest : xs ++ ys ≡ others ++ ends = cc in longer_end xs ys others ends rest long

-- what lines say, and those before them
more_said : {A : Type 0} (kind : Body → Option A) (between before : List Line)
    → length (said kind (between ++ before))
    ≡ length (said kind between) + length (said kind before)
more_said kind between before =
    ap (λ (xs : List _). length xs)
    (filter_map-append (λ (l : Line). kind l.body) between before)
    ∙ length-append (said kind between) (said kind before)

-- where no driver begins, one looks further back
past_line : (label : Option (List ℕ)) (body : Body) (between before : List Line)
    → length (said driver_on (record { label = label; body = body } ∷ between)) ≡ 0
    → (length (said driver_on between) ≡ 0
    → up_to opens_driver (between ++ before) ≡ between ++ up_to opens_driver before)
    → up_to opens_driver ((record { label = label; body = body } ∷ between) ++ before)
    ≡ (record { label = label; body = body } ∷ between) ++ up_to opens_driver before
past_line label (OpenDriver name) between before none later = absurd (omega (arith, none))
past_line label body between before none later =
    ap (λ (ls : List Line). record { label = label; body = body } ∷ ls) (later none)

past_driver : (between before : List Line) → length (said driver_on between) ≡ 0
    → up_to opens_driver (between ++ before) ≡ between ++ up_to opens_driver before
past_driver [] before none = refl
past_driver (l ∷ between) before none =
    past_line l.label l.body between before none (past_driver between before)

-- and where no routine begins
past_line_too : (label : Option (List ℕ)) (body : Body) (between before : List Line)
    → length (said routine_on (record { label = label; body = body } ∷ between)) ≡ 0
    → (length (said routine_on between) ≡ 0
    → up_to opens_routine (between ++ before) ≡ between ++ up_to opens_routine before)
    → up_to opens_routine ((record { label = label; body = body } ∷ between) ++ before)
    ≡ (record { label = label; body = body } ∷ between) ++ up_to opens_routine before
past_line_too label (OpenRoutine name sort) between before none later =
    absurd (omega (arith, none))
past_line_too label body between before none later =
    ap (λ (ls : List Line). record { label = label; body = body } ∷ ls) (later none)

past_routine : (between before : List Line) → length (said routine_on between) ≡ 0
    → up_to opens_routine (between ++ before) ≡ between ++ up_to opens_routine before
past_routine [] before none = refl
past_routine (l ∷ between) before none =
    past_line_too l.label l.body between before none (past_routine between before)

-- behind an instruction no place is again its own
not_again : (label : Option (List ℕ)) (body : Body) (has : Inventory) (code : List Line)
    (i : Instr) (before between later : List Line) → instruction_on has code body ≡ Some i
    → later ≡ between ++ record { label = label; body = body } ∷ before
    → length (said driver_on later) ≡ length (said driver_on before)
    → length (said routine_on (up_to opens_driver later))
    ≡ length (said routine_on (up_to opens_driver before))
    → length (said step_on (up_to opens_routine later))
    ≡ length (said step_on (up_to opens_routine before)) → ⊥
not_again label (Step (Some instr) used) has code i before between later says is drivers routines
    steps =
    let l : Line = record { label = label; body = Step (Some instr) used } in
    let count : length (said driver_on later)
    ≡ length (said driver_on between) + length (said driver_on before) =
    ap (λ (ls : List Line). length (said driver_on ls)) is
    ∙ more_said driver_on between (l ∷ before) in
    let no_driver : length (said driver_on between) ≡ 0 = omega (arith, count, drivers) in
    let inside : up_to opens_driver later ≡ between ++ l ∷ up_to opens_driver before =
    ap (up_to opens_driver) is ∙ past_driver between (l ∷ before) no_driver in
    let count_too : length (said routine_on (up_to opens_driver later))
    ≡ length (said routine_on between) + length (said routine_on (up_to opens_driver before)) =
    ap (λ (ls : List Line). length (said routine_on ls)) inside
    ∙ more_said routine_on between (l ∷ up_to opens_driver before) in
    let no_routine : length (said routine_on between) ≡ 0 = omega (arith, count_too, routines) in
    let within : up_to opens_routine later ≡ between ++ l ∷ up_to opens_routine before =
    ap (up_to opens_routine) is ∙ past_routine between (l ∷ before) no_routine in
    let more : length (said step_on (up_to opens_routine later))
    ≡ length (said step_on between) + suc (length (said step_on (up_to opens_routine before))) =
    ap (λ (ls : List Line). length (said step_on ls)) within
    ∙ more_said step_on between (l ∷ up_to opens_routine before) in
    omega (arith, more, steps)
not_again label body has code i before between later says is drivers routines steps = cc

-- of two lines of one place none stands behind the other
same_there : (all : List Line) (driver routine position : ℕ) (i j : Instr) (n m : ℕ)
    (one : StandsOn all driver routine position i n)
    (other : StandsOn all driver routine position j m)
    → (between : List Line) → other.line ∷ other.before ≡ between ++ one.line ∷ one.before
    → n ≡ m
same_there all driver routine position i j n m one other [] is =
    let same : other.before ≡ one.before = cc in
    sym one.numbered ∙ ap (λ (ls : List Line). length ls + 1) (sym same) ∙ other.numbered
same_there all driver routine position i j n m one other (b ∷ between) is =
    let later : other.before ≡ between ++ one.line ∷ one.before = cc in
    absurd (not_again one.line.label one.line.body
    (inventory (driver_around one.before (one.line ∷ one.after)))
    (routine_around one.before (one.line ∷ one.after)) i one.before between other.before one.says
    later (other.in_driver ∙ sym one.in_driver) (other.in_routine ∙ sym one.in_routine)
    (other.in_order ∙ sym one.in_order))

not_before : (all : List Line) (driver routine position : ℕ) (i j : Instr) (n m : ℕ)
    → StandsOn all driver routine position i n → StandsOn all driver routine position j m
    → n ≤ m → n ≡ m
not_before all driver routine position i j n m one other less =
    let first = one.numbered in
    let second = other.numbered in
    let end = longer_end (around one.after []) (one.line ∷ one.before) (around other.after [])
    (other.line ∷ other.before)
    (sym (ends_with all one.before one.after one.line one.split)
    ∙ ends_with all other.before other.after other.line other.split)
    (omega (arith, first, second, less)) in
    same_there all driver routine position i j n m one other end.0 end.1

pub one_line_each : OneLineEach
one_line_each all driver routine position i j n m one other =
    elim (leb_tells n m) [
      | inl less ↦ not_before all driver routine position i j n m one other less.1
      | inr more ↦
          let less = more.1 in
          sym (not_before all driver routine position j i m n other one (omega (arith, less)))
    ]
