use Rattle.std.proofs.Common.{◌≡◌, ℕ, List, subst, sym}
use Rattle.std.specs.Prelude.{IfOk, Result, Ok, Err}
use Rattle.text.specs.Places.{numbers}
use Rattle.asm_places.specs.Standing.{AreLinesOf}
use Rattle.asm_places.proofs.source.instruction_lines.Goals as goal

-- what holds of numbers holds of a list of them
on_items : {A E : Type 0} (r : Result A E) (items : A → List ℕ) (found : List ℕ)
    (P : List ℕ → Type 0) → IfOk r (λ a. items a ≡ found) → P found → IfOk r (λ a. P (items a))
on_items (Ok a) items found P is h = subst P (sym is) h
on_items (Err e) items found P is h = tt

pub returns-clause-stand : goal.returns-clause-stand
returns-clause-stand c =
    on_items c.numbers.result (λ v. v.items) (numbers c.in_ok-source.source.lines)
    (AreLinesOf c.args.text.now c.args.driver c.args.routine) c.numbers.ensures
    c.in_ok-source.ensures.stand
