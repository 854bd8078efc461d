use Rattle.std.proofs.Common.{◌∙◌, ◌+◌, List, ap, arith, drop, length, remove, sym, ℕ}
use Rattle.std.proofs.lemmas.List.Edits.{length-remove}
use Rattle.devqueue.proofs.Rows.{removed_behind, within_all, without_one}
use Rattle.devqueue.proofs.row.Row.remove.Goals as goal
use Rattle.devqueue.proofs.row.Row.remove.Goals.{then-place-count, else-place-count}

pub invariant_of-self : goal.invariant_of-self
invariant_of-self c =
    let at = rw (← c.self.view_is) at c.requires in
    let within = within_all c.self.inside.numbers.items c.self.inside.gone c.args.place at in
    let same = c.move_up_behind.ensures.length in
    without_one c.self.inside.numbers.items c.move_up_behind.new.numbers.items c.self.inside.gone
    (c.self.inside.gone + 1) c.args.place _ _ c.self.inside.rising c.self.invariant at
    c.move_up_behind.ensures.moved (omega (arith, within)) (omega arith)
    (sym c.move_up_behind.ensures.capacity)

pub invariant_of-self-else-place-count : goal.invariant_of-self-else-place-count
invariant_of-self-else-place-count c =
    let at = rw (← c.self.view_is) at c.requires in
    let numbers = c.self.inside.numbers.items in
    let gone = c.self.inside.gone in
    let within = within_all numbers gone c.args.place at in
    let count = length-remove numbers (gone + c.args.place) within in
    let equal = ap (λ (xs : List ℕ). length xs) c.remove-number.ensures.items in
    without_one numbers c.remove-number.new.self.items gone gone c.args.place _ _
    c.self.inside.rising c.self.invariant at
    (ap (λ (xs : List ℕ). drop gone xs) c.remove-number.ensures.items
    ∙ removed_behind numbers gone c.args.place within)
    (omega (arith, within)) (omega arith) (sym c.remove-number.ensures.capacity)

pub returns : goal.returns
returns c =
    let at = rw (← c.self.view_is) at c.requires in
    let within = within_all c.self.inside.numbers.items c.self.inside.gone c.args.place at in
    c.settle.ensures
    ∙ elim c.if-place-count.branch [
      | then-place-count w ↦ w.self-is
          ∙ w.move_up_behind.ensures.moved
          ∙ ap (λ (xs : List ℕ). remove xs c.args.place) c.self.view_is
      | else-place-count w ↦ w.self-is
          ∙ ap (λ (xs : List ℕ). drop c.self.inside.gone xs) w.remove-number.ensures.items
          ∙ removed_behind c.self.inside.numbers.items c.self.inside.gone c.args.place within
          ∙ ap (λ (xs : List ℕ). remove xs c.args.place) c.self.view_is
    ]
