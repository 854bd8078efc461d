use Rattle.std.proofs.Common.{◌≡◌, ◌∙◌, sym, false}
use Rattle.std.specs.List.{list_any}
use Rattle.absstate.specs.Same.{has_list}
use Rattle.absstate.proofs.Releasing.{none_in_need}
use Rattle.absstate.proofs.cancel.is_any_in_need.Goals as goal

pub returns-else-tracked : goal.returns-else-tracked
returns-else-tracked c =
    let none : list_any has_list c.tracked.inside.state.kinds ≡ false =
    sym c.tracked.invariant ∙ c.if-tracked.false in
    rw (← c.tracked.view_is) (c.if-tracked.false ∙ none_in_need c.args.set.now c.args.driver c.args.lock.now
    c.tracked.inside.state.kinds none)
