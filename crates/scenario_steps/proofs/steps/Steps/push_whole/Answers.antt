use Rattle.std.proofs.Common.{rules, ◌≡◌, ◌∙◌, ◌++◌, ◌∷◌, [], ap, length}
use Rattle.scenario_steps.proofs.Keeping.{whole_in, whole_pushed}
use Rattle.scenario_steps.specs.declared.steps.Kept.TheVariants.{Whole}
use Rattle.scenario_steps.proofs.steps.Steps.push_whole.Goals as goal

pub invariant_of-self-2 : goal.invariant_of-self-2
invariant_of-self-2 c =
    let whole = c.self.inside.whole.items in
    let kept = c.self.inside.kept.items in
    let next = c.push_reserved.new.self.items in
    let pushed : next ≡ kept ++ Whole (length whole) ∷ [] = search rules in
    whole_in whole c.args.step c.push.new.self.items kept next c.in_ok-push.ensures.items pushed
    c.self.invariant

pub returns-clause-pushed : goal.returns-clause-pushed
returns-clause-pushed c =
    let whole = c.self.inside.whole.items in
    let kept = c.self.inside.kept.items in
    let next = c.push_reserved.new.self.items in
    let pushed : next ≡ kept ++ Whole (length whole) ∷ [] = search rules in
    whole_pushed whole c.args.step c.push.new.self.items kept next c.in_ok-push.ensures.items pushed
    c.self.invariant
    ∙ ap (λ steps. steps ++ c.args.step ∷ []) c.self.view_is
