use Rattle.std.proofs.Common.{◌∙◌, ap, List, nat_eq, ℕ}
use Rattle.std.specs.List.{list_any}
use Rattle.scenario_run.proofs.told.Told.has_bug.Goals as goal

pub returns : goal.returns
returns c told are =
    c.contains.ensures.value
    ∙ ap (λ (bugs : List ℕ). list_any (λ (b : ℕ). nat_eq b c.args.number) bugs)
    c.as_slice.ensures.value
    ∙ are.bugs c.args.number
