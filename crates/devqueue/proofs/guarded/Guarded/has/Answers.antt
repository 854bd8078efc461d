use Rattle.std.proofs.Common.{◌∙◌, ap, Option, ℕ}
use Rattle.std.specs.Prelude.{is_some}
use Rattle.devqueue.proofs.Unlinked.{found_linked}
use Rattle.devqueue.proofs.guarded.Guarded.has.Goals as goal

pub returns : goal.returns
returns c =
    rw (← c.self.view_is)
    (c.is_some.ensures
    ∙ ap (λ (place : Option ℕ). is_some place) c.place_of.ensures.first
    ∙ found_linked c.self.inside.entries c.args.n)
