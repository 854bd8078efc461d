use Rattle.std.proofs.Common.{◌∙◌, sym}
use Rattle.devqueue.proofs.Unlinked.{none_linked, none_unlinked}
use Rattle.devqueue.proofs.guarded.Guarded.unlink.Goals as goal

pub returns-in_default-clause-found : goal.returns-in_default-clause-found
returns-in_default-clause-found c =
    rw (← c.self.view_is)
    (sym (none_linked c.self.inside.entries c.args.n
    (sym c.place_of.ensures.first ∙ c.in_default.is)))

pub returns-in_default-clause-rest : goal.returns-in_default-clause-rest
returns-in_default-clause-rest c =
    rw (← c.self.view_is)
    (sym (none_unlinked c.self.inside.entries c.args.n
    (sym c.place_of.ensures.first ∙ c.in_default.is)))
