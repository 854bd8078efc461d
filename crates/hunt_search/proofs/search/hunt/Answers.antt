use Rattle.std.proofs.Common.{IfOk, subst}
use Rattle.hunt_facts.specs.declared.bounds.Bounds.{Bounds}
use Rattle.hunt_search.specs.Hunts.{IsHunted}
use Rattle.hunt_search.proofs.search.hunt.Goals as goal

pub returns : goal.returns
returns g c =
    subst (λ (bounds : Bounds). IfOk c.hunt_by.result (IsHunted c.args.set.now bounds))
    c.in_ok-plan.ensures c.hunt_by.ensures
