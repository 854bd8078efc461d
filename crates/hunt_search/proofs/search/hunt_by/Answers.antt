use Rattle.std.proofs.Common.{IfSome, Option, subst}
use Rattle.hunt_search.specs.declared.search.Find.{Find}
use Rattle.hunt_search.specs.Hunts.{IsFind}
use Rattle.hunt_search.proofs.search.hunt_by.Goals as goal

pub returns-in-Some : goal.returns-in-Some
returns-in-Some g c =
    subst (λ (found : Option Find). IfSome found (IsFind c.args.set.now c.args.plan.now))
    c.in-Some.is c.in_ok-find.ensures

pub returns : goal.returns
returns g c = c.none_found.ensures c.args.set.now c.args.plan.now
