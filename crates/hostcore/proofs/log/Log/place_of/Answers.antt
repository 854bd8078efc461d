use Rattle.std.proofs.Common.{ℕ, Option, subst, sym}
use Rattle.hostcore.specs.Indexed.{IsPlaceOf}
use Rattle.hostcore.proofs.log.Log.place_of.Goals as goal

pub returns : goal.returns
returns c =
    rw (sym c.self.view_is)
    (subst (λ (o : Option ℕ). IsPlaceOf c.self.inside.entries.items c.args.name o)
    (sym c.get.ensures) (c.self.invariant.6.placed c.args.name))
