use Rattle.std.proofs.Common.{IfOk, Option, subst, sym}
use Rattle.tell_audit.specs.declared.amiss.Amiss.{Amiss}
use Rattle.tell_audit.specs.Ends.{EndsAs}
use Rattle.tell_audit.proofs.ending.ending_at.Goals as goal

pub returns-in-None : goal.returns-in-None
returns-in-None c =
    subst (λ (found : Option Amiss). IfOk c.standing_at.result (EndsAs found c.args.machine.now.world))
    (sym c.in-None.is) c.standing_at.ensures
