use Rattle.std.proofs.Common.{refl}
use Rattle.tell_uses.proofs.ledger.Ledger.leave.Goals as goal

pub returns-in-Up-clause-uses : goal.returns-in-Up-clause-uses
returns-in-Up-clause-uses c =
    rw (← c.self.view_is, c.in-Up.is)
    (c.leave.new.self, c.leave.ensures, (c.up.new.self, c.up.ensures, refl))

pub returns-in-UpMarked-clause-uses : goal.returns-in-UpMarked-clause-uses
returns-in-UpMarked-clause-uses c =
    rw (← c.self.view_is, c.in-UpMarked.is) (
      c.leave.new.self,
      c.leave.ensures,
      (
        c.up-in-UpMarked.new.self,
        c.up-in-UpMarked.ensures,
        (c.mark.new.self, c.mark.ensures, refl),
      ),
    )
