use Rattle.drvhost_many.proofs.Colored.{painted_rightly}
use Rattle.drvhost_many.proofs.painting.InColorJob.answer.Goals as goal

pub returns : goal.returns
returns g c =
    painted_rightly _ (g.J.Job.right c.args.self.now.job c.args.set.now) c.args.self.now.coloring
    c.in_ok-told.told c.in_ok-told.ensures c.colored.ensures
