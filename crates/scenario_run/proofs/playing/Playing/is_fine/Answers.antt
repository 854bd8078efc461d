use Rattle.std.proofs.Common.{◌≡◌, IfOk, subst}
use Rattle.std.specs.Prelude.{IfSome, is_none}
use Rattle.tell_audit.specs.Ends.{amiss_in}
use Rattle.scenario_run.specs.Past.{events_of}
use Rattle.scenario_run.specs.Playing.{Playing, run_of}
use Rattle.scenario_run.proofs.Running.{fine_in}
use Rattle.scenario_run.proofs.playing.Playing.is_fine.Goals as goal

pub returns : goal.returns
returns c =
    subst (λ (p : Playing). IfOk c.is_fine.result (λ fine. IfSome fine
    (λ fine. fine ≡ is_none (amiss_in p.set (run_of p))))) c.self.view_is
    (fine_in c.self.inside.runner c.self.inside.threads (events_of c.self.inside.past.items)
    c.is_fine.result c.self.invariant.runs c.is_fine.ensures)
