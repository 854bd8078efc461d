use Rattle.std.proofs.Common.{IfOk, Option, Result, subst, sym, ℕ}
use Rattle.interleave.specs.declared.schedule.ScheduleKind.{ScheduleKind}
use Rattle.interleave.proofs.Limits.{IsThreads, threads_bounds}
use Rattle.interleave.proofs.opening.threads_on.Goals as goal

pub returns-clause-bounds : goal.returns-clause-bounds
returns-clause-bounds c =
    subst (λ (r : Result (Option ℕ) ScheduleKind). IfOk r IsThreads) (sym c.opening_line.ensures)
    (threads_bounds c.args.line.now)
