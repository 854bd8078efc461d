use Rattle.tell_audit.proofs.Leaving.{leaves_none}
use Rattle.tell_audit.proofs.laws.accepted_runs_leave_no_lock.Goals as goal

pub returns : goal.returns
returns c = leaves_none
