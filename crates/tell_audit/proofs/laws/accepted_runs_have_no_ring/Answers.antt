use Rattle.tell_audit.proofs.Ringing.{no_ring}
use Rattle.tell_audit.proofs.laws.accepted_runs_have_no_ring.Goals as goal

pub returns : goal.returns
returns c = no_ring c.accepted_runs_come_to_rest.ensures
