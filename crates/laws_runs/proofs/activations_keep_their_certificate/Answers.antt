use Rattle.laws_runs.proofs.Accepted.Laws.{accepted_certificates}
use Rattle.laws_runs.proofs.activations_keep_their_certificate.Goals as goal

pub returns : goal.returns
returns c = accepted_certificates
