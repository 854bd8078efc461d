use Rattle.intake.proofs.Beginning.{begins}
use Rattle.intake.proofs.shared.Intake.new.Goals as goal

pub ruled-requires-clause-rule : goal.ruled-requires-clause-rule
ruled-requires-clause-rule c = begins
