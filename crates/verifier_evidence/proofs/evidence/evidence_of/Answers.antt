use Rattle.std.proofs.Common.{inl}
use Rattle.verifier_evidence.proofs.Refusals.{for_memory}
use Rattle.verifier_evidence.proofs.evidence.evidence_of.Goals as goal

pub returns-in-Memory : goal.returns-in-Memory
returns-in-Memory c = inl (for_memory c.args.set.now c.args.refusal.now c.requires c.in-Memory.is)
