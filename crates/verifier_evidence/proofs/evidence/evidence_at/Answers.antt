use Rattle.std.proofs.Common.{◌∙◌, sym, subst}
use Rattle.model.specs.declared.abs.Rule.{Rule}
use Rattle.model.specs.Typable.{IsFaultAt}
use Rattle.verifier_evidence.proofs.Cases.{malformed_of, unreachable_of, unentered_of}
use Rattle.verifier_evidence.proofs.evidence.evidence_at.Goals as goal

pub returns-in-Malformed : goal.returns-in-Malformed
returns-in-Malformed c = (
  c.in-Malformed.is,
  malformed_of c.args.subject c.args.at
      (subst (λ (r : Rule). IsFaultAt c.args.subject c.args.at r) c.in-Malformed.is c.requires.fault),
)

pub returns-in-Unreachable : goal.returns-in-Unreachable
returns-in-Unreachable c = (
  c.in-Unreachable.is,
  unreachable_of c.args.subject c.args.at
      (subst (λ (r : Rule). IsFaultAt c.args.subject c.args.at r) c.in-Unreachable.is
      c.requires.fault),
)

pub returns-in-None : goal.returns-in-None
returns-in-None c =
    unentered_of c.args.subject c.args.at c.args.rule c.in_default.not-Malformed
    (sym c.entry.ensures ∙ c.in-None.is) c.requires.fault
