use Rattle.std.proofs.Common.{◌≡◌, Some, None, refl, sym, subst, ◌∙◌}
use Rattle.model.specs.History.{IsLegal, outcome_named}
use Rattle.hostcore.specs.Core.{CoreState}
use Rattle.hostcore.proofs.Owing.{not_owed, owed}
use Rattle.hostcore.proofs.host_core.Core.collect.Goals as goal

pub returns-in-Some-clause-owed : goal.returns-in-Some-clause-owed
returns-in-Some-clause-owed c = (
  λ no. cc,
  λ owes.
      absurd
      (not_owed c.top_outs_are_told.ensures c.args.self.now c.args.ticket
      (subst (λ (s : CoreState). IsLegal s.set s.threads s.history) c.self.view_is
      c.self.invariant.legal) c.in-Some.outcome
      (subst (λ (s : CoreState). outcome_named s.history c.args.ticket ≡ Some c.in-Some.outcome)
      c.self.view_is (rw (sym c.name.ensures) (sym c.outcome.ensures ∙ c.in-Some.is))) owes),
)

pub returns-in-None-clause-owed : goal.returns-in-None-clause-owed
returns-in-None-clause-owed c = (
  λ yes.
      owed c.top_outs_are_told.ensures c.args.self.now c.args.ticket
      (subst (λ (s : CoreState). IsLegal s.set s.threads s.history) c.self.view_is
      c.self.invariant.legal)
      (subst (λ (s : CoreState). outcome_named s.history c.args.ticket ≡ None) c.self.view_is
      (rw (sym c.name.ensures) (sym c.outcome.ensures ∙ c.in-None.is))),
  λ owes. refl,
)
