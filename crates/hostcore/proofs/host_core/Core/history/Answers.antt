use Rattle.std.proofs.Common.{subst}
use Rattle.model.specs.History.{events_of}
use Rattle.laws_runs.specs.Rules.{KeepsTheRules}
use Rattle.hostcore.specs.Core.{CoreState}
use Rattle.hostcore.proofs.host_core.Core.history.Goals as goal

pub returns-clause-rules : goal.returns-clause-rules
returns-clause-rules c =
    subst (λ (core : CoreState). KeepsTheRules core.set core.threads (events_of core.history))
    c.self.view_is (c.self.invariant.rules (events_of c.self.inside.log.entries))
