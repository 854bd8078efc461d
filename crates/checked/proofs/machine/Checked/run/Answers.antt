use Rattle.std.proofs.Common.{subst}
use Rattle.model.specs.Set.{Set}
use Rattle.model.specs.Sound.{IsSound}
use Rattle.checked.proofs.machine.Checked.run.Goals as goal

pub returns-clause-rules : goal.returns-clause-rules
returns-clause-rules c = λ typable.
    c.accepted_runs_keep_the_rules.ensures c.args.set typable
    (subst (λ (s : Set). IsSound s) c.in-Ok.ensures.set c.in-Ok.ensures.sound) c.args.threads
    c.args.events.now
