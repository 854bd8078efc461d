use Rattle.std.proofs.Common.{ap, ◌∙◌}
use Rattle.intake.specs.Kept.{KeepsSubmitter}
use Rattle.intake.proofs.Keeping.{numbered_kept, put_kept}
use Rattle.intake.proofs.Putting.{puts}
use Rattle.intake.proofs.submitter.Submitter.submit.Goals as goal

pub push_as-requires-clause-rule : goal.push_as-requires-clause-rule
push_as-requires-clause-rule g c =
    let kept = c.self.invariant in
    let named = ap (λ x. x.name) c.open-ticket.ensures.queued in
    (puts _ _ _ _ kept.some_share (named ∙ kept.next_name), λ items views fair at. tt)

pub invariant_of-self : goal.invariant_of-self
invariant_of-self g c =
    let opened = c.open-ticket.ensures in
    put_kept c.self.inside.desk _ c.self.inside.pass _ c.open-ticket.result.1 c.self.invariant
    c.in-Ok.ensures.queue c.in-Ok.ensures.rule (ap (λ x. x.name) opened.queued) opened.counted

pub returns-in-Ok-clause-names : goal.returns-in-Ok-clause-names
returns-in-Ok-clause-names g c =
    let opened = c.open-ticket.ensures in
    let kept : KeepsSubmitter c.open-ticket.new.self c.push_as.new.pass =
    put_kept c.self.inside.desk _ c.self.inside.pass _ c.open-ticket.result.1 c.self.invariant
    c.in-Ok.ensures.queue c.in-Ok.ensures.rule (ap (λ x. x.name) opened.queued)
    opened.counted in
    numbered_kept c.open-ticket.new.self c.push_as.new.pass kept
