use Rattle.std.proofs.Common.{◌∙◌, List, ap, map}
use Rattle.asm.specs.declared.draft.Step.{Step}
use Rattle.asm.specs.Outline.{label_resolved}
use Rattle.asm.proofs.Bare.{linked_behind}
use Rattle.asm.proofs.code.OpenCode.take_linked.Goals as goal

pub returns-clause-linked : goal.returns-clause-linked
returns-clause-linked c =
    c.in_ok-closed.ensures.code
    ∙ (linked_behind c.args.labels.now.keys c.args.positions.now c.self.inside.bare.items
    c.reserve.new.self.items c.new-2.result.items c.self.inside.rest.items c.deref.result.now
    c.self.invariant (c.in_ok-reserve.ensures.items ∙ ap (λ v. v.items) c.replace-done.ensures.value)
    c.new-2.ensures.items c.deref.ensures.value
    ∙ ap (λ (steps : List Step).
    map (label_resolved c.args.labels.now.keys c.args.positions.now) steps) c.self.view_is)
