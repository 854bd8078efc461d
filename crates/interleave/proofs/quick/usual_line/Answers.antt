use Rattle.std.proofs.Common.{codes, refl}
use Rattle.interleave.specs.Line.{cancel_line, dpc_line, interrupt_line, issue_line, startio_line, step_line}
use Rattle.text.proofs.Spaced.{plain_word}
use Rattle.interleave.proofs.Usual.{line_taken}
use Rattle.interleave.proofs.quick.usual_line.Goals as goal

pub returns-in-Some : goal.returns-in-Some
returns-in-Some c =
    rw (← c.operands.view_is)
    (line_taken (codes "step") step_line c.operands.inside.rest.now c.in-Some.rest.now c.steps.new.operands c.steps.result
    (plain_word (codes "step") refl refl refl) (λ words. refl) c.in-Some.ensures c.steps.ensures)

pub returns-in-Some-after_word : goal.returns-in-Some-after_word
returns-in-Some-after_word c =
    rw (← c.operands.view_is)
    (line_taken (codes "issue") issue_line c.operands.inside.rest.now c.in-Some-after_word.rest.now c.request.new.operands c.request.result
    (plain_word (codes "issue") refl refl refl) (λ words. refl) c.in-Some-after_word.ensures c.request.ensures)

pub returns-in-Some-after_word-2 : goal.returns-in-Some-after_word-2
returns-in-Some-after_word-2 c =
    rw (← c.operands.view_is)
    (line_taken (codes "cancel") cancel_line c.operands.inside.rest.now c.in-Some-after_word-2.rest.now c.cancel.new.operands c.cancel.result
    (plain_word (codes "cancel") refl refl refl) (λ words. refl) c.in-Some-after_word-2.ensures c.cancel.ensures)

pub returns-in-Some-after_word-3 : goal.returns-in-Some-after_word-3
returns-in-Some-after_word-3 c =
    rw (← c.operands.view_is)
    (line_taken (codes "interrupt") interrupt_line c.operands.inside.rest.now c.in-Some-after_word-3.rest.now c.interrupt.new.operands c.interrupt.result
    (plain_word (codes "interrupt") refl refl refl) (λ words. refl) c.in-Some-after_word-3.ensures c.interrupt.ensures)

pub returns-in-Some-after_word-4 : goal.returns-in-Some-after_word-4
returns-in-Some-after_word-4 c =
    rw (← c.operands.view_is)
    (line_taken (codes "dpc") dpc_line c.operands.inside.rest.now c.in-Some-after_word-4.rest.now c.dpc.new.operands c.dpc.result
    (plain_word (codes "dpc") refl refl refl) (λ words. refl) c.in-Some-after_word-4.ensures c.dpc.ensures)

pub returns-in-Some-after_word-5 : goal.returns-in-Some-after_word-5
returns-in-Some-after_word-5 c =
    rw (← c.operands.view_is)
    (line_taken (codes "startio") startio_line c.operands.inside.rest.now c.in-Some-after_word-5.rest.now c.startio.new.operands c.startio.result
    (plain_word (codes "startio") refl refl refl) (λ words. refl) c.in-Some-after_word-5.ensures c.startio.ensures)
