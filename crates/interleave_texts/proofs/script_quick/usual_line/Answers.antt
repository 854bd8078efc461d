use Rattle.std.proofs.Common.{codes, refl}
use Rattle.text.proofs.Spaced.{plain_word}
use Rattle.interleave_texts.specs.Script.{cancel_line, interrupt_line, request_line}
use Rattle.interleave_texts.proofs.Usual.{line_given}
use Rattle.interleave_texts.proofs.script_quick.usual_line.Goals as goal

pub returns-in-Some : goal.returns-in-Some
returns-in-Some c =
    line_given c.args.commands.now (codes "request") request_line c.args.line.now
    c.in-Some.operands.now c.request.result (plain_word (codes "request") refl refl refl)
    (λ words. refl) c.in-Some.ensures c.request.ensures

pub returns-in-Some-after_word : goal.returns-in-Some-after_word
returns-in-Some-after_word c =
    line_given c.args.commands.now (codes "cancel") (cancel_line c.args.commands.now)
    c.args.line.now c.in-Some-after_word.operands.now c.cancel.result
    (plain_word (codes "cancel") refl refl refl) (λ words. refl) c.in-Some-after_word.ensures
    c.cancel.ensures

pub returns-in-Some-after_word-2 : goal.returns-in-Some-after_word-2
returns-in-Some-after_word-2 c =
    line_given c.args.commands.now (codes "interrupt") interrupt_line c.args.line.now
    c.in-Some-after_word-2.operands.now c.interrupt.result
    (plain_word (codes "interrupt") refl refl refl) (λ words. refl)
    c.in-Some-after_word-2.ensures c.interrupt.ensures
