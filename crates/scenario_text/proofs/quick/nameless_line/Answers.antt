use Rattle.std.proofs.Common.{codes, refl}
use Rattle.scenario_text.specs.Line.{dpc_line, interrupt_line, run_line}
use Rattle.scenario_text.specs.Usual.{expects}
use Rattle.scenario_text.proofs.Usual.{usual_said}
use Rattle.scenario_text.proofs.quick.nameless_line.Goals as goal

pub returns-in-Some : goal.returns-in-Some
returns-in-Some c =
    usual_said c.args.names.now c.args.packets.now (codes "run") c.args.line.now
    c.in-Some.operands.now (run_line c.args.names.now) c.run.result
    (record { some = refl; inner = refl; token = refl }) (λ words. refl) (λ words. refl)
    c.in-Some.ensures c.run.ensures

pub returns-in-Some-after_word : goal.returns-in-Some-after_word
returns-in-Some-after_word c =
    usual_said c.args.names.now c.args.packets.now (codes "dpc") c.args.line.now
    c.in-Some-after_word.operands.now (dpc_line c.args.names.now) c.dpc.result
    (record { some = refl; inner = refl; token = refl }) (λ words. refl) (λ words. refl)
    c.in-Some-after_word.ensures c.dpc.ensures

pub returns-in-Some-after_word-2 : goal.returns-in-Some-after_word-2
returns-in-Some-after_word-2 c =
    usual_said c.args.names.now c.args.packets.now (codes "interrupt") c.args.line.now
    c.in-Some-after_word-2.operands.now (interrupt_line c.args.names.now) c.interrupt.result
    (record { some = refl; inner = refl; token = refl }) (λ words. refl) (λ words. refl)
    c.in-Some-after_word-2.ensures c.interrupt.ensures

pub returns-in-Some-after_word-3 : goal.returns-in-Some-after_word-3
returns-in-Some-after_word-3 c =
    usual_said c.args.names.now c.args.packets.now (codes "expect") c.args.line.now
    c.in-Some-after_word-3.operands.now (expects c.args.names.now c.args.packets.now) c.expect.result
    (record { some = refl; inner = refl; token = refl }) (λ words. refl) (λ words. refl)
    c.in-Some-after_word-3.ensures c.expect.ensures
