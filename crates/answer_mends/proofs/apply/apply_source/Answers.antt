use Rattle.std.proofs.Common.{List, subst, sym, ℕ}
use Rattle.drvhost_devices.specs.Answer.{ended}
use Rattle.drvhost_devices.specs.Device.{Holds}
use Rattle.answer_mends.proofs.Applied.{file_touched, goes_shown, source_right}
use Rattle.answer_mends.proofs.apply.apply_source.Goals as goal

pub returns-clause-goes : goal.returns-clause-goes
returns-clause-goes g c =
    let held = g.S.Source.supply c.args.set.now in
    let bytes = c.as_slice-bytes.result.now in
    let holds = subst (λ (bytes : List ℕ). Holds held bytes) (sym c.as_slice-bytes.ensures.value)
    c.in_ok-bytes.ensures.bytes in
    let reply = c.in_ok-applying.applying.reply in
    let made = c.in_ok-applying.applying.made in
    goes_shown c.args.asked held _ _ reply.end reply.text.items made
    (source_right c.args.asked held bytes c.in_ok-set.set made
    (ended reply.end reply.text.items) holds c.in_ok-set.ensures.set c.in_ok-applying.ensures)
    c.put.result c.put.ensures.shown

pub returns-clause-touched : goal.returns-clause-touched
returns-clause-touched g c =
    let held = g.S.Source.supply c.args.set.now in
    let bytes = c.as_slice-bytes.result.now in
    let holds = subst (λ (bytes : List ℕ). Holds held bytes) (sym c.as_slice-bytes.ensures.value)
    c.in_ok-bytes.ensures.bytes in
    let reply = c.in_ok-applying.applying.reply in
    let made = c.in_ok-applying.applying.made in
    file_touched c.args.asked held _ _ _ _ _ reply.end reply.text.items made c.put.result
    (source_right c.args.asked held bytes c.in_ok-set.set made
    (ended reply.end reply.text.items) holds c.in_ok-set.ensures.set c.in_ok-applying.ensures)
    c.put.ensures.shown c.put.ensures.taken
