use Rattle.std.proofs.Common.{Err, List, Ok, subst, sym, ℕ}
use Rattle.std.proofs.lemmas.Result.{err_from_is_err_and}
use Rattle.drvhost_devices.specs.Device.{Holds}
use Rattle.drvhost_devices.proofs.Files.{set_read}
use Rattle.answer_explain.proofs.Images.{image_read}
use Rattle.drvhost_devices.proofs.Doing.{bytes_unread}
use Rattle.answer_explain.proofs.rewriting.image_of.Goals as goal

pub returns-in_err-bytes-clause-image : goal.returns-in_err-bytes-clause-image
returns-in_err-bytes-clause-image g c =
    let p = err_from_is_err_and c.from_residual.result c.from_residual.ensures.1 in
    let held = g.S.Source.supply c.args.source.now in
    rw (p.1, p.2) (bytes_unread held c.in_err-bytes.field-0.0 c.in_err-bytes.ensures.fault)

pub returns-in_err-set-clause-image : goal.returns-in_err-set-clause-image
returns-in_err-set-clause-image g c =
    let p = err_from_is_err_and c.from_residual-in_err-set.result
    c.from_residual-in_err-set.ensures.1 in
    let held = g.S.Source.supply c.args.source.now in
    let holds = subst (λ (bytes : List ℕ). Holds held bytes) (sym c.as_slice.ensures.value)
    c.in_ok-bytes.ensures.bytes in
    rw (p.1, p.2)
    (set_read held c.as_slice.result.now (Err c.in_err-set.field-0.0) holds c.in_err-set.ensures.set)

pub returns-clause-image : goal.returns-clause-image
returns-clause-image g c =
    let held = g.S.Source.supply c.args.source.now in
    let holds = subst (λ (bytes : List ℕ). Holds held bytes) (sym c.as_slice.ensures.value)
    c.in_ok-bytes.ensures.bytes in
    let read = set_read held c.as_slice.result.now (Ok c.in_ok-set.set) holds c.in_ok-set.ensures.set in
    image_read held c.in_ok-set.set c.in_ok-image.image read c.drivers-sound.ensures.sound
    c.in_ok-image.ensures.1
