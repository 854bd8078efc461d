use Rattle.std.proofs.Common.{List, subst, sym, ℕ}
use Rattle.std.proofs.lemmas.Result.{IfOk-weaker}
use Rattle.drvhost_devices.specs.Device.{Holds}
use Rattle.drvhost_told.proofs.host.served.Goals as goal

pub returns-clause-told : goal.returns-clause-told
returns-clause-told g c =
    let held = g.S.Source.supply c.args.set.now in
    let bytes = c.as_slice.result.now in
    let holds = subst (λ (b : List ℕ). Holds held b) (sym c.as_slice.ensures.value)
    c.in_ok-bytes.ensures.bytes in
    IfOk-weaker c.served_for.result _ _ (λ told right. (bytes, holds, right))
    c.served_for.ensures.told
