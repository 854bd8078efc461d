use Rattle.std.proofs.Common.{List, ℕ, subst, sym}
use Rattle.drvhost_devices.specs.Device.{Holds}
use Rattle.drvhost_devices.proofs.Files.{set_read}
use Rattle.answer_runs.proofs.page.Page.read_set.Goals as goal

pub returns-clause-set : goal.returns-clause-set
returns-clause-set g c =
    let held = g.S.Source.supply c.args.source.now in
    set_read held c.as_slice.result.now c.set_of.result
    (subst (λ (bytes : List ℕ). Holds held bytes) (sym c.as_slice.ensures.value)
    c.in_ok-self.ensures.bytes)
    c.set_of.ensures.set
