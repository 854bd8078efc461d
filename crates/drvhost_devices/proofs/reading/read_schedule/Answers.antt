use Rattle.std.proofs.Common.{List, ℕ, subst, sym}
use Rattle.drvhost_devices.specs.Device.{Holds}
use Rattle.drvhost_devices.proofs.Files.{schedule_read}
use Rattle.drvhost_devices.proofs.reading.read_schedule.Goals as goal

pub returns-clause-schedule : goal.returns-clause-schedule
returns-clause-schedule g c =
    let held = g.S.Source.supply c.args.source.now in
    schedule_read held c.as_slice.result.now c.schedule_of.result
    (subst (λ (text : List ℕ). Holds held text) (sym c.as_slice.ensures.value)
    c.in_ok-text.ensures.bytes)
    c.schedule_of.ensures.schedule
