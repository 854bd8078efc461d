-- Devices that a command may be given: each has room to count one failure more.
use Rattle.std.specs.Prelude.{ℕ}
use Rattle.drvhost_devices.specs.declared.device.Sink as sink
use Rattle.drvhost_devices.specs.Device.{CanCount}

-- a sink for what a command writes, and one for what it tells of faults
pub record CanWrite {O E : Type 0} (output : sink.Ghosts O) (errors : sink.Ghosts E)
    (written : O) (told : E) : Type 0 where
  pub out : CanCount (output.failures written)
  pub err : CanCount (errors.failures told)

-- and the source of its driver set, of which so many reads have failed
pub record CanAnswer {O E : Type 0} (output : sink.Ghosts O) (errors : sink.Ghosts E)
    (reads : ℕ) (written : O) (told : E) : Type 0 where
  pub set : CanCount reads
  pub out : CanCount (output.failures written)
  pub err : CanCount (errors.failures told)
