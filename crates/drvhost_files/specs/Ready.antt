-- Files of names that a command may be given: each count has room for what it does.
use Rattle.std.specs.Prelude.{ℕ, ◌+◌, ◌<◌, ◌^◌}
use Rattle.drvhost_devices.specs.Device.{CanCount}
use Rattle.drvhost_files.specs.declared.files.Files as named

-- so many may be opened to be read, of whose reads one may fail
pub record CanOpen {F File Target : Type 0} (files : named.Ghosts F File Target) (count : ℕ)
    (before : F) : Type 0 where
  pub opened : files.opened before + count < 2 ^ 64
  pub failures : CanCount (files.failures before)

-- each file that there may be is opened, and each may fail
pub record CanOpenMany {F File Target : Type 0} (files : named.Ghosts F File Target) (before : F)
    : Type 0 where
  pub opened : files.opened before < 2 ^ 63
  pub failures : files.failures before < 2 ^ 63

-- one may be opened to be written, and a write may fail
pub record CanCreate {F File Target : Type 0} (files : named.Ghosts F File Target) (before : F)
    : Type 0 where
  pub created : files.created before + 1 < 2 ^ 64
  pub unwritten : CanCount (files.unwritten before)
