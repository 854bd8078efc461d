-- How a command ends over the files of names, and its sinks.
use Rattle.std.specs.Prelude.{ℕ, List, Option}
use Rattle.drvhost_devices.specs.declared.device.Sink as sink
use Rattle.drvhost_devices.specs.Device.{Says}
use Rattle.drvhost_files.specs.declared.files.Files as named
use Rattle.drvhost_many.specs.All.{Counted}

-- a command ends so: by its counts of failed writes before and after, the files and its sinks before
-- and after, and its exit status
abbrev pub CountedOver : {F File Target O E : Type 0} → named.Ghosts F File Target → sink.Ghosts O
    → sink.Ghosts E
    → (ℕ → ℕ → ℕ → Option (List ℕ) → Option (List ℕ) → ℕ → List ℕ → Type 0)
    → ℕ → ℕ → F → F → O → O → E → E → ℕ → Type 0
CountedOver {F} {File} {Target} {O} {E} files output errors Ends writes_before writes_after
    files_before files_after out_before out_after err_before err_after status =
    Counted Ends (files.opened files_before) (files.opened files_after)
    (files.failures files_before) (files.failures files_after) writes_before writes_after
    (output.contents out_before) (output.contents out_after)
    (Says (errors.failures err_before) (errors.failures err_after)
    (errors.contents err_before) (errors.contents err_after))
    status
