-- Runs in which an event was refused.
use Rattle.std.specs.Prelude.{Bool, false}
use Rattle.drvhost_devices.specs.declared.manner.Strictness.{Strictness}
use Rattle.drvhost_devices.specs.declared.manner.Strictness.TheVariants.{Lenient, Strict}

-- whether a run is taken for one that stopped where an event of it was refused, or none was
abbrev pub fails_strictly : Strictness → Bool → Bool
fails_strictly Lenient refused = false
fails_strictly Strict refused = refused
