use Rattle.std.proofs.Common.{◌≡◌, ◌++◌, take}
use Rattle.std.specs.List.{flat_map}
use Rattle.image.specs.Spelling.{driver_bytes}
use Rattle.image.specs.declared.edition.Edition.TheVariants.{Current}
use Rattle.image.proofs.writing.put_drivers.Given as goal

abbrev pub invariant-loop-driver : goal.invariant-loop-driver
invariant-loop-driver l = l.out.items ≡ l.fn.out.items
    ++ flat_map (driver_bytes Current) (take l.driver-index l.drivers)
