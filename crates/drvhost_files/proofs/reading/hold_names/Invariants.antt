use Rattle.std.proofs.Common.{take}
use Rattle.std.specs.List.{AllZip}
use Rattle.drvhost_files.specs.Reading.{IsNamed}
use Rattle.drvhost_files.proofs.reading.hold_names.Given as goal

abbrev pub invariant-loop-name : goal.invariant-loop-name
invariant-loop-name l = AllZip IsNamed (take l.name-index l.names) l.held.items
