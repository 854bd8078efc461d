use Rattle.std.proofs.Common.{take}
use Rattle.std.specs.List.{AllZip}
use Rattle.drvhost_files.specs.Reading.{IsNamedSo}
use Rattle.drvhost_files.proofs.reading.name_each.Given as goal

abbrev pub invariant-loop-name : goal.invariant-loop-name
invariant-loop-name g l = AllZip IsNamedSo (take l.name-index l.names) l.answered.items
