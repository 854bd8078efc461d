use Rattle.std.proofs.Common.{take}
use Rattle.drvhost_many.specs.All.{AreFound}
use Rattle.drvhost_many.proofs.paths.find_all.Given as goal

abbrev pub invariant-loop-path : goal.invariant-loop-path
invariant-loop-path g l =
    AreFound (λ path. g.F.Files.stands l.files l.search.sought path.now) (take l.path-index l.paths)
    l.names.items
