use Rattle.std.specs.Prelude.{ℕ, List, Option}
use Rattle.drvhost_files.specs.declared.folders.Listing.{Listing}
use Rattle.drvhost_files.specs.Below.{Knows, Lists}
use Rattle.drvhost_files.specs.Found.{AreNamed}
use Rattle.drvhost_files.proofs.find.look_below.Given as goal

abbrev pub invariant-loop : goal.invariant-loop
invariant-loop g l =
    AreNamed l.sought l.gathered.files.items
    × ((has : List ℕ → Option Listing) (root : List ℕ)
    → Lists (g.D.Folders.lists l.folders) has
    → Knows l.sought has root l.initial.gathered.waiting.items l.initial.gathered.files.items
    → Knows l.sought has root l.gathered.waiting.items l.gathered.files.items)
