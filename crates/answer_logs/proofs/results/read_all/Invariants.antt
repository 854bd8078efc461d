use Rattle.std.proofs.Common.{◌≡◌, ◌+◌, ◌≤◌, ℕ, take}
use Rattle.answer_logs.specs.Found.{AreFoundIn}
use Rattle.answer_logs.proofs.results.read_all.Given as goal

abbrev pub invariant-loop-name : goal.invariant-loop-name
invariant-loop-name g l =
    record {
      opened : g.F.Files.opened l.files ≡ g.F.Files.opened l.initial.files + l.name-index;
      supply : g.F.Files.supply l.files ≡ g.F.Files.supply l.initial.files;
      created : g.F.Files.created l.files ≡ g.F.Files.created l.initial.files;
      unwritten : g.F.Files.unwritten l.files ≡ g.F.Files.unwritten l.initial.files;
      found :
          (reads : ℕ) × (reads ≤ l.name-index)
          × (g.F.Files.failures l.files ≡ g.F.Files.failures l.initial.files + reads)
          × AreFoundIn l.logging (g.F.Files.supply l.initial.files) (take l.name-index l.names) reads
          l.all.status l.all.findings.items;
    }
