use Rattle.std.proofs.Common.{◌≡◌, ◌+◌, ◌++◌, ◌≤◌, ℕ, List, String, length}
use Rattle.std.specs.Global.{Global}
use Rattle.drvhost_devices.specs.Device.{SaysBehind}
use Rattle.drvhost_many.proofs.Ending.{SoFar}
use Rattle.drvhost_many.proofs.many.answer_all.Given as goal

abbrev pub decreases-loop-rest : goal.decreases-loop-rest
decreases-loop-rest g l = length l.rest

abbrev pub invariant-loop-rest : goal.invariant-loop-rest
invariant-loop-rest g l =
    record {
      fine : g.O.Sink.failures l.out ≡ g.O.Sink.failures l.initial.out;
      supply : g.F.Files.supply l.files ≡ g.F.Files.supply l.initial.files;
      created : g.F.Files.created l.files ≡ g.F.Files.created l.initial.files;
      unwritten : g.F.Files.unwritten l.files ≡ g.F.Files.unwritten l.initial.files;
      answered :
          (done : List (String Global)) × (reads : ℕ) × (l.sets.names.now ≡ done ++ l.rest)
          × (g.F.Files.opened l.files ≡ g.F.Files.opened l.initial.files + length done)
          × (g.F.Files.failures l.files ≡ g.F.Files.failures l.initial.files + reads)
          × (reads ≤ length done)
          × SoFar l.sets.judging (g.F.Files.supply l.initial.files) done reads l.status
          (g.O.Sink.contents l.initial.out) (g.O.Sink.contents l.out)
          (SaysBehind l.failures (g.E.Sink.failures l.initial.err) (g.E.Sink.failures l.err)
          (g.E.Sink.contents l.initial.err) (g.E.Sink.contents l.err));
    }
