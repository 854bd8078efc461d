use Rattle.std.proofs.Common.{◌≡◌, List, ℕ, ◌++◌, length}
use Rattle.std.specs.Io.KnownBytes.{Appends}
use Rattle.drvhost_devices.proofs.transfer.write_whole.Given as goal

abbrev pub decreases-loop-rest : goal.decreases-loop-rest
decreases-loop-rest g l = length l.rest

abbrev pub invariant-loop-rest : goal.invariant-loop-rest
invariant-loop-rest g l =
    (g.K.Sink.failures l.sink ≡ g.K.Sink.failures l.initial.sink)
    × ((done : List ℕ) × (l.bytes ≡ done ++ l.rest)
    × Appends (g.K.Sink.contents l.initial.sink) (g.K.Sink.contents l.sink) done)
