use Rattle.std.proofs.Common.{◌≡◌}
use Rattle.std.specs.Io.KnownBytes.{Consumes}
use Rattle.drvhost_devices.specs.Device.{Closed, known_bytes}
use Rattle.drvhost_devices.proofs.transfer.read_whole.Given as goal

abbrev pub invariant-loop : goal.invariant-loop
invariant-loop g l =
    record {
      fine : g.S.Source.failures l.source ≡ g.S.Source.failures l.initial.source;
      closed : g.S.Source.supply l.initial.source ≡ Closed → g.S.Source.supply l.source ≡ Closed;
      read : Consumes (known_bytes (g.S.Source.supply l.initial.source))
          (known_bytes (g.S.Source.supply l.source)) l.bytes.items;
    }
