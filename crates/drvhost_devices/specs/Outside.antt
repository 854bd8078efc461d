-- What a reader shows as a source, and a writer as a sink.
use Rattle.std.specs.Prelude.{ℕ, List, Option}
use Rattle.drvhost_devices.specs.declared.device.Reader.{Reader}
use Rattle.drvhost_devices.specs.declared.device.Writer.{Writer}
use Rattle.drvhost_devices.specs.Device.{Supply, supply_of}

module _ {A : Type 0} where
  -- how often a read of it failed, and what it still gives, by what its reader still has
  abbrev pub reader_failures : Reader A → ℕ
  reader_failures source = source.failures

  abbrev pub reader_supply : (A → Option (List ℕ)) → Reader A → Supply
  reader_supply remaining source = supply_of remaining source.reader

  -- how often a write to it failed, and what was written, by what its writer has
  abbrev pub writer_failures : Writer A → ℕ
  writer_failures sink = sink.failures

  abbrev pub writer_contents : (A → Option (List ℕ)) → Writer A → Option (List ℕ)
  writer_contents contents sink = contents sink.writer
