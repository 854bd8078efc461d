-- What an output shows as a sink.
use Rattle.std.specs.Prelude.{ℕ, List, [], Option, None, Some}
use Rattle.drvhost_devices.specs.declared.device.Writer.{Writer}
use Rattle.drvhost_devices.specs.Outside.{writer_contents, writer_failures}
use Rattle.drvhost_files.specs.declared.files.Output.{Output}

module _ {A : Type 0} where
  -- how often a write to it failed: with no writer each did
  abbrev pub failures_with : ℕ → Option (Writer A) → ℕ
  failures_with refused None = refused
  failures_with refused (Some writer) = writer_failures writer

  abbrev pub output_failures : Output A → ℕ
  output_failures output = failures_with output.refused output.writer

  -- what was written to it: with no writer nothing
  abbrev pub contents_with : (A → Option (List ℕ)) → Option (Writer A) → Option (List ℕ)
  contents_with contents None = Some []
  contents_with contents (Some writer) = writer_contents contents writer

  abbrev pub output_contents : (A → Option (List ℕ)) → Output A → Option (List ℕ)
  output_contents contents output = contents_with contents output.writer
