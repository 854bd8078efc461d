-- What becomes of the files of names of which some are read.
use Rattle.std.specs.Prelude.{◌≡◌}
use Rattle.drvhost_files.specs.declared.files.Files as named

-- none is written: each has what it had
pub record OnlyReads {F File Target : Type 0} (files : named.Ghosts F File Target) (before after : F)
    : Type 0 where
  pub supply : files.supply after ≡ files.supply before
  pub created : files.created after ≡ files.created before
  pub unwritten : files.unwritten after ≡ files.unwritten before
