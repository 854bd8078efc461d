-- Files that are handed back, if they were opened.
use Rattle.std.specs.Prelude.{ℕ, ◌≡◌, List, Option, None, Some}
use Rattle.drvhost_devices.specs.Device.{Supply}
use Rattle.drvhost_files.specs.Files.{Stores}

-- how many files that makes
abbrev pub count_of : {A : Type 0} → Option A → ℕ
count_of None = 0
count_of (Some file) = 1

-- what the files of names have to give before and after one is handed back that was opened to be
-- written to, if it was: it has what was written to it
abbrev pub StoresIf : {A : Type 0} → (A → Option (List ℕ)) → (List ℕ → Supply)
    → (List ℕ → Supply) → List ℕ → Option A → Type 0
StoresIf contents before after name None = after ≡ before
StoresIf contents before after name (Some file) = Stores before after name (contents file)
