-- What `stats` answers as text: what `check` says of an accepted set, and behind it the orders of its
-- locks and its sizes.
use Rattle.std.specs.Prelude.{ℕ, ◌≡◌, ◌++◌, ◌⊎◌, List, codes, decimal}
use Rattle.answer_stats.specs.declared.sizes.Sizes.{Sizes}
use Rattle.answer_stats.specs.Sizes.{input_name, sizes_of}
use Rattle.drvhost_devices.specs.Answer.{Answer, IsOfFile, IsRefused, acceptance, ended}
use Rattle.drvhost_devices.specs.declared.fault.End.TheVariants.{Complete}
use Rattle.drvhost_devices.specs.Device.{Holds, Supply}
use Rattle.model.specs.Set.{Set}
use Rattle.model.specs.Typable.{IsTypable}
use Rattle.verifier_warnings.specs.Lines.{AreOrderWords}
use Rattle.verifier_warnings.specs.Warnings.{AreWarnings}

-- the line of a size by its name
abbrev pub size_line : List ℕ → ℕ → List ℕ
size_line name size = name ++ (codes " " ++ (decimal size ++ codes "\n"))

-- the lines of all
abbrev pub sizes_text : Sizes → List ℕ
sizes_text sizes =
    size_line (codes "drivers") sizes.drivers
    ++ (size_line (codes "devices") sizes.devices
    ++ (size_line (codes "routines") sizes.routines
    ++ (size_line (codes "instructions") sizes.instructions
    ++ (size_line (codes "locks") sizes.locks
    ++ (input_name sizes.input ++ size_line (codes " bytes") sizes.bytes)))))

-- the lines behind those of the routines: the order of the locks of each driver that has one, a
-- warning of each that has none, and the sizes
pub record AreWordsOn (bytes : List ℕ) (set : Set) (words : List ℕ) : Type 0 where
  pub orders : List ℕ
  pub ordered : AreOrderWords set orders
  pub warnings : List ℕ
  pub warned : AreWarnings set warnings
  pub are : words ≡ orders ++ (warnings ++ sizes_text (sizes_of bytes set))

-- what is right as text for an accepted set that bytes are
abbrev pub IsStatsText : List ℕ → Set → Answer → Type 0
IsStatsText bytes set answer =
    (words : List ℕ) × AreWordsOn bytes set words
    × (answer ≡ ended Complete (acceptance set ++ words))

-- and for any set: a refused one is told as `check` tells it
abbrev pub IsStats : List ℕ → Set → Answer → Type 0
IsStats bytes set answer =
    (IsTypable set × IsStatsText bytes set answer) ⊎ IsRefused set answer

-- what `stats` answers as text for what its source has
abbrev pub IsStatsOf : Supply → Answer → Type 0
IsStatsOf supply answer =
    (bytes : List ℕ) × Holds supply bytes × IsOfFile (IsStats bytes) bytes answer
