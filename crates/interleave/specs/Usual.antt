-- The usual form of a line: a word, and operands that each stand after one space.
use Rattle.std.specs.Prelude.{◌≡◌, ℕ, true, ◌<◌, ◌≤◌, List, [], ◌∷◌, ◌++◌, Option, Some, Result, Ok}
use Rattle.model.specs.declared.event.Event.TheVariants.{Step}
use Rattle.model.specs.declared.status.Major.{Major}
use Rattle.text.specs.Class.{is_number}
use Rattle.text.specs.Spaced.{ArePlain, IsPlain}
use Rattle.text.specs.Major.{major_of}
use Rattle.text.specs.Number.{number_in}
use Rattle.text.specs.declared.number.Numeral.TheVariants.{Number}
use Rattle.interleave.specs.Line.{event_line}
use Rattle.interleave.specs.declared.read.Repeated.{Repeated}
use Rattle.interleave.specs.declared.schedule.ScheduleKind.{ScheduleKind}

-- each word after a space, and what stands behind them
abbrev pub lined : List (List ℕ) → List ℕ → List ℕ
lined [] later = later
lined (word ∷ words) later = 32 ∷ word ++ lined words later

-- a space and a word that writes the number stand before the rest
pub record TakesNumber (bytes : List ℕ) (number : ℕ) (rest : List ℕ) : Type 0 where
  pub word : List ℕ
  pub parts : bytes ≡ 32 ∷ word ++ rest
  pub plain : IsPlain word
  pub form : is_number word ≡ true
  pub writes : number_in word ≡ Number number

-- a space and a word that names the major function stand before the rest
pub record TakesMajor (bytes : List ℕ) (major : Major) (rest : List ℕ) : Type 0 where
  pub word : List ℕ
  pub parts : bytes ≡ 32 ∷ word ++ rest
  pub plain : IsPlain word
  pub names : major_of word ≡ Some major

-- what may stand after the thread of a step: nothing, or how often it happens; and then an LF
pub data IsCount (bytes : List ℕ) (count : ℕ) (rest : List ℕ) : Type 0 where
  Once : bytes ≡ 10 ∷ rest → count ≡ 1 → IsCount bytes count rest
  Times : TakesNumber bytes count (10 ∷ rest) → 1 ≤ count → count ≤ 1000000
      → IsCount bytes count rest

-- operands of which the exact reading makes these events stand before an LF and the rest
pub record Reads (reading : List (List ℕ) → Result (Option Repeated) ScheduleKind)
    (bytes : List ℕ) (events : Repeated) (rest : List ℕ) : Type 0 where
  pub words : List (List ℕ)
  pub parts : bytes ≡ lined words (10 ∷ rest)
  pub plain : ArePlain words
  pub says : reading words ≡ Ok (Some events)

-- the first of these lines stands for these events, and the others come after it
pub record TakesUsual (lines : List (List ℕ)) (events : Repeated) (later : List (List ℕ))
    : Type 0 where
  pub line : List ℕ
  pub parts : lines ≡ line ∷ later
  pub says : event_line line ≡ Ok (Some events)

-- the first of these lines stands for one step of the thread, and the others come after it
pub record TakesStep (lines : List (List ℕ)) (thread : ℕ) (later : List (List ℕ)) : Type 0 where
  pub line : List ℕ
  pub parts : lines ≡ line ∷ later
  pub says : event_line line ≡ Ok (Some (record { event = Step thread; count = 1 }))
  pub small : thread < 100
