-- What is told of files that can't be read, behind the answer of a job.
use Rattle.std.specs.Prelude.{ℕ, ◌≡◌, ◌≢◌, ◌++◌, ◌⊎◌, List, [], Option}
use Rattle.report.specs.Fault.{unopened_line}
use Rattle.drvhost_devices.specs.Device.{Says, SaysBehind}

-- a name is one of two
abbrev pub IsOneOf : List ℕ → List ℕ → List ℕ → Type 0
IsOneOf one other name = (name ≡ one) ⊎ (name ≡ other)

-- the text for so many reads that had failed before, and that have after: none where no read failed
-- since, and else the line of a file of such a name
abbrev pub IsNamedUnread : (List ℕ → Type 0) → ℕ → ℕ → List ℕ → Type 0
IsNamedUnread Such before after text =
    ((after ≡ before) × (text ≡ []))
    ⊎ ((after ≢ before) × ((name : List ℕ) × Such name × (text ≡ unopened_line name)))

-- it was said behind what had been said
abbrev pub SaysUnread : (List ℕ → Type 0) → ℕ → ℕ → ℕ → ℕ → Option (List ℕ) → Option (List ℕ)
    → Type 0
SaysUnread Such reads failures failures_before failures_after before after =
    (text : List ℕ) × IsNamedUnread Such 0 reads text
    × SaysBehind failures failures_before failures_after before after text

-- these bytes were said, and behind them a text that may be told then
abbrev pub SaysMore : (List ℕ → Type 0) → ℕ → ℕ → Option (List ℕ) → Option (List ℕ) → List ℕ
    → Type 0
SaysMore Tells failures_before failures_after before after told =
    (text : List ℕ) × Tells text
    × Says failures_before failures_after before after (told ++ text)

-- warnings were told before these bytes, and such a text behind them
abbrev pub SaysAround : (List ℕ → Type 0) → (List ℕ → Type 0) → ℕ → ℕ → Option (List ℕ)
    → Option (List ℕ) → List ℕ → Type 0
SaysAround Warns Tells failures_before failures_after before after told =
    (warnings text : List ℕ) × Warns warnings × Tells text
    × Says failures_before failures_after before after ((warnings ++ told) ++ text)
