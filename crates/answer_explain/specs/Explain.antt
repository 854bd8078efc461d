-- What `explain` answers in JSON: a line for the verdict, or for each refusal that it explains, or
-- for the fault of the file.
use Rattle.std.specs.Prelude.{ℕ, ◌≡◌, ◌++◌, ◌⊎◌, List, [], ◌∷◌, map, Option, String, string_bytes}
use Rattle.std.specs.Global.{Global}
use Rattle.std.specs.Str.Lossy.{utf8_lossy}
use Rattle.model.specs.declared.abs.Refusal.{Refusal}
use Rattle.model.specs.Set.{Set}
use Rattle.model.specs.Typable.{IsFirstFault, IsTypable}
use Rattle.report_json.specs.Line.{json_line}
use Rattle.verifier_evidence.specs.declared.evidence.Evidence.{Evidence}
use Rattle.verifier_evidence.specs.Evidence.{IsEvidence}
use Rattle.verifier_words.specs.Faults.{AreFaults}
use Rattle.drvhost_devices.specs.Answer.{Answer, ended}
use Rattle.drvhost_devices.specs.Device.{Supply}
use Rattle.answer_explain.specs.Explained.{TellsLocks}
use Rattle.answer_explain.specs.declared.shown.Shown.{Shown}
use Rattle.answer_explain.specs.Regions.{refusal_region}
use Rattle.answer_explain.specs.Shown.{IsShownBy}
use Rattle.answer_mends.specs.Fix.{IsFix}
use Rattle.drvhost_devices.specs.declared.extent.Extent.{Extent}
use Rattle.drvhost_devices.specs.declared.extent.Extent.TheVariants.{First, Each}
use Rattle.drvhost_devices.specs.declared.fault.End.TheVariants.{Complete, Stopped}
use Rattle.answer.specs.Check.{certified_routines, with_names}
use Rattle.answer_explain.specs.Explanation.{Lesson, acceptance_explained_json, refusal_explained_json}
use Rattle.answer.specs.Names.{routine_names}
use Rattle.answer.specs.Told.{IsToldOf, ended_line}

-- an accepted set: its routines with their names, and words that tell of its drivers' locks
pub record IsAcceptanceExplained (name bytes : List ℕ) (set : Set) (answer : Answer) : Type 0 where
  pub typable : IsTypable set
  pub names : List (String Global)
  pub named : map string_bytes names ≡ map utf8_lossy (routine_names bytes)
  pub words : List ℕ
  pub tells : TellsLocks set words
  pub is : answer ≡ ended_line Complete
      (acceptance_explained_json name (with_names (certified_routines set) names) words)

-- the line of a refusal: the rule and its place, what shows it, by its evidence, and edits that mend
-- it, or none
pub record IsRefusalLine (name bytes : List ℕ) (set : Set) (refusal : Refusal) (line : List ℕ)
    : Type 0 where
  pub evidence : Option Evidence
  pub shows : IsEvidence set refusal evidence
  pub shown : Shown
  pub by_it : IsShownBy bytes refusal evidence shown
  pub lesson : Lesson
  pub fixed : IsFix refusal bytes lesson.edits
  pub is : line ≡ json_line
      (refusal_explained_json name refusal (refusal_region bytes refusal) shown lesson)

-- those of several, in order
abbrev pub AreRefusalLines : List ℕ → List ℕ → Set → List Refusal → List ℕ → Type 0
AreRefusalLines name bytes set [] text = text ≡ []
AreRefusalLines name bytes set (refusal ∷ all) text =
    (line : List ℕ) × (rest : List ℕ) × IsRefusalLine name bytes set refusal line
    × AreRefusalLines name bytes set all rest × (text ≡ line ++ rest)

-- the lines of a refused set: of its first fault alone, or of that of each routine that has one
abbrev pub AreLinesOf : Extent → List ℕ → List ℕ → Set → Refusal → List ℕ → Type 0
AreLinesOf First name bytes set refusal text = IsRefusalLine name bytes set refusal text
AreLinesOf Each name bytes set refusal text =
    (all : List Refusal) × AreFaults set all × AreRefusalLines name bytes set all text

-- a refused set
abbrev pub IsRefusalExplained : Extent → List ℕ → List ℕ → Set → Answer → Type 0
IsRefusalExplained extent name bytes set answer =
    (refusal : Refusal) × (text : List ℕ) × IsFirstFault set refusal
    × AreLinesOf extent name bytes set refusal text × (answer ≡ ended Stopped text)

-- the verdict on the set that these bytes of the file of a name are, explained
abbrev pub IsExplainedJson : Extent → List ℕ → List ℕ → Set → Answer → Type 0
IsExplainedJson extent name bytes set answer =
    IsAcceptanceExplained name bytes set answer ⊎ IsRefusalExplained extent name bytes set answer

-- what `explain` answers for what the source has that is the file of a name
abbrev pub IsExplainJsonOf : Extent → List ℕ → Supply → Answer → Type 0
IsExplainJsonOf extent name supply answer =
    IsToldOf (IsExplainedJson extent name) name supply answer
