-- What shows a refusal, placed in the bytes of its file.
use Rattle.std.specs.Prelude.{ℕ, ◌≡◌, ◌++◌, List, [], ◌∷◌, map, Option, None, Some, slice_get}
use Rattle.std.specs.Option.{option_and_then}
use Rattle.model.specs.declared.abs.Refusal.{Refusal}
use Rattle.model.specs.Set.{Set}
use Rattle.report_sarif.specs.declared.log.Region.{Region}
use Rattle.report_sarif.specs.declared.log.Step.{Step}
use Rattle.verifier_evidence.specs.declared.evidence.Evidence.{Evidence}
use Rattle.verifier_evidence.specs.declared.evidence.Evidence.TheVariants.{Misplaced, Unreached, NotEntered, Broken, Differing, Unlike, TooLong}
use Rattle.verifier_evidence.specs.declared.trail.Path.{Path}
use Rattle.verifier_evidence.specs.declared.trail.Step.{Step as PathStep}
use Rattle.verifier_evidence.specs.Evidence.{IsEvidence}
use Rattle.answer_explain.specs.declared.shown.Shown.{Shown}
use Rattle.answer_explain.specs.Regions.{position_lines, region_at}

-- a position, and where its instruction stands
pub record Place : Type 0 where
  pub position : ℕ
  pub region : Option Region

-- by the numbers of the lines of its routine
abbrev pub place_by : List ℕ → List ℕ → ℕ → Place
place_by bytes lines at =
    record { position = at; region = option_and_then (region_at bytes) (slice_get lines at) }

-- where a step is shown, and the positions of a path, from its start on
abbrev pub step_place : Step → Place
step_place step = record { position = step.position; region = step.region }

abbrev pub step_position : PathStep → ℕ
step_position step = step.at

abbrev pub positions : Path → List ℕ
positions path = map step_position path.before ++ path.last.at ∷ []

-- steps are those of a path, with their places by these lines
abbrev pub AreStepsBy : List ℕ → List ℕ → List Step → Path → Type 0
AreStepsBy bytes lines steps path =
    map step_place steps ≡ map (place_by bytes lines) (positions path)

-- the same of one that there may be
abbrev pub AreStepsOf : List ℕ → List ℕ → List Step → Option Path → Type 0
AreStepsOf bytes lines steps None = steps ≡ []
AreStepsOf bytes lines steps (Some path) = AreStepsBy bytes lines steps path

-- the path that evidence has, and the other one of two
abbrev pub path_of : Option Evidence → Option Path
path_of None = None
path_of (Some Misplaced) = None
path_of (Some Unreached) = None
path_of (Some NotEntered) = None
path_of (Some (Broken path)) = Some path
path_of (Some (Differing one other)) = Some one
path_of (Some (Unlike start last)) = Some start
path_of (Some (TooLong path count)) = Some path

abbrev pub other_path : Option Evidence → Option Path
other_path None = None
other_path (Some Misplaced) = None
other_path (Some Unreached) = None
other_path (Some NotEntered) = None
other_path (Some (Broken path)) = None
other_path (Some (Differing one other)) = Some other
other_path (Some (Unlike start last)) = Some last
other_path (Some (TooLong path count)) = None

-- the numbers of the lines of the routine of a refusal
abbrev pub refused_lines : List ℕ → Refusal → List ℕ
refused_lines bytes refusal = position_lines bytes refusal.driver refusal.routine

-- a refusal is shown by its evidence, with some words
pub record IsShownBy (bytes : List ℕ) (refusal : Refusal) (evidence : Option Evidence)
    (shown : Shown) : Type 0 where
  pub path : AreStepsOf bytes (refused_lines bytes refusal) shown.path.items (path_of evidence)
  pub other : AreStepsOf bytes (refused_lines bytes refusal) shown.other.items (other_path evidence)

-- it is shown by evidence of it
abbrev pub IsShown : List ℕ → Set → Refusal → Shown → Type 0
IsShown bytes set refusal shown =
    (evidence : Option Evidence) × IsEvidence set refusal evidence
    × IsShownBy bytes refusal evidence shown
