-- What the options of a command line choose, by the values that they have.
use Rattle.std.specs.Prelude.{ℕ, ◌≡◌, ◌-◌, ◌^◌, Bool, true, false, List, [], ◌∷◌, Option, None, Some, bytes_eq, codes, if◌then◌else◌, option_map}
use Rattle.clap.specs.Words.{Row, Text, first_of}
use Rattle.cli.specs.Given.{is_given}
use Rattle.hunt_facts.specs.declared.bounds.Bounds.{Bounds}
use Rattle.hunt_facts.specs.declared.bounds.Goal.{Goal}
use Rattle.hunt_facts.specs.declared.bounds.Goal.TheVariants.{Amiss, AmissOrStuck}
use Rattle.hunt_facts.specs.declared.reach.TheConstants.{MAX_PACKETS, MAX_WORLDS, USUAL_PACKETS, USUAL_THREADS, USUAL_WORLDS}
use Rattle.interleave.specs.Line.{number_within}
use Rattle.model.specs.declared.limits.TheConstants.{MAX_THREADS}
use Rattle.drvhost_devices.specs.declared.verification.Verification.{Verification}
use Rattle.drvhost_devices.specs.declared.verification.Verification.TheVariants.{Required, Skipped}
use Rattle.drvhost_devices.specs.declared.coloring.Coloring.{Coloring}
use Rattle.drvhost_devices.specs.declared.coloring.Coloring.TheVariants.{Auto, Always, Never}
use Rattle.drvhost_devices.specs.declared.extent.Extent.{Extent}
use Rattle.drvhost_devices.specs.declared.extent.Extent.TheVariants.{First, Each}
use Rattle.drvhost_devices.specs.declared.figure.Figure.{Figure}
use Rattle.drvhost_devices.specs.declared.figure.Figure.TheVariants.{Picture, Tracks}
use Rattle.drvhost_devices.specs.declared.jobs.TheConstants.{MAX_JOBS}
use Rattle.drvhost_devices.specs.declared.logging.Passes.{Passes}
use Rattle.drvhost_devices.specs.declared.logging.Passes.TheVariants.{Listed, Omitted}
use Rattle.drvhost_devices.specs.declared.manner.Detail.{Detail}
use Rattle.drvhost_devices.specs.declared.manner.Detail.TheVariants.{Every, Usual, Quiet}
use Rattle.drvhost_devices.specs.declared.manner.Manner.{Manner}
use Rattle.drvhost_devices.specs.declared.manner.Strictness.{Strictness}
use Rattle.drvhost_devices.specs.declared.manner.Strictness.TheVariants.{Lenient, Strict}
use Rattle.drvhost_devices.specs.declared.tries.TheConstants.{MAX_TRIES, USUAL_TRIES}
use Rattle.drvhost_devices.specs.declared.verbosity.Verbosity.{Verbosity}
use Rattle.drvhost_devices.specs.declared.verbosity.Verbosity.TheVariants.{Brief, Verbose}
use Rattle.drvhost_devices.specs.declared.wanted.TheConstants.{MAX_OFFERS}
use Rattle.drvhost_devices.specs.declared.wanted.Wanted.{Wanted}
use Rattle.drvhost_devices.specs.declared.wanted.Wanted.TheVariants.{Sure, Number}
use Rattle.cli.specs.declared.choices.Format.{Format}
use Rattle.cli.specs.declared.choices.Format.TheVariants.{Text as AsText, Json, Sarif}
use Rattle.cli.specs.declared.job.Form.{Form}
use Rattle.cli.specs.declared.job.Form.TheVariants.{Lines as InLines, Json as InJson}
use Rattle.cli.specs.declared.job.Report.{Report}
use Rattle.cli.specs.declared.job.Report.TheVariants.{Lines, Tap13, Tap14, JUnit}

-- what a word stands for, by the words that there are
abbrev pub named_in : {A : Type 0} → List (Text × A) → Text → Option A
named_in [] word = None
named_in (one ∷ others) word =
    if bytes_eq word one.0 then Some one.1 else named_in others word

-- by the value of an option: the usual one where none is given
abbrev pub chosen : {A : Type 0} → A → List (Text × A) → Option Text → Option A
chosen usual words None = Some usual
chosen usual words (Some word) = named_in words word

-- the formats of answers, and those of verdicts
abbrev pub answer_formats : List (Text × Format)
answer_formats = (codes "text", AsText) ∷ (codes "json", Json) ∷ []

abbrev pub verdict_formats : List (Text × Format)
verdict_formats =
    (codes "text", AsText) ∷ (codes "json", Json) ∷ (codes "sarif", Sarif) ∷ []

abbrev pub answer_format_of : List Row → Option Format
answer_format_of rows = chosen AsText answer_formats (first_of (codes "format") rows)

abbrev pub verdict_format_of : List Row → Option Format
verdict_format_of rows = chosen AsText verdict_formats (first_of (codes "format") rows)

-- as what a run is drawn
abbrev pub figures : List (Text × Figure)
figures = (codes "svg", Picture) ∷ (codes "perfetto", Tracks) ∷ []

abbrev pub figure_of : List Row → Option Figure
figure_of rows = chosen Picture figures (first_of (codes "format") rows)

-- how tests are reported
abbrev pub reports : List (Text × Report)
reports =
    (codes "text", Lines) ∷ (codes "tap", Tap13) ∷ (codes "tap14", Tap14)
    ∷ (codes "junit", JUnit) ∷ []

abbrev pub report_of : List Row → Option Report
report_of rows = chosen Lines reports (first_of (codes "format") rows)

-- how what came of commands is written
abbrev pub forms : List (Text × Form)
forms = (codes "text", InLines) ∷ (codes "json", InJson) ∷ []

abbrev pub form_of : List Row → Option Form
form_of rows = chosen InLines forms (first_of (codes "format") rows)

-- whether an answer is painted
abbrev pub colorings : List (Text × Coloring)
colorings = (codes "auto", Auto) ∷ (codes "always", Always) ∷ (codes "never", Never) ∷ []

abbrev pub coloring_of : List Row → Option Coloring
coloring_of rows = chosen Auto colorings (first_of (codes "color") rows)

-- of which faults words are written, and whether accepted sets are told
abbrev pub extent_of : List Row → Extent
extent_of rows = if is_given (codes "all") rows then Each else First

abbrev pub passes_of : List Row → Passes
passes_of rows = if is_given (codes "pass") rows then Listed else Omitted

-- how much is told of a test that fails
abbrev pub verbosity_of : List Row → Verbosity
verbosity_of rows = if is_given (codes "verbose") rows then Verbose else Brief

-- whether a set has to be accepted before it runs
abbrev pub verification_of : List Row → Verification
verification_of rows = if is_given (codes "unchecked") rows then Skipped else Required

-- how much is told, by whether `--quiet` and `--every` are given, of which one at most is
abbrev pub detail_of : Bool → Bool → Option Detail
detail_of true true = None
detail_of true false = Some Quiet
detail_of false true = Some Every
detail_of false false = Some Usual

abbrev pub strictness_of : List Row → Strictness
strictness_of rows = if is_given (codes "strict") rows then Strict else Lenient

-- how a run is told
abbrev pub manner_of : List Row → Option Manner
manner_of rows =
    option_map (λ detail. record { detail = detail; strictness = strictness_of rows })
    (detail_of (is_given (codes "quiet") rows) (is_given (codes "every") rows))

-- the number that the value of an option writes, within limits: None where none is given
abbrev pub any_number : ℕ → ℕ → Option Text → Option (Option ℕ)
any_number least most None = Some None
any_number least most (Some text) = option_map Some (number_within least most text)

-- from 1 up to the most: the usual one where none is given
abbrev pub number_or : ℕ → ℕ → Option Text → Option ℕ
number_or usual most None = Some usual
number_or usual most (Some text) = number_within 1 most text

-- how many jobs share the files
abbrev pub jobs_of : List Row → Option (Option ℕ)
jobs_of rows = any_number 1 MAX_JOBS (first_of (codes "jobs") rows)

-- how often mends are tried
abbrev pub tries_of : List Row → Option ℕ
tries_of rows = number_or USUAL_TRIES MAX_TRIES (first_of (codes "tries") rows)

-- which mend is applied, by the value of `--nth` and by whether `--apply` is given: none where
-- neither is
abbrev pub wanted_by : Option Text → Bool → Option (Option Wanted)
wanted_by None false = Some None
wanted_by None true = Some (Some Sure)
wanted_by (Some text) apply =
    option_map (λ number. Some (Number number)) (number_within 1 MAX_OFFERS text)

abbrev pub wanted_of : List Row → Option (Option Wanted)
wanted_of rows = wanted_by (first_of (codes "nth") rows) (is_given (codes "apply") rows)

-- what a hunt looks for, and how far it goes
abbrev pub goal_of : List Row → Goal
goal_of rows = if is_given (codes "stuck") rows then AmissOrStuck else Amiss

pub record IsReach (rows : List Row) (reach : Bounds) : Type 0 where
  pub threads : number_or USUAL_THREADS MAX_THREADS (first_of (codes "threads") rows)
      ≡ Some reach.threads
  pub packets : number_or USUAL_PACKETS MAX_PACKETS (first_of (codes "packets") rows)
      ≡ Some reach.packets
  pub worlds : number_or USUAL_WORLDS MAX_WORLDS (first_of (codes "states") rows)
      ≡ Some reach.worlds
  pub events : any_number 0 (2 ^ 64 - 1) (first_of (codes "events") rows) ≡ Some reach.events
  pub argument : any_number 0 (2 ^ 64 - 1) (first_of (codes "argument") rows) ≡ Some reach.argument
  pub goal : reach.goal ≡ goal_of rows
