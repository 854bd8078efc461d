-- Which job the matches of a command line name.
use Rattle.std.specs.Borrow.{Bor}
use Rattle.std.specs.Prelude.{◌≡◌, ◌≢◌, ◌⊎◌, ℕ, List, [], ◌∷◌, ⊤, IsSome, Option, None, Some, codes, false, map, option_and_then, string_bytes, true}
use Rattle.clap.specs.Words.{Row, Text, all_of, fault_of, first_of, subcommand_of}
pub use Rattle.cli.specs.Program.{command_named, program}
use Rattle.cli.specs.Given.{is_given}
use Rattle.cli.specs.Matched.{AsksHelp, AsksVersion}
use Rattle.interleave.specs.Line.{number_within}
use Rattle.model.specs.declared.limits.TheConstants.{MAX_THREADS}
use Rattle.report.specs.Rule.{IsRuleWord}
use Rattle.drvhost_devices.specs.declared.verification.Verification.{Verification}
use Rattle.drvhost_devices.specs.declared.coloring.Coloring.{Coloring}
use Rattle.drvhost_devices.specs.declared.extent.Extent.TheVariants.{First}
use Rattle.drvhost_devices.specs.declared.logging.Account.TheVariants.{Verdict, Explanation}
use Rattle.drvhost_devices.specs.declared.manner.Detail.TheVariants.{Usual}
use Rattle.cli.specs.Choices.{IsReach, answer_format_of, coloring_of, extent_of, figure_of, form_of, jobs_of, manner_of, passes_of, report_of, tries_of, verbosity_of, verdict_format_of, verification_of, wanted_of}
use Rattle.cli.specs.declared.choices.Format.{Format}
use Rattle.cli.specs.declared.choices.Format.TheVariants.{Text as AsText, Json, Sarif}
use Rattle.cli.specs.declared.job.FileNames.{FileNames}
use Rattle.cli.specs.declared.job.Form.TheVariants.{Lines as InLines}
use Rattle.cli.specs.declared.job.Job.{Job}
use Rattle.cli.specs.declared.job.Job.TheVariants.{Page as OfPage, Help, OnPaths, Log, Test, Rewrite, Apply, OnSet, OnRun, Host, Keep}
use Rattle.cli.specs.declared.job.Judging.{Judging}
use Rattle.cli.specs.declared.job.Judging.TheVariants.{Check, CheckJson, Explain, ExplainJson}
use Rattle.cli.specs.declared.job.Page.{Page}
use Rattle.cli.specs.declared.job.Page.TheVariants.{Rule as PageOfRule, LockOrder, Version}
use Rattle.cli.specs.declared.job.Task.TheVariants.{Mend, List as Listing, Stats, Hunt, HuntExactly, Find, FindExactly}
use Rattle.cli.specs.declared.job.Way.{Way}
use Rattle.cli.specs.declared.job.Way.TheVariants.{Trace, TraceJson, Tell, TellJson, Draw, Schedule}
use Rattle.cli.specs.declared.job.JobFault.{JobFault}
use Rattle.cli.specs.declared.job.JobFault.TheVariants.{Usage, Memory}
use Rattle.cli.specs.declared.naming.Judgement.{Judgement}
use Rattle.cli.specs.declared.table.Subcommand.{Subcommand}
use Rattle.cli.specs.declared.table.Subcommand.TheVariants.{Check as ToCheck, Explain as ToExplain, Mend as ToMend, Trace as ToTrace, Tell as ToTell, Draw as ToDraw, Test as ToTest, Schedule as ToSchedule, Hunt as ToHunt, Host as ToHost, Stats as ToStats, List as ToList, Rewrite as ToRewrite, Version as ToVersion}

-- a job is one of which this holds, or there is none such
abbrev pub IsNamed : Option Job → (Job → Type 0) → Type 0
IsNamed (Some job) Such = Such job
IsNamed None Such = (job : Job) → Such job → ⊥

-- the value of an argument is this
abbrev pub Has : Text → List Row → Text → Type 0
Has argument rows value = first_of argument rows ≡ Some value

-- its values are these
abbrev pub HasAll : Text → List Row → List (Bor (List ℕ)) → Type 0
HasAll argument rows values = all_of argument rows ≡ Some (map (λ value. value.now) values)

-- those of two files are these: that of a set, and that of an argument, by which it is run
abbrev pub HasBoth : Text → List Row → FileNames → Type 0
HasBoth input rows names = Has (codes "FILE") rows names.set.now × Has input rows names.input.now

-- and the number of workers is this
abbrev pub HasWorkers : List Row → ℕ → Type 0
HasWorkers rows workers =
    option_and_then (number_within 1 MAX_THREADS) (first_of (codes "workers") rows) ≡ Some workers

-- the page of the word behind `--rule`: that of a rule, by its number or its name, or of the warning
-- on the order of locks
abbrev pub IsPageOf : Text → Page → Type 0
IsPageOf word (PageOfRule rule) = IsRuleWord word rule
IsPageOf word LockOrder = word ≡ codes "LockOrder"
IsPageOf word Version = ⊥

-- it goes with no path and no `--all`, and is text
pub record IsPageAsked (rows : List Row) (page : Page) : Type 0 where
  pub word : Text
  pub asked : Has (codes "RULE") rows word
  pub is : IsPageOf word page
  pub alone : first_of (codes "PATH") rows ≡ None
  pub first : extent_of rows ≡ First
  pub text : verdict_format_of rows ≡ Some AsText
  pub coloring : Coloring
  pub colored : coloring_of rows ≡ Some coloring

-- the sets that paths stand for, one or more, are judged as text or in JSON, and so many jobs share
-- them; or one log is written
abbrev pub IsJudgedAs : Judgement → Option Format → Judging → Type 0
IsJudgedAs judgement (Some AsText) judging = judging ≡ judgement.text
IsJudgedAs judgement (Some Json) judging = judging ≡ judgement.json
IsJudgedAs judgement _ judging = ⊥

abbrev pub NamesJudged : Judgement → List Row → Job → Type 0
NamesJudged judgement rows (OnPaths judged) =
    HasAll (codes "PATH") rows judged.paths.items
    × IsJudgedAs judgement (verdict_format_of rows) judged.judging
    × (jobs_of rows ≡ Some judged.jobs)
NamesJudged judgement rows (Log paths logging) =
    HasAll (codes "PATH") rows paths.items × (verdict_format_of rows ≡ Some Sarif)
    × (logging ≡ record { account = judgement.log; passes = passes_of rows })
NamesJudged judgement rows job = ⊥

-- how a run is traced, by the format of the answer
abbrev pub IsTrace : Option Format → Verification → Way → Type 0
IsTrace (Some AsText) verification way = way ≡ Trace verification
IsTrace (Some Json) verification way = way ≡ TraceJson verification
IsTrace _ verification way = ⊥

-- sets that are explained, painted so
abbrev pub explaining : Coloring → List Row → Judgement
explaining coloring rows =
    record {
      text = Explain (extent_of rows) coloring;
      json = ExplainJson (extent_of rows);
      log = Explanation (extent_of rows);
    }

abbrev pub NamesExplained : Option Coloring → List Row → Job → Type 0
NamesExplained None rows job = ⊥
NamesExplained (Some coloring) rows job = NamesJudged (explaining coloring rows) rows job

-- what the matches of a command name
abbrev pub NamesOf : Subcommand → List Row → Job → Type 0
NamesOf ToCheck rows job =
    NamesJudged (record { text = Check; json = CheckJson; log = Verdict }) rows job
NamesOf ToExplain rows (OfPage page) = IsPageAsked rows page
NamesOf ToExplain rows job =
    (first_of (codes "RULE") rows ≡ None) × NamesExplained (coloring_of rows) rows job
NamesOf ToMend rows (OnSet set (Mend tries form)) =
    Has (codes "FILE") rows set.now × (tries_of rows ≡ Some tries) × (wanted_of rows ≡ Some None)
    × (form_of rows ≡ Some form)
NamesOf ToMend rows (Apply set tries wanted) =
    Has (codes "FILE") rows set.now × (set.now ≢ codes "-") × (tries_of rows ≡ Some tries)
    × (wanted_of rows ≡ Some (Some wanted)) × (form_of rows ≡ Some InLines)
NamesOf ToTrace rows (OnRun names way) =
    HasBoth (codes "SCHEDULE") rows names
    × IsTrace (answer_format_of rows) (verification_of rows) way
NamesOf ToTell rows (OnRun names (Tell verification manner coloring)) =
    HasBoth (codes "SCHEDULE") rows names
    × (verification ≡ verification_of rows) × (manner_of rows ≡ Some manner)
    × (answer_format_of rows ≡ Some AsText) × (coloring_of rows ≡ Some coloring)
NamesOf ToTell rows (OnRun names (TellJson verification strictness)) =
    HasBoth (codes "SCHEDULE") rows names
    × (verification ≡ verification_of rows)
    × (manner_of rows ≡ Some (record { detail = Usual; strictness = strictness }))
    × (answer_format_of rows ≡ Some Json) × IsSome (coloring_of rows)
NamesOf ToDraw rows (OnRun names (Draw verification figure)) =
    HasBoth (codes "SCHEDULE") rows names
    × (verification ≡ verification_of rows) × (figure_of rows ≡ Some figure)
NamesOf ToTest rows (Test testing) =
    Has (codes "FILE") rows testing.set.now
    × HasAll (codes "SCENARIO") rows testing.scenarios.items
    × (testing.verification ≡ verification_of rows) × (report_of rows ≡ Some testing.report)
    × (testing.verbosity ≡ verbosity_of rows) × (jobs_of rows ≡ Some testing.jobs)
NamesOf ToSchedule rows (OnRun names (Schedule verification)) =
    HasBoth (codes "SCENARIO") rows names × (verification ≡ verification_of rows)
NamesOf ToHunt rows (OnSet set (Hunt reach form)) =
    Has (codes "FILE") rows set.now × IsReach rows reach × (is_given (codes "exact") rows ≡ false)
    × (is_given (codes "scenario") rows ≡ false) × (form_of rows ≡ Some form)
NamesOf ToHunt rows (OnSet set (HuntExactly reach form)) =
    Has (codes "FILE") rows set.now × IsReach rows reach × (is_given (codes "exact") rows ≡ true)
    × (is_given (codes "stuck") rows ≡ false) × (is_given (codes "scenario") rows ≡ false)
    × (form_of rows ≡ Some form)
NamesOf ToHunt rows (OnSet set (Find reach)) =
    Has (codes "FILE") rows set.now × IsReach rows reach × (is_given (codes "exact") rows ≡ false)
    × (is_given (codes "scenario") rows ≡ true) × (form_of rows ≡ Some InLines)
NamesOf ToHunt rows (OnSet set (FindExactly reach)) =
    Has (codes "FILE") rows set.now × IsReach rows reach × (is_given (codes "exact") rows ≡ true)
    × (is_given (codes "stuck") rows ≡ false) × (is_given (codes "scenario") rows ≡ true)
    × (form_of rows ≡ Some InLines)
NamesOf ToHost rows (Host serving) =
    HasBoth (codes "SCRIPT") rows serving.names × HasWorkers rows serving.workers
    × (form_of rows ≡ Some serving.form) × (first_of (codes "OUT") rows ≡ None)
NamesOf ToHost rows (Keep keeping) =
    HasBoth (codes "SCRIPT") rows keeping.names × HasWorkers rows keeping.workers
    × (form_of rows ≡ Some InLines) × Has (codes "OUT") rows keeping.output.now
NamesOf ToStats rows (OnSet set (Stats form)) =
    Has (codes "FILE") rows set.now × (form_of rows ≡ Some form)
NamesOf ToList rows (OnSet set (Listing form)) =
    Has (codes "FILE") rows set.now × (form_of rows ≡ Some form)
NamesOf ToRewrite rows (Rewrite set output) =
    Has (codes "FILE") rows set.now × Has (codes "OUT") rows output.now
NamesOf ToVersion rows (OfPage Version) = ⊤
NamesOf command rows job = ⊥

-- of one that has this name
abbrev pub NamesBy : Option Subcommand → List Row → Job → Type 0
NamesBy None rows job = ⊥
NamesBy (Some command) rows job = NamesOf command rows job

-- the matches name a job
abbrev pub Names : Option (Text × List Row) → Job → Type 0
Names None job = ⊥
Names (Some found) job = NamesBy (command_named found.0) found.1 job

-- the command line takes words, and their matches name a job
pub record IsTakenAs (words : List Text) (job : Job) : Type 0 where
  pub taken : fault_of program words ≡ []
  pub named : Names (subcommand_of program words) job

-- words ask for the program's version, or for help
abbrev pub IsAsked : List Text → Job → Type 0
IsAsked words (OfPage Version) = AsksVersion words
IsAsked words (Help text) = AsksHelp words
IsAsked words job = ⊥

-- words name a job
abbrev pub NamesJob : List Text → Job → Type 0
NamesJob words job = IsTakenAs words job ⊎ IsAsked words job

-- how the program is used, where its words can't be had
abbrev pub usage : List ℕ
usage = codes "Usage: drvhost <COMMAND>"

-- the exit status for words that name no job, and what is told of them
abbrev pub job_fault_status : JobFault → ℕ
job_fault_status (Usage text) = 2
job_fault_status Memory = 3

abbrev pub text_told : List ℕ → List ℕ
text_told [] = usage
text_told (byte ∷ text) = byte ∷ text

abbrev pub job_fault_told : JobFault → List ℕ
job_fault_told (Usage text) = text_told (string_bytes text)
job_fault_told Memory = codes "out of memory\n"
