-- What tests of a driver set answer: a line for each scenario, in order.
use Rattle.std.specs.Prelude.{ℕ, ⊤, ◌≡◌, ◌≢◌, ◌≤◌, ◌+◌, ◌++◌, ◌⊎◌, Bool, true, false, List, [], ◌∷◌, codes, length, IfOk, Option, None, Some, Result, Ok, Err, String, string_bytes}
use Rattle.std.specs.Borrow.{Bor}
use Rattle.std.specs.Global.{Global}
use Rattle.std.specs.List.{All, AllZip, list_any}
use Rattle.cli.specs.declared.job.Report.{Report}
use Rattle.drvhost_devices.specs.Answer.{Answer, FileSays, ended, faulty}
use Rattle.drvhost_devices.specs.Device.{Bytes, Holds, Supply}
use Rattle.drvhost_devices.specs.Ends.{Ends}
use Rattle.drvhost_devices.specs.declared.fault.End.TheVariants.{Stopped}
use Rattle.drvhost_devices.specs.declared.verification.Verification.{Verification}
use Rattle.drvhost_devices.specs.declared.verification.Verification.TheVariants.{Required, Skipped}
use Rattle.drvhost_files.specs.declared.reading.Contents.{Contents}
use Rattle.drvhost_files.specs.declared.reading.Contents.TheVariants.{Whole, Unread, Unopened, Lacking}
use Rattle.drvhost_files.specs.declared.reading.Held.{Held}
use Rattle.drvhost_files.specs.declared.find.Found.{Found}
use Rattle.drvhost_files.specs.declared.sought.Sought.{Sought}
use Rattle.drvhost_files.specs.declared.sought.Sought.TheVariants.{Scenarios}
use Rattle.drvhost_devices.specs.Told.{joined}
use Rattle.drvhost_many.specs.All.{AreFound}
use Rattle.drvhost_devices.specs.declared.manner.Detail.TheVariants.{Usual}
use Rattle.drvhost_devices.specs.declared.manner.Manner.{Manner}
use Rattle.drvhost_devices.specs.declared.manner.Strictness.TheVariants.{Lenient}
use Rattle.drvhost_devices.specs.declared.verbosity.Verbosity.{Verbosity}
use Rattle.drvhost_devices.specs.declared.verbosity.Verbosity.TheVariants.{Brief, Verbose}
use Rattle.answer_scenarios.specs.Scenarios.{IsOfScenario, IsTested, names_in, right_of}
use Rattle.answer_scenarios.specs.declared.telling.Asked.TheVariants.{Schedule}
use Rattle.answer_views.specs.Told.{IsTellOf}
use Rattle.interleave.specs.declared.schedule.ScheduleFault.{ScheduleFault}
use Rattle.model.specs.declared.abs.Refusal.{Refusal}
use Rattle.model.specs.Set.{Set}
use Rattle.model.specs.Typable.{IsFirstFault, IsTypable}
use Rattle.report.specs.Fault.{schedule_fault_line}
use Rattle.report.specs.Verdict.{refusal_line}
use Rattle.scenario_names.specs.Names.{Named}
use Rattle.scenario_steps.specs.Judging.{expect_verdict_alone}
use Rattle.scenario_text.specs.Listing.{Listed, scenario_in}
use Rattle.drvhost_tests.specs.Reports.{alone, reported}
use Rattle.drvhost_tests.specs.Test.{Test}

-- a line that is told of the file of a name
abbrev pub marked : List ℕ → List ℕ → List ℕ
marked name line = name ++ (codes ": " ++ line)

-- that it can't be read
abbrev pub unread : List ℕ → Answer
unread name = faulty (marked name (codes "read failed\n"))

-- whether all that a scenario expects holds in a set, or its first fault, with some words behind
abbrev pub IsScenarioTold : List ℕ → Set → Result Listed ScheduleFault → Answer → Type 0
IsScenarioTold name set (Ok scenario) answer = IsTested name set scenario answer
IsScenarioTold name set (Err fault) answer =
    (words : List ℕ) × (answer ≡ faulty (marked name (schedule_fault_line fault ++ words)))

-- how the run of a test that fails is told
abbrev pub usual : Manner
usual = record { detail = Usual; strictness = Lenient }

-- the run of a scenario of a set, of whose file these are the bytes, as `tell` tells it by the
-- schedule of what the scenario made happen
abbrev pub IsRunOf : List ℕ → Set → Result Listed ScheduleFault → Answer → Type 0
IsRunOf bytes set said run =
    (schedule : Answer) × IsOfScenario (right_of Schedule) set said schedule
    × IsTellOf Skipped usual (Bytes bytes) (Bytes schedule.output) run

-- that run stands behind what is told of the scenario: where it fails, and that is wanted
abbrev pub IsRunTold : List ℕ → Set → Result Listed ScheduleFault → Answer → Answer → Type 0
IsRunTold bytes set said told answer =
    (run : Answer) × IsRunOf bytes set said run × (answer ≡ joined told run)

abbrev pub IsToldWith : Verbosity → List ℕ → Set → Result Listed ScheduleFault → Answer → Answer
    → Type 0
IsToldWith Brief bytes set said told answer = answer ≡ told
IsToldWith Verbose bytes set said told answer =
    ((told.status ≢ 1) × (answer ≡ told))
    ⊎ ((told.status ≡ 1) × IsRunTold bytes set said told answer)

abbrev pub IsScenarioShown : Verbosity → List ℕ → List ℕ → Set → Result Listed ScheduleFault
    → Answer → Type 0
IsScenarioShown verbosity bytes name set said answer =
    (told : Answer) × IsScenarioTold name set said told
    × IsToldWith verbosity bytes set said told answer

-- that a set is refused
abbrev pub refused : Refusal → Answer
refused refusal = ended Stopped (refusal_line refusal)

-- what is tested: the bytes of a file, the set that they name, and why it isn't run, if it isn't
pub record Tested : Type 0 where
  pub bytes : List ℕ
  pub set : Set
  pub refusal : Option Refusal

-- a scenario that expects nothing but a verdict on the set
abbrev pub is_of_verdict : Result Listed ScheduleFault → Bool
is_of_verdict (Ok scenario) = expect_verdict_alone scenario.steps
is_of_verdict (Err fault) = false

-- what is told of a scenario: where the set isn't run, one that expects nothing but a verdict is
-- told all the same, since nothing happens in it; of any other that the set is refused
abbrev pub IsShownIf : Bool → (Answer → Type 0) → Refusal → Answer → Type 0
IsShownIf true Right refusal answer = Right answer
IsShownIf false Right refusal answer = answer ≡ refused refusal

abbrev pub IsShownBy : Option Refusal → Bool → (Answer → Type 0) → Answer → Type 0
IsShownBy None verdict Right answer = Right answer
IsShownBy (Some refusal) verdict Right answer = IsShownIf verdict Right refusal answer

abbrev pub IsShown : Verbosity → Tested → List ℕ → Result Listed ScheduleFault → Answer → Type 0
IsShown verbosity tested name said answer =
    IsShownBy tested.refusal (is_of_verdict said)
    (IsScenarioShown verbosity tested.bytes name tested.set said) answer

-- and of one that can't be read
abbrev pub unread_by : Option Refusal → List ℕ → Answer
unread_by None name = unread name
unread_by (Some refusal) name = refused refusal

-- what is told of the file of a name, of which so many reads failed, with the names of a set's
-- bytes
abbrev pub IsTestOf : Verbosity → Tested → List ℕ → Supply → ℕ → Answer → Type 0
IsTestOf verbosity tested name supply reads answer =
    ((reads ≡ 0) × ((text : List ℕ) × Holds supply text
    × IsShown verbosity tested name (scenario_in (names_in tested.bytes) text) answer))
    ⊎ ((reads ≡ 1) × (answer ≡ unread_by tested.refusal name))

-- what is asked: the file of the set, the paths of the scenarios, whether the set has to be
-- accepted, how the tests are reported, and how much is told of one that fails
pub record Asked : Type 0 where
  pub set : List ℕ
  pub paths : List (Bor (List ℕ))
  pub verification : Verification
  pub report : Report
  pub verbosity : Verbosity

-- what is told of a scenario of which this was read, with the names of a set's bytes
abbrev pub IsContentsTold : Asked → Tested → List ℕ → Contents → Answer → Type 0
IsContentsTold asked tested name (Whole text) answer =
    IsShown asked.verbosity tested name (scenario_in (names_in tested.bytes) text.items) answer
IsContentsTold asked tested name Unread answer = answer ≡ unread_by tested.refusal name
IsContentsTold asked tested name Unopened answer = answer ≡ unread_by tested.refusal name
IsContentsTold asked tested name Lacking answer = ⊥

abbrev pub IsHeldTold : Asked → Tested → Held → Answer → Type 0
IsHeldTold asked tested held answer =
    IsContentsTold asked tested held.name.now held.contents answer

-- and that is the test of it
abbrev pub IsTestHeld : Asked → Tested → Held → Test → Type 0
IsTestHeld asked tested held test =
    (test.name ≡ held.name.now) × IsHeldTold asked tested held test.answer

-- the tests of files of these names, in order
abbrev pub AreTestsOf : Asked → Tested → (List ℕ → Supply) → List (String Global) → ℕ → List Test
    → Type 0
AreTestsOf asked tested supply [] reads [] = reads ≡ 0
AreTestsOf asked tested supply [] reads (test ∷ tests) = ⊥
AreTestsOf asked tested supply (name ∷ names) reads [] = ⊥
AreTestsOf asked tested supply (name ∷ names) reads (test ∷ tests) =
    (failed others : ℕ) × (test.name ≡ string_bytes name)
    × IsTestOf asked.verbosity tested (string_bytes name) (supply (string_bytes name)) failed
    test.answer
    × AreTestsOf asked tested supply names others tests × (reads ≡ failed + others)

-- a file that was read has a scenario that expects nothing but a verdict
abbrev pub is_contents_of_verdict : Named → Contents → Bool
is_contents_of_verdict names (Whole text) = is_of_verdict (scenario_in names text.items)
is_contents_of_verdict names Unread = false
is_contents_of_verdict names Unopened = false
is_contents_of_verdict names Lacking = false

abbrev pub is_held_of_verdict : Named → Held → Bool
is_held_of_verdict names held = is_contents_of_verdict names held.contents

-- there was memory for what was to be read of it
abbrev pub IsKeptSo : Contents → Type 0
IsKeptSo (Whole text) = ⊤
IsKeptSo Unread = ⊤
IsKeptSo Unopened = ⊤
IsKeptSo Lacking = ⊥

abbrev pub IsKept : Held → Type 0
IsKept held = IsKeptSo held.contents

-- one of the files of these names has one
abbrev pub IsVerdictsIn : List ℕ → Supply → Type 0
IsVerdictsIn bytes supply =
    (text : List ℕ) × Holds supply text × (is_of_verdict (scenario_in (names_in bytes) text) ≡ true)

abbrev pub OneHasVerdicts : List ℕ → (List ℕ → Supply) → List (String Global) → Type 0
OneHasVerdicts bytes supply [] = ⊥
OneHasVerdicts bytes supply (name ∷ names) =
    IsVerdictsIn bytes (supply (string_bytes name)) ⊎ OneHasVerdicts bytes supply names

-- of files of these names none has one, or it can't be read
abbrev pub IsOther : List ℕ → Supply → ℕ → Type 0
IsOther bytes supply reads =
    ((reads ≡ 0) × ((text : List ℕ) × Holds supply text
    × (is_of_verdict (scenario_in (names_in bytes) text) ≡ false)))
    ⊎ (reads ≡ 1)

abbrev pub AreOthers : List ℕ → (List ℕ → Supply) → List (String Global) → ℕ → Type 0
AreOthers bytes supply [] reads = reads ≡ 0
AreOthers bytes supply (name ∷ names) reads =
    (failed others : ℕ) × IsOther bytes (supply (string_bytes name)) failed
    × AreOthers bytes supply names others × (reads ≡ failed + others)

-- what is told of all scenarios that were read: each of them; or once that the set is refused,
-- where it isn't run and none of them expects nothing but a verdict
abbrev pub AreEntries : Asked → Tested → List Held → Answer → Type 0
AreEntries asked tested held answer =
    (tests : List Test) × AllZip (IsTestHeld asked tested) held tests
    × (answer ≡ reported asked.report asked.set tests)

abbrev pub AreToldIf : Bool → Asked → Tested → List Held → Refusal → Answer → Type 0
AreToldIf true asked tested held refusal answer = AreEntries asked tested held answer
AreToldIf false asked tested held refusal answer =
    All IsKept held × (answer ≡ alone asked.report asked.set (refused refusal))

abbrev pub AreToldBy : Option Refusal → Asked → Tested → List Held → Answer → Type 0
AreToldBy None asked tested held answer = AreEntries asked tested held answer
AreToldBy (Some refusal) asked tested held answer =
    AreToldIf (list_any (is_held_of_verdict (names_in tested.bytes)) held) asked tested held refusal
    answer

-- what is right where so many files are opened, of which so many reads fail: for all scenarios,
-- which are played; and where none is
abbrev pub AreAllTold : Asked → List (String Global) → (List ℕ → Supply) → Tested → ℕ → Answer
    → Type 0
AreAllTold asked names supply tested reads answer =
    (tests : List Test) × AreTestsOf asked tested supply names reads tests
    × (answer ≡ reported asked.report asked.set tests)

abbrev pub AreTold : Option Refusal → Asked → List (String Global) → (List ℕ → Supply) → Tested
    → ℕ → Answer → Type 0
AreTold None asked names supply tested reads answer =
    AreAllTold asked names supply tested reads answer
AreTold (Some refusal) asked names supply tested reads answer =
    (OneHasVerdicts tested.bytes supply names × AreAllTold asked names supply tested reads answer)
    ⊎ (AreOthers tested.bytes supply names reads
    × (answer ≡ alone asked.report asked.set (refused refusal)))

abbrev pub AreTested : Asked → List (String Global) → (List ℕ → Supply) → Tested → ℕ → ℕ → Answer
    → Type 0
AreTested asked names supply tested opened reads answer =
    (opened ≡ length names) × AreTold tested.refusal asked names supply tested reads answer

abbrev pub IsUnplayed : Asked → (Answer → Type 0) → ℕ → ℕ → Answer → Type 0
IsUnplayed asked Right opened reads answer =
    (opened ≡ 0) × (reads ≡ 0) × ((whole : Answer) × Right whole
    × (answer ≡ alone asked.report asked.set whole))

-- a set that has to be accepted, and isn't, is not run
abbrev pub AreJudgedBy : Verification → Asked → List (String Global) → (List ℕ → Supply) → List ℕ
    → Set → ℕ → ℕ → Answer → Type 0
AreJudgedBy Required asked names supply bytes set opened reads answer =
    (IsTypable set
    × AreTested asked names supply (record { bytes = bytes; set = set; refusal = None }) opened reads
    answer)
    ⊎ ((refusal : Refusal) × IsFirstFault set refusal
    × AreTested asked names supply (record { bytes = bytes; set = set; refusal = Some refusal })
    opened reads answer)
AreJudgedBy Skipped asked names supply bytes set opened reads answer =
    AreTested asked names supply (record { bytes = bytes; set = set; refusal = None }) opened reads
    answer

-- the first fault of the file of a name that names no set
abbrev pub IsFaultOf : List ℕ → List ℕ → Answer → Type 0
IsFaultOf name bytes answer =
    (line : List ℕ) × FileSays bytes (Err line) × (answer ≡ faulty (marked name line))

-- for the set that the bytes of its file are
abbrev pub AreOfBytes : Asked → List (String Global) → (List ℕ → Supply) → List ℕ → ℕ → ℕ → Answer
    → Type 0
AreOfBytes asked names supply bytes opened reads answer =
    ((set : Set) × FileSays bytes (Ok set)
    × AreJudgedBy asked.verification asked names supply bytes set opened reads answer)
    ⊎ IsUnplayed asked (IsFaultOf asked.set bytes) opened reads answer

-- for that of its file
abbrev pub AreOfFile : Asked → List (String Global) → (List ℕ → Supply) → ℕ → ℕ → Answer → Type 0
AreOfFile asked names supply opened reads answer =
    ((others : ℕ) × (opened ≡ 1 + others) × ((bytes : List ℕ) × Holds (supply asked.set) bytes
    × AreOfBytes asked names supply bytes others reads answer))
    ⊎ ((opened ≡ 1) × (reads ≡ 1) × (answer ≡ alone asked.report asked.set (unread asked.set)))

-- for scenarios that paths stand for
abbrev pub AreOfPaths : Asked → (Sought → List ℕ → Found → Type 0) → (List ℕ → Supply) → ℕ → ℕ
    → Answer → Type 0
AreOfPaths asked stands supply opened reads answer =
    (names : List (String Global)) × AreFound (λ path. stands Scenarios path.now) asked.paths names
    × AreOfFile asked names supply opened reads answer

-- how tests end: by how many files were opened, how many reads and writes failed, what the output
-- held before and after, the exit status, and what is told
abbrev pub TestsEnd : Asked → (Sought → List ℕ → Found → Type 0) → (List ℕ → Supply) → ℕ → ℕ → ℕ
    → Option (List ℕ) → Option (List ℕ) → ℕ → List ℕ → Type 0
TestsEnd asked stands supply opened reads writes before after status told =
    Ends (AreOfPaths asked stands supply opened reads) 0 writes before after status told

-- what a call gathers, by the opened files and the failed reads before and after it; or memory ran
-- out
pub record Gathers {E : Type 0} (Right : ℕ → ℕ → Answer → Type 0)
    (opened_before opened_after reads_before reads_after : ℕ) (result : Result Answer E) : Type 0
  where
    pub opened : ℕ
    pub reads : ℕ
    pub opened_are : opened_after ≡ opened_before + opened
    pub reads_are : reads_after ≡ reads_before + reads
    pub few : reads ≤ opened
    pub right : IfOk result (Right opened reads)
