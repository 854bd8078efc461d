-- How the program answers the words of its command line, which files it opens, and what it writes to
-- one.
use Rattle.std.specs.Prelude.{ℕ, ◌≡◌, ◌≢◌, ◌+◌, ◌++◌, ◌≤◌, ◌⊎◌, List, [], None, Option, Some, if◌then◌else◌, map, min, true, Result, Ok, Err, String, drop, string_bytes}
use Rattle.std.specs.Borrow.{Bor}
use Rattle.std.specs.Global.{Global, Vec}
use Rattle.std.specs.declared.io.ErrorKind.{ErrorKind}
use Rattle.std.specs.declared.io.ErrorKind.TheVariants.{OutOfMemory}
use Rattle.clap.specs.Words.{Text, subcommand_of, takes}
use Rattle.drvhost_devices.specs.declared.fault.End.TheVariants.{Complete}
use Rattle.drvhost_devices.specs.Answer.{Answer, IsRuleExplained, IsUnopened, IsVersion, ended}
use Rattle.drvhost_devices.specs.Device.{Holds, MayBeClosed, Supply}
use Rattle.drvhost_devices.specs.declared.verification.Verification.{Verification}
use Rattle.drvhost_devices.specs.declared.verification.Verification.TheVariants.{Required}
use Rattle.drvhost_devices.specs.Ends.{Ends, HoldsRun, IsCheckOf, IsListOf, IsRewriteOf, IsTraceOf}
use Rattle.answer_hunts.specs.Find.{IsFindOf}
use Rattle.answer.specs.Listing.{IsListJsonOf}
use Rattle.answer.specs.declared.content.Content.{Content}
use Rattle.answer.specs.declared.content.Content.TheVariants.{Whole, Unread, Unopened}
use Rattle.answer.specs.declared.job.Job as job
use Rattle.answer_runs.specs.InJson.{IsTraceJsonOf}
use Rattle.answer_hunts.specs.declared.hunt.Way.{Way as Hunted}
use Rattle.answer_hunts.specs.declared.hunt.Way.TheVariants.{Quick, Exact}
use Rattle.answer_hunts.specs.Hunt.{IsHuntOfWay}
use Rattle.answer_hunts.specs.Json.{IsHuntJsonOf}
use Rattle.answer_mends.specs.declared.apply.ApplyOptions.{ApplyOptions}
use Rattle.answer_mends.specs.Apply.{IsApplyOf, IsApplyWith}
use Rattle.answer_mends.specs.declared.mend.MendOptions.{MendOptions}
use Rattle.answer_mends.specs.Json.{IsMendJsonOf}
use Rattle.answer_mends.specs.Mend.{IsMendOf}
use Rattle.answer_scenarios.specs.Scenarios.{IsScheduleOf}
use Rattle.answer_stats.specs.Json.{IsStatsJsonOf}
use Rattle.answer_stats.specs.Stats.{IsStatsOf}
use Rattle.answer_explain.specs.Explained.{IsLockOrderExplained}
use Rattle.answer_runs.specs.Keeping.{IsKeptOf, IsKeptWith}
use Rattle.answer_runs.specs.Readiness.{AreWarningsOf}
use Rattle.answer_runs.specs.Served.{IsHostOf}
use Rattle.answer_views.specs.InJson.{IsTellJsonOf}
use Rattle.answer_views.specs.Told.{IsDrawOf, IsTellOf}
use Rattle.cli.specs.declared.job.Form.{Form}
use Rattle.cli.specs.declared.job.Form.TheVariants.{Lines, Json}
use Rattle.cli.specs.declared.job.Job.{Job}
use Rattle.cli.specs.declared.job.Job.TheVariants.{Page as OfPage, Help, OnPaths, Log, Test, Rewrite, Apply, OnSet, OnRun, Host, Keep}
use Rattle.cli.specs.declared.job.Page.{Page}
use Rattle.cli.specs.declared.job.Page.TheVariants.{Rule, LockOrder, Version}
use Rattle.cli.specs.declared.job.Task.{Task}
use Rattle.cli.specs.declared.job.Task.TheVariants.{Mend, List as Listing, Hunt, HuntExactly, Find, FindExactly, Stats}
use Rattle.cli.specs.declared.job.Judging.{Judging}
use Rattle.cli.specs.declared.job.Judging.TheVariants.{Check, CheckJson, Explain, ExplainJson}
use Rattle.cli.specs.declared.job.Testing.{Testing}
use Rattle.cli.specs.declared.job.Way.{Way}
use Rattle.cli.specs.declared.job.Way.TheVariants.{Trace, TraceJson, Tell, TellJson, Draw, Schedule}
use Rattle.cli.specs.CommandLine.{Names, NamesJob, program, usage}
use Rattle.drvhost_files.specs.Files.{Has, IsWritten}
use Rattle.drvhost_files.specs.declared.find.Found.{Found}
use Rattle.drvhost_files.specs.declared.sought.Sought.{Sought}
use Rattle.drvhost_files.specs.declared.sought.Sought.TheVariants.{Sets}
use Rattle.drvhost_many.specs.All.{AreFound, EachEnds, IsAlone, IsUnfound, width_of}
use Rattle.drvhost_many.specs.One.{IsFrom, IsJudgedFrom}
use Rattle.drvhost_many.specs.Painted.{IsShown}
use Rattle.drvhost_devices.specs.declared.coloring.Coloring.{Coloring}
use Rattle.drvhost_devices.specs.declared.coloring.Coloring.TheVariants.{Always, Never}
use Rattle.drvhost_devices.specs.declared.jobs.TheConstants.{MAX_JOBS}
use Rattle.drvhost_devices.specs.declared.surroundings.Surroundings.{Surroundings}
use Rattle.drvhost_devices.specs.Painting.{is_painted}
use Rattle.answer_logs.specs.Log.{PathsEnd as LogEnds}
use Rattle.drvhost_tests.specs.Tests.{Asked as Tested, TestsEnd}
use Rattle.drvhost_told.specs.Served.{IsHostJsonOf}
use Rattle.hunt_facts.specs.declared.bounds.Bounds.{Bounds}
use Rattle.drvhost_words.specs.Unread.{IsNamedUnread, IsOneOf}

-- what a run of a set by an input answers, by the names of their files and what these have
abbrev pub IsRunBy : Way → Bor (List ℕ) → Bor (List ℕ) → Supply → Supply → Answer → Type 0
IsRunBy (Trace verification) name other set input = IsTraceOf verification set input
IsRunBy (TraceJson verification) name other set input =
    IsTraceJsonOf (record { set = name; schedule = other; verification = verification }) set input
IsRunBy (Tell verification manner coloring) name other set input =
    IsShown coloring (IsTellOf verification manner set input)
IsRunBy (TellJson verification strictness) name other set input =
    IsTellJsonOf verification strictness name.now other.now set input
IsRunBy (Draw verification figure) name other set input = IsDrawOf verification figure set input
IsRunBy (Schedule verification) name other set input = IsScheduleOf verification set input

-- whether an answer is in colour, by what a run of the program finds around it
abbrev pub settled : Surroundings → Coloring → Coloring
settled surroundings coloring = if is_painted coloring surroundings then Always else Never

abbrev pub settled_judging : Surroundings → Judging → Judging
settled_judging surroundings Check = Check
settled_judging surroundings CheckJson = CheckJson
settled_judging surroundings (Explain extent coloring) =
    Explain extent (settled surroundings coloring)
settled_judging surroundings (ExplainJson extent) = ExplainJson extent

abbrev pub settled_way : Surroundings → Way → Way
settled_way surroundings (Trace verification) = Trace verification
settled_way surroundings (TraceJson verification) = TraceJson verification
settled_way surroundings (Tell verification manner coloring) =
    Tell verification manner (settled surroundings coloring)
settled_way surroundings (TellJson verification strictness) = TellJson verification strictness
settled_way surroundings (Draw verification figure) = Draw verification figure
settled_way surroundings (Schedule verification) = Schedule verification

-- whether the set has to be accepted
abbrev pub verification_of : Way → Verification
verification_of (Trace verification) = verification
verification_of (TraceJson verification) = verification
verification_of (Tell verification manner coloring) = verification
verification_of (TellJson verification strictness) = verification
verification_of (Draw verification figure) = verification
verification_of (Schedule verification) = verification

-- what so many workers answer that serve the commands of a script, in a form, by the names of the
-- files of the set and of the script and what these have
abbrev pub IsServedBy : Form → ℕ → List ℕ → List ℕ → Supply → Supply → Answer → Type 0
IsServedBy Lines workers name other = IsHostOf workers
IsServedBy Json workers name other = IsHostJsonOf workers name other

-- the warnings that are told before: none, where it is JSON
abbrev pub AreWarningsBy : Form → Supply → ℕ → List ℕ → Type 0
AreWarningsBy Lines set status warnings = AreWarningsOf set status warnings
AreWarningsBy Json set status warnings = warnings ≡ []

-- what a hunt in such a way answers in a form, within bounds, by the name of its file and what this
-- has
abbrev pub IsHuntIn : Form → Hunted → Bounds → List ℕ → Supply → Answer → Type 0
IsHuntIn Lines way bounds name = IsHuntOfWay way bounds
IsHuntIn Json way bounds name = IsHuntJsonOf way bounds name

-- and what `mend` answers
abbrev pub IsMendIn : Form → MendOptions → List ℕ → Supply → Answer → Type 0
IsMendIn Lines asked name = IsMendOf asked
IsMendIn Json asked name = IsMendJsonOf asked name

-- and what `list` answers
abbrev pub IsListBy : Form → List ℕ → Supply → Answer → Type 0
IsListBy Lines name = IsListOf
IsListBy Json name = IsListJsonOf name

-- and what `stats` answers
abbrev pub IsStatsBy : Form → List ℕ → Supply → Answer → Type 0
IsStatsBy Lines name = IsStatsOf
IsStatsBy Json name = IsStatsJsonOf name

-- what a task with a set answers, by the name of its file and what this has
abbrev pub IsTaskOf : Task → List ℕ → Supply → Answer → Type 0
IsTaskOf (Mend tries form) name = IsMendIn form (record { tries = tries }) name
IsTaskOf (Listing form) name = IsListBy form name
IsTaskOf (Hunt reach form) name = IsHuntIn form Quick reach name
IsTaskOf (HuntExactly reach form) name = IsHuntIn form Exact reach name
IsTaskOf (Find reach) name = IsFindOf Quick reach
IsTaskOf (FindExactly reach) name = IsFindOf Exact reach
IsTaskOf (Stats form) name = IsStatsBy form name

-- a page that stands in the program
abbrev pub IsPage : Page → Answer → Type 0
IsPage (Rule rule) = IsRuleExplained rule
IsPage LockOrder = IsLockOrderExplained
IsPage Version = IsVersion

-- the text of help
abbrev pub IsHelp : List ℕ → Answer → Type 0
IsHelp text answer = answer ≡ ended Complete text

-- the form of what a task answers
abbrev pub form_of_task : Task → Form
form_of_task (Mend tries form) = form
form_of_task (Listing form) = form
form_of_task (Hunt reach form) = form
form_of_task (HuntExactly reach form) = form
form_of_task (Find reach) = Lines
form_of_task (FindExactly reach) = Lines
form_of_task (Stats form) = form

-- what it answers for what was read of that file
abbrev pub IsTaskFrom : Task → List ℕ → Content → Answer → Type 0
IsTaskFrom task name = IsFrom (form_of_task task) (IsTaskOf task name) name

-- what is read of a file that has this to give, where no read fails: all its bytes, or it can't be
-- opened
abbrev pub IsReadOf : Supply → Content → Type 0
IsReadOf supply (Whole bytes) = Holds supply bytes.now
IsReadOf supply Unread = ⊥
IsReadOf supply Unopened = MayBeClosed supply

-- what is right for the file of a name, where these are the right answers for what is read of it
abbrev pub IsOfFile : (List ℕ → Content → Answer → Type 0) → (List ℕ → Supply) → List ℕ → Answer
    → Type 0
IsOfFile Right supply name answer =
    (content : Content) × IsReadOf (supply name) content × Right name content answer

-- the right answers of a job for what is read of the file of a name
abbrev pub IsRightOf : {J : Type 0} → job.Ghosts J → J → List ℕ → Content → Answer → Type 0
IsRightOf its it name content answer =
    (called : Bor (List ℕ)) × (called.now ≡ name)
    × its.right it (record { name = called; content = content }) answer

-- what is right where a mend of the text of the file of a name is applied
abbrev pub IsOfApply : ApplyOptions → (List ℕ → Supply) → List ℕ → Answer → Type 0
IsOfApply asked supply name answer =
    IsApplyOf asked (supply name) answer ⊎ (MayBeClosed (supply name) × IsUnopened name answer)

-- what is right where the output goes to a file: the same, with nothing on the standard output
abbrev pub IsQuietly : (Answer → Type 0) → Answer → Type 0
IsQuietly Right answer =
    (whole : Answer) × Right whole × (answer ≡ record whole { output = [] })

-- the words after the program's name
abbrev pub arguments : Vec (String Global) → List Text
arguments words = map string_bytes (drop 1 words.items)

-- how many files are opened for a run: that of its input for a set that is run alone
abbrev pub OpensToTrace : Verification → Supply → ℕ → Type 0
OpensToTrace verification set count =
    (count ≡ 1) ⊎ ((count ≡ 2) × HoldsRun verification set)

-- words that name no job are answered with a text on how the program is used
pub record IsUsage (words : List Text) (answer : Answer) : Type 0 where
  pub none : takes program words ≡ true → (job : Job) → Names (subcommand_of program words) job → ⊥
  pub status : answer.status ≡ 2
  pub output : answer.output ≡ []
  pub told : answer.told ≢ []

-- what is right where the words can't be had, since some of them aren't text
abbrev pub IsAnswerToLost : ErrorKind → Answer → Type 0
IsAnswerToLost kind answer =
    (kind ≢ OutOfMemory) × (answer ≡ record { status = 2; output = []; told = usage })

-- how a command ends with a text behind its answer, where these answers are right
pub record EndsTelling (Tells : List ℕ → Type 0) (Right : Answer → Type 0) (reads writes : ℕ)
    (before after : Option (List ℕ)) (status : ℕ) (told : List ℕ) : Type 0 where
  pub said : List ℕ
  pub text : List ℕ
  pub tells : Tells text
  pub ends : Ends Right reads writes before after status said
  pub told_is : told ≡ said ++ text

-- and with warnings before it
pub record EndsWarned (Warns Tells : List ℕ → Type 0) (Right : Answer → Type 0) (reads writes : ℕ)
    (before after : Option (List ℕ)) (status : ℕ) (told : List ℕ) : Type 0 where
  pub warnings : List ℕ
  pub rest : List ℕ
  pub warns : Warns warnings
  pub ends : EndsTelling Tells Right reads writes before after status rest
  pub told_is : told ≡ warnings ++ rest

-- how a job with the set of the file of a name ends, where these are the right answers for what is
-- read of it: that file is opened, and named behind the answer where it can't be read
abbrev pub WorkEnds : (List ℕ → Content → Answer → Type 0) → (List ℕ → Supply) → List ℕ → ℕ → ℕ → ℕ
    → Option (List ℕ) → Option (List ℕ) → ℕ → List ℕ → Type 0
WorkEnds Right supply name opened reads writes before after status told =
    (opened ≡ 1) × EndsTelling (IsNamedUnread (λ unread. unread ≡ name) 0 reads)
    (IsOfFile Right supply name) reads writes before after status told

-- how the judging of the set of one file alone does: a verdict in lines of text has no name behind it
abbrev pub FileEnds : Judging → (List ℕ → Supply) → List ℕ → ℕ → ℕ → ℕ → Option (List ℕ)
    → Option (List ℕ) → ℕ → List ℕ → Type 0
FileEnds Check supply name opened reads writes before after status told =
    (opened ≡ 1) × Ends (IsCheckOf (supply name)) reads writes before after status told
FileEnds CheckJson supply name opened reads writes before after status told =
    WorkEnds (IsJudgedFrom CheckJson) supply name opened reads writes before after status told
FileEnds (Explain extent coloring) supply name opened reads writes before after status told =
    WorkEnds (IsJudgedFrom (Explain extent coloring)) supply name opened reads writes before after
    status told
FileEnds (ExplainJson extent) supply name opened reads writes before after status told =
    WorkEnds (IsJudgedFrom (ExplainJson extent)) supply name opened reads writes before after status
    told

-- so many jobs share several files, where so many are asked for: 64 at most
abbrev pub IsJobCount : Option ℕ → ℕ → Type 0
IsJobCount None count = count ≤ MAX_JOBS
IsJobCount (Some asked) count = count ≡ min asked MAX_JOBS

-- how that of the sets does that were found for paths: of one file alone as it is, and of others
-- each told with its name, where so many jobs are asked for
abbrev pub FoundEnds : Judging → Option ℕ → (List ℕ → Supply) → List (Bor (List ℕ))
    → List (String Global) → ℕ → ℕ → ℕ → Option (List ℕ) → Option (List ℕ) → ℕ → List ℕ → Type 0
FoundEnds judging jobs supply paths names opened reads writes before after status told =
    ((path : List ℕ) × IsAlone paths names path
    × FileEnds judging supply path opened reads writes before after status told)
    ⊎ (((path : List ℕ) → IsAlone paths names path → ⊥)
    × (count : ℕ) × IsJobCount jobs count
    × EachEnds judging (width_of count) supply names opened reads writes before after status told)

-- how that of the sets does that paths stand for
abbrev pub PathsEnd : (Sought → List ℕ → Found → Type 0) → (List ℕ → Supply) → List (Bor (List ℕ))
    → Judging → Option ℕ → ℕ → ℕ → ℕ → Option (List ℕ) → Option (List ℕ) → ℕ → List ℕ → Type 0
PathsEnd stands supply paths judging jobs opened reads writes before after status told =
    ((names : List (String Global)) × AreFound (λ path. stands Sets path.now) paths names
    × FoundEnds judging jobs supply paths names opened reads writes before after status told)
    ⊎ IsUnfound opened reads writes before after status told

-- how a run of a set by an input does, in this way
abbrev pub RunEnds : Way → (List ℕ → Supply) → Bor (List ℕ) → Bor (List ℕ) → ℕ → ℕ → ℕ
    → Option (List ℕ) → Option (List ℕ) → ℕ → List ℕ → Type 0
RunEnds way supply set input opened reads writes before after status told =
    OpensToTrace (verification_of way) (supply set.now) opened
    × EndsTelling (IsNamedUnread (IsOneOf set.now input.now) 0 reads)
    (IsRunBy way set input (supply set.now) (supply input.now)) reads writes before after status told

-- what is asked of tests
abbrev pub asked_by : Testing → Tested
asked_by testing =
    record {
      set = testing.set.now;
      paths = testing.scenarios.items;
      verification = testing.verification;
      report = testing.report;
      verbosity = testing.verbosity;
    }

-- how a job ends, for what the program finds around it, where paths stand for such files, and the
-- files of names have this to give: by the number of files that it opens, that of reads and of writes
-- that fail, what went out, its exit status, and all that it tells
abbrev pub JobEnds : Surroundings → (Sought → List ℕ → Found → Type 0) → (List ℕ → Supply) → Job → ℕ → ℕ → ℕ
    → Option (List ℕ) → Option (List ℕ) → ℕ → List ℕ → Type 0
JobEnds surroundings stands supply (OfPage page) opened reads writes before after status told =
    (opened ≡ 0) × Ends (IsPage page) reads writes before after status told
JobEnds surroundings stands supply (Help text) opened reads writes before after status told =
    (opened ≡ 0) × Ends (IsHelp (string_bytes text)) reads writes before after status told
JobEnds surroundings stands supply (OnPaths judged) opened reads writes before after status told =
    PathsEnd stands supply judged.paths.items (settled_judging surroundings judged.judging)
    judged.jobs opened reads writes before after status told
JobEnds surroundings stands supply (Log paths logging) opened reads writes before after status told =
    LogEnds logging (λ path. stands Sets path.now) supply paths.items opened reads writes before after
    status told
JobEnds surroundings stands supply (Test testing) opened reads writes before after status told =
    TestsEnd (asked_by testing) stands supply opened reads writes before after status told
JobEnds surroundings stands supply (Rewrite set output) opened reads writes before after status told =
    (opened ≡ 1)
    × Ends (IsQuietly (IsRewriteOf (supply set.now))) reads writes before after status told
JobEnds surroundings stands supply (Apply set tries wanted) opened reads writes before after status told =
    (opened ≡ 1)
    × EndsTelling (IsNamedUnread (λ unread. unread ≡ set.now) 0 reads)
    (IsOfApply (record { tries = tries; wanted = wanted }) supply set.now) reads writes before after
    status told
JobEnds surroundings stands supply (OnSet set task) opened reads writes before after status told =
    WorkEnds (IsTaskFrom task) supply set.now opened reads writes before after status told
JobEnds surroundings stands supply (OnRun names way) opened reads writes before after status told =
    RunEnds (settled_way surroundings way) supply names.set names.input opened reads writes before
    after status told
JobEnds surroundings stands supply (Host serving) opened reads writes before after status told =
    let set = serving.names.set.now in
    let script = serving.names.input.now in
    OpensToTrace Required (supply set) opened
    × EndsWarned (AreWarningsBy serving.form (supply set) status)
    (IsNamedUnread (IsOneOf set script) 0 reads)
    (IsServedBy serving.form serving.workers set script (supply set) (supply script)) reads writes
    before after status told
JobEnds surroundings stands supply (Keep keeping) opened reads writes before after status told =
    let set = keeping.names.set.now in
    let script = keeping.names.input.now in
    OpensToTrace Required (supply set) opened
    × EndsWarned (AreWarningsOf (supply set) status)
    (IsNamedUnread (IsOneOf set script) 0 reads)
    (IsKeptOf keeping.workers (supply set) (supply script)) reads writes before after status told

-- how words are answered that name no job, where these answers are right: nothing is read
abbrev pub EndsAtOnce : (Answer → Type 0) → ℕ → ℕ → ℕ → Option (List ℕ) → Option (List ℕ) → ℕ
    → List ℕ → Type 0
EndsAtOnce Right opened reads writes before after status told =
    (opened ≡ 0) × (reads ≡ 0) × (writes ≡ 0) × Ends Right 0 0 before after status told

-- how the words of a command line are answered
abbrev pub WordsEnd : Surroundings → (Sought → List ℕ → Found → Type 0) → (List ℕ → Supply) → List Text → ℕ → ℕ → ℕ
    → Option (List ℕ) → Option (List ℕ) → ℕ → List ℕ → Type 0
WordsEnd surroundings stands supply words opened reads writes before after status told =
    ((job : Job) × NamesJob words job
    × JobEnds surroundings stands supply job opened reads writes before after status told)
    ⊎ EndsAtOnce (IsUsage words) opened reads writes before after status told

-- how all words of a command line are, the program's name first
abbrev pub ProgramEnds : Surroundings → (Sought → List ℕ → Found → Type 0) → (List ℕ → Supply)
    → Result (Vec (String Global)) ErrorKind → ℕ → ℕ → ℕ → Option (List ℕ) → Option (List ℕ) → ℕ
    → List ℕ → Type 0
ProgramEnds surroundings stands supply (Ok words) opened reads writes before after status told =
    WordsEnd surroundings stands supply (arguments words) opened reads writes before after status told
ProgramEnds surroundings stands supply (Err kind) opened reads writes before after status told =
    EndsAtOnce (IsAnswerToLost kind) opened reads writes before after status told

-- what the files of names have to give before and after, and how many were written until then and
-- since: none was, and all have what they had
pub record LeavesFiles (before after : List ℕ → Supply) (old new : ℕ) : Type 0 where
  pub supply : after ≡ before
  pub none : new ≡ old

-- one was written, which is opened for the image of this set alone: it has that image, or a
-- beginning of it, or what it had if it couldn't be opened; and the others have what they had
pub record WritesFile (set : Supply) (name : List ℕ) (before after : List ℕ → Supply) (old new : ℕ)
    (status : ℕ) : Type 0 where
  pub one : new ≡ old + 1
  pub image : Answer
  pub right : IsRewriteOf set image
  pub is : image.status ≡ 0
  pub part : List ℕ
  pub rest : List ℕ
  pub split : image.output ≡ part ++ rest
  pub has : Has (before name) (after name) part ⊎ (after name ≡ before name)
  pub others : (other : List ℕ) → other ≢ name → after other ≡ before other
  pub status_is : (status ≡ 0) ⊎ (status ≡ 2)

-- what a rewrite does to the file of a name: where it succeeds, that file has the image of the set
pub record RewritesFile (set : Supply) (name : List ℕ) (before after : List ℕ → Supply)
    (old new : ℕ) (status : ℕ) : Type 0 where
  pub whole : status ≡ 0 → (image : Answer) × IsRewriteOf set image × (image.status ≡ 0)
      × Has (before name) (after name) image.output
  pub touched : LeavesFiles before after old new ⊎ WritesFile set name before after old new status

-- one was written, which is opened for the text alone that a mend makes of its own, if that has any
-- bytes: it has that text, or a beginning of it where a write failed; and the others have what they
-- had
pub record WritesMend (asked : ApplyOptions) (name : List ℕ) (before after : List ℕ → Supply)
    (old new : ℕ) (status : ℕ) : Type 0 where
  pub one : (new ≡ old) ⊎ (new ≡ old + 1)
  pub answer : Answer
  pub made : List ℕ
  pub right : IsApplyWith asked (before name) (Some made) answer
  pub part : List ℕ
  pub rest : List ℕ
  pub split : made ≡ part ++ rest
  pub has : IsWritten (before name) (after name) (Some part)
  pub others : (other : List ℕ) → other ≢ name → after other ≡ before other
  pub status_is : ((status ≡ answer.status) × (rest ≡ [])) ⊎ (status ≡ 2)

-- what a mend that is applied does to the file of a name: it is left by a fault, or where no text is
-- written; else it has the text that the mend makes
abbrev pub MendsFile : ApplyOptions → List ℕ → (List ℕ → Supply) → (List ℕ → Supply) → ℕ → ℕ → ℕ
    → Type 0
MendsFile asked name before after old new status =
    (LeavesFiles before after old new × ((status ≡ 2) ⊎ (status ≡ 3)
    ⊎ ((answer : Answer) × IsApplyWith asked (before name) None answer × (status ≡ answer.status))))
    ⊎ WritesMend asked name before after old new status

-- one was written, which is opened for the history alone of commands that were served, if its text
-- has any bytes: it has that text, or a beginning of it where a write failed; and the others have
-- what they had
pub record WritesHistory (workers : ℕ) (set script : Supply) (name : List ℕ)
    (before after : List ℕ → Supply) (old new : ℕ) (status : ℕ) : Type 0 where
  pub one : (new ≡ old) ⊎ (new ≡ old + 1)
  pub answer : Answer
  pub text : List ℕ
  pub right : IsKeptWith workers set script (Some text) answer
  pub part : List ℕ
  pub rest : List ℕ
  pub split : text ≡ part ++ rest
  pub has : IsWritten (before name) (after name) (Some part)
  pub others : (other : List ℕ) → other ≢ name → after other ≡ before other
  pub status_is : ((status ≡ answer.status) × (rest ≡ [])) ⊎ (status ≡ 2)

-- what `host` does to the file of a name that is for the history: it is left by a fault, or where
-- nothing is served; else it has the history
abbrev pub KeepsHistory : ℕ → Supply → Supply → List ℕ → (List ℕ → Supply) → (List ℕ → Supply) → ℕ
    → ℕ → ℕ → Type 0
KeepsHistory workers set script name before after old new status =
    (LeavesFiles before after old new × ((status ≡ 2) ⊎ (status ≡ 3)
    ⊎ ((answer : Answer) × IsKeptWith workers set script None answer × (status ≡ answer.status))))
    ⊎ WritesHistory workers set script name before after old new status

-- what a job does to the files
abbrev pub JobStores : Job → (List ℕ → Supply) → (List ℕ → Supply) → ℕ → ℕ → ℕ → Type 0
JobStores (Rewrite set output) before after old new status =
    RewritesFile (before set.now) output.now before after old new status
JobStores (Apply set tries wanted) before after old new status =
    MendsFile (record { tries = tries; wanted = wanted }) set.now before after old new status
JobStores (Keep keeping) before after old new status =
    KeepsHistory keeping.workers (before keeping.names.set.now) (before keeping.names.input.now)
    keeping.output.now before after old new status
JobStores job before after old new status = LeavesFiles before after old new

-- what the program does to the files for these words: nothing where it names no job, and then it
-- doesn't succeed, or what that job does
abbrev pub WordsStore : List Text → (List ℕ → Supply) → (List ℕ → Supply) → ℕ → ℕ → ℕ → Type 0
WordsStore words before after old new status =
    (LeavesFiles before after old new × (status ≢ 0))
    ⊎ ((job : Job) × NamesJob words job × JobStores job before after old new status)

abbrev pub ProgramStores : Result (Vec (String Global)) ErrorKind → (List ℕ → Supply)
    → (List ℕ → Supply) → ℕ → ℕ → ℕ → Type 0
ProgramStores (Ok words) before after old new status =
    WordsStore (arguments words) before after old new status
ProgramStores (Err kind) before after old new status = LeavesFiles before after old new
