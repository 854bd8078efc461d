-- What is right for files is right for what is known of them, and how words are answered.
use Rattle.std.proofs.Common.{◌≡◌, ◌≢◌, ◌∙◌, ◌⊎◌, ap, ℕ, ◌+◌, List, [], ◌++◌, ◌∷◌, Option, None, Some, true, string_bytes, append-nil, arith, inl, inr, refl, subst, sym}
use Rattle.std.specs.Borrow.{Bor}
use Rattle.std.proofs.KnownBytes.{Appends-nil, Keeps-refl}
use Rattle.clap.specs.Words.{Text, subcommand_of, takes}
use Rattle.drvhost_devices.specs.Answer.{Answer}
use Rattle.drvhost_devices.specs.Device.{IsSuppliedAs, Says, Supply}
use Rattle.drvhost_devices.specs.Ends.{Answers, Ends, HoldsRun, IsCheckOf, IsRewriteOf, OutOfMemory, ReadFailed, Rightly, WriteFailed}
use Rattle.answer_runs.specs.Readiness.{SaysWarned}
use Rattle.drvhost_devices.specs.declared.verification.Verification.{Verification}
use Rattle.cli.specs.declared.job.Form.{Form}
use Rattle.cli.specs.declared.job.Form.TheVariants.{Lines, Json}
use Rattle.cli.specs.declared.job.Job.{Job}
use Rattle.cli.specs.declared.job.Way.{Way}
use Rattle.cli.specs.declared.job.Way.TheVariants.{Trace, TraceJson, Tell, TellJson, Draw, Schedule}
use Rattle.cli.specs.declared.job.JobFault.{JobFault}
use Rattle.drvhost_devices.specs.declared.coloring.Coloring.TheVariants.{Auto, Always, Never}
use Rattle.cli.specs.declared.job.JobFault.TheVariants.{Memory, Usage}
use Rattle.cli.specs.CommandLine.{Names, job_fault_status, job_fault_told, program, text_told}
use Rattle.drvhost_files.specs.Files.{supply_of}
use Rattle.drvhost_files.proofs.Known.{holds_known}
use Rattle.drvhost_many.specs.All.{Counted}
use Rattle.drvhost_words.specs.Program.{AreWarningsBy, EndsAtOnce, IsQuietly, IsRunBy, IsServedBy, IsUsage, OpensToTrace}
use Rattle.drvhost_words.specs.Returned.{count_of}
use Rattle.drvhost_words.specs.Unread.{IsNamedUnread, SaysAround, SaysMore, SaysUnread}

-- where nothing was written to the files beside
pub answers_beside : (R : Answer → Type 0) (k m w x u v : ℕ) (b n : Option (List ℕ))
    (Tells : List ℕ → Type 0) (status : ℕ) → Answers R k m w x b n Tells status → v ≡ u
    → Answers R k m (u + w) (v + x) b n Tells status
answers_beside R k m w x u v b n Tells status a same =
    record {
      reads = a.reads;
      writes = a.writes;
      told = a.told;
      reads_are = a.reads_are;
      writes_are = let are : x ≡ w + a.writes = a.writes_are in omega arith;
      tells = a.tells;
      ends = a.ends;
    }

-- where other texts may be told
pub answers_telling : (R : Answer → Type 0) (k m w x : ℕ) (b n : Option (List ℕ))
    (Tells Others : List ℕ → Type 0) (status : ℕ) → Answers R k m w x b n Tells status
    → ((told : List ℕ) → Tells told → Others told) → Answers R k m w x b n Others status
answers_telling R k m w x b n Tells Others status a on =
    record {
      reads = a.reads;
      writes = a.writes;
      told = a.told;
      reads_are = a.reads_are;
      writes_are = a.writes_are;
      tells = on a.told a.tells;
      ends = a.ends;
    }

-- nothing is said behind
pub says_alone : (Tells : List ℕ → Type 0) (e f : ℕ) (b n : Option (List ℕ)) → Tells []
    → (told : List ℕ) → Says e f b n told → SaysMore Tells e f b n told
says_alone Tells e f b n none told says =
    let P : List ℕ → Type 0 = Says e f b n in ([], none, subst P (sym (append-nil told)) says)

pub answers_alone : (R : Answer → Type 0) (k m w x : ℕ) (b n : Option (List ℕ))
    (Tells : List ℕ → Type 0) (e f : ℕ) (p q : Option (List ℕ)) (status : ℕ) → Tells []
    → Answers R k m w x b n (Says e f p q) status
    → Answers R k m w x b n (SaysMore Tells e f p q) status
answers_alone R k m w x b n Tells e f p q status none a =
    answers_telling R k m w x b n (Says e f p q) (SaysMore Tells e f p q) status a
    (says_alone Tells e f p q none)

-- by other counts of failed reads
unread_moved : (Such : List ℕ → Type 0) (reads before after : ℕ) (text : List ℕ)
    → after ≡ before + reads → IsNamedUnread Such 0 reads text
    → IsNamedUnread Such before after text
unread_moved Such reads before after text are (inl (none, empty)) = inl (omega arith, empty)
unread_moved Such reads before after text are (inr (some, named)) =
    inr (λ same. some (omega arith), named)

-- the name of a file that can't be read is said behind
pub answers_unread : (R : Answer → Type 0) (k m w x : ℕ) (b n : Option (List ℕ))
    (Such : List ℕ → Type 0) (reads before after e f h : ℕ) (p q r : Option (List ℕ))
    (status : ℕ) → Answers R k m w x b n (Says e f p q) status
    → SaysUnread Such reads e f h q r → after ≡ before + reads
    → Answers R k m w x b n (SaysMore (IsNamedUnread Such before after) e h p r) status
answers_unread R k m w x b n Such reads before after e f h p q r status a (text, unread, said) are =
    answers_telling R k m w x b n (Says e f p q)
    (SaysMore (IsNamedUnread Such before after) e h p r) status a
    (λ told says. (
      text,
      unread_moved Such reads before after text are unread,
      said p told says,
    ))

-- warnings are said before, and the name of a file that can't be read behind
pub answers_warned : (R : Answer → Type 0) (k m w x : ℕ) (b n : Option (List ℕ))
    (Warns Others Such : List ℕ → Type 0) (reads before after e f h : ℕ)
    (p q r : Option (List ℕ)) (status : ℕ)
    → Answers R k m w x b n (SaysWarned Warns e f p q) status
    → ((warnings : List ℕ) → Warns warnings → Others warnings)
    → SaysUnread Such reads e f h q r → after ≡ before + reads
    → Answers R k m w x b n (SaysAround Others (IsNamedUnread Such before after) e h p r) status
answers_warned R k m w x b n Warns Others Such reads before after e f h p q r status a on
    (text, unread, said) are =
    answers_telling R k m w x b n (SaysWarned Warns e f p q)
    (SaysAround Others (IsNamedUnread Such before after) e h p r) status a
    (λ told warned. (
      warned.0,
      text,
      on warned.0 warned.1,
      unread_moved Such reads before after text are unread,
      said p (warned.0 ++ told) warned.2,
    ))

-- where the output goes to a file, and nothing to the standard output
ends_quietly : (R Q : Answer → Type 0) (reads writes : ℕ) (b n c : Option (List ℕ)) (status : ℕ)
    (told : List ℕ) → ((answer : Answer) → R answer → Q answer)
    → Ends R reads writes b n status told → Ends (IsQuietly Q) reads writes c c status told
ends_quietly R Q reads writes b n c status told on (Rightly answer right r w s t out) =
    Rightly (record answer { output = [] }) (answer, on answer right, refl) r w s t (Appends-nil c)
ends_quietly R Q reads writes b n c status told on (ReadFailed r w s t out) =
    ReadFailed r w s t (Keeps-refl c)
ends_quietly R Q reads writes b n c status told on (WriteFailed answer right r w s t out) =
    WriteFailed (record answer { output = [] }) (answer, on answer right, refl) r w s t
    (record { part = []; rest = []; split = refl; appended = Appends-nil c })
ends_quietly R Q reads writes b n c status told on (OutOfMemory r w s t out) =
    OutOfMemory r w s t (Keeps-refl c)

pub answers_quietly : (R Q : Answer → Type 0) (k m i j w x u v p : ℕ) (b n c : Option (List ℕ))
    (Tells : List ℕ → Type 0) (status : ℕ) → Answers R k m w x b n Tells status
    → ((answer : Answer) → R answer → Q answer) → j + k ≡ i + m → v + w ≡ u + x
    → Answers (IsQuietly Q) i j (u + p) (v + p) c c Tells status
answers_quietly R Q k m i j w x u v p b n c Tells status a on same moved =
    record {
      reads = a.reads;
      writes = a.writes;
      told = a.told;
      reads_are = let are : m ≡ k + a.reads = a.reads_are in omega arith;
      writes_are = let are : x ≡ w + a.writes = a.writes_are in omega arith;
      tells = a.tells;
      ends = ends_quietly R Q a.reads a.writes b n c status a.told on a.ends;
    }

-- what is right for a file is right for what is known of it
pub check_known : (known supply : Supply) → IsSuppliedAs known supply → (answer : Answer)
    → IsCheckOf supply answer → IsCheckOf known answer
check_known known supply h answer (bytes, holds, right) =
    (bytes, holds_known known supply bytes h holds, right)

pub rewrite_known : (known supply : Supply) → IsSuppliedAs known supply → (answer : Answer)
    → IsRewriteOf supply answer → IsRewriteOf known answer
rewrite_known known supply h answer (bytes, holds, right) =
    (bytes, holds_known known supply bytes h holds, right)

served_held : (form : Form) (workers : ℕ) (n o : List ℕ) (known supply script : Supply)
    → IsSuppliedAs known supply → (answer : Answer)
    → IsServedBy form workers n o supply script answer
    → IsServedBy form workers n o known script answer
served_held Lines workers n o known supply script h answer (bytes, holds, right) =
    (bytes, holds_known known supply bytes h holds, right)
served_held Json workers n o known supply script h answer (bytes, holds, right) =
    (bytes, holds_known known supply bytes h holds, right)

pub served_known : (form : Form) (workers : ℕ) (n o : List ℕ) (known supply script other : Supply)
    → IsSuppliedAs known supply → other ≡ script → (answer : Answer)
    → IsServedBy form workers n o supply other answer
    → IsServedBy form workers n o known script answer
served_known form workers n o known supply script other h e answer right =
    let P : Supply → Type 0 = λ s. IsServedBy form workers n o known s answer in
    subst P e (served_held form workers n o known supply other h answer right)

-- the warnings of the set that a file holds are those of what is known of it
pub warned_known : (form : Form) (known supply : Supply) → IsSuppliedAs known supply → (status : ℕ)
    (warnings : List ℕ) → AreWarningsBy form supply status warnings
    → AreWarningsBy form known status warnings
warned_known Lines known supply h status warnings (inl (bytes, holds, warns)) =
    inl (bytes, holds_known known supply bytes h holds, warns)
warned_known Lines known supply h status warnings (inr none) = inr none
warned_known Json known supply h status warnings none = none

way_held : (way : Way) (n o : Bor (List ℕ)) (known supply input : Supply)
    → IsSuppliedAs known supply → (answer : Answer) → IsRunBy way n o supply input answer
    → IsRunBy way n o known input answer
way_held (TraceJson v) n o known supply input h answer (bytes, holds, right) =
    (bytes, holds_known known supply bytes h holds, right)
way_held (Trace v) n o known supply input h answer (bytes, holds, right) =
    (bytes, holds_known known supply bytes h holds, right)
way_held (Tell v d Auto) n o known supply input h answer (bytes, holds, right) =
    (bytes, holds_known known supply bytes h holds, right)
way_held (Tell v d Never) n o known supply input h answer (bytes, holds, right) =
    (bytes, holds_known known supply bytes h holds, right)
way_held (Tell v d Always) n o known supply input h answer (plain, (bytes, holds, right), is) =
    (plain, (bytes, holds_known known supply bytes h holds, right), is)
way_held (TellJson v s) n o known supply input h answer (bytes, holds, right) =
    (bytes, holds_known known supply bytes h holds, right)
way_held (Draw v f) n o known supply input h answer (bytes, holds, right) =
    (bytes, holds_known known supply bytes h holds, right)
way_held (Schedule v) n o known supply input h answer (bytes, holds, right) =
    (bytes, holds_known known supply bytes h holds, right)

pub way_known : (way : Way) (n o : Bor (List ℕ)) (known supply input other : Supply)
    → IsSuppliedAs known supply → other ≡ input → (answer : Answer)
    → IsRunBy way n o supply other answer → IsRunBy way n o known input answer
way_known way n o known supply input other h e answer right =
    let P : Supply → Type 0 = λ s. IsRunBy way n o known s answer in
    subst P e (way_held way n o known supply other h answer right)

pub run_known : {A : Type 0} (v : Verification) (known supply : Supply)
    → IsSuppliedAs known supply → A ⊎ HoldsRun v supply → (A → ⊥) → HoldsRun v known
run_known v known supply h (inl a) never = absurd (never a)
run_known v known supply h (inr (bytes, holds, right)) never =
    (bytes, holds_known known supply bytes h holds, right)

-- how many files are opened to be read, where the second one is opened for a run alone
pub opens_for_run : {A B : Type 0} (v : Verification) (known supply : Supply)
    → IsSuppliedAs known supply → A ⊎ HoldsRun v supply → (file : Option B) → (A → file ≡ None)
    → (old new : ℕ) → new ≡ old + 1 + count_of file
    → (count : ℕ) × OpensToTrace v known count × (new ≡ old + count)
opens_for_run v known supply h run None never old new are = (1, inl refl, omega (arith, are))
opens_for_run {A} v known supply h run (Some file) never old new are =
    let none : A → ⊥ = λ same. let gone : Some file ≡ None = never same in cc in
    (2, inr (refl, run_known v known supply h run none), omega (arith, are))

-- a file that wasn't opened yet has what its name is known to have
pub unopened : {A N M : Type 0} (f : A → Supply) (k : N → M → Supply) (a c : N) (b d : M)
    (file : Option A) → a ≡ c → b ≡ d → file ≡ None → supply_of f (k a b) file ≡ k c d
unopened f k a c b d file p q r =
    ap (supply_of f (k a b)) r ∙ ap (λ x. k x b) p ∙ ap (k c) q

-- a text for the user isn't empty
told_something : (text : List ℕ) → text_told text ≢ []
told_something [] e = cc
told_something (byte ∷ text) e = cc

-- a text is told, and nothing else is done
pub told_at_once : (R : Answer → Type 0) (o k w : ℕ) (b : Option (List ℕ)) (Tells : List ℕ → Type 0)
    (status : ℕ) (text : List ℕ) → R (record { status = 2; output = []; told = text })
    → status ≡ 2 → Tells text → Counted (EndsAtOnce R) o o k k w w b b Tells status
told_at_once R o k w b Tells status text right is tells =
    record {
      opened = 0;
      reads = 0;
      writes = 0;
      told = text;
      opened_are = omega arith;
      reads_are = omega arith;
      writes_are = omega arith;
      tells = tells;
      ends = (
        refl,
        refl,
        refl,
        Rightly _ right refl refl is refl (Appends-nil b),
      );
    }

pub memory_at_once : (R : Answer → Type 0) (o k w : ℕ) (b : Option (List ℕ))
    (Tells : List ℕ → Type 0) (status : ℕ) → status ≡ job_fault_status Memory
    → Tells (job_fault_told Memory) → Counted (EndsAtOnce R) o o k k w w b b Tells status
memory_at_once R o k w b Tells status is tells =
    record {
      opened = 0;
      reads = 0;
      writes = 0;
      told = job_fault_told Memory;
      opened_are = omega arith;
      reads_are = omega arith;
      writes_are = omega arith;
      tells = tells;
      ends = (refl, refl, refl, OutOfMemory refl refl is refl (Keeps-refl b));
    }

-- words are refused
pub refused_words : (words : List Text) (fault : JobFault) (o k w : ℕ) (b : Option (List ℕ))
    (Tells : List ℕ → Type 0) (status : ℕ)
    → (takes program words ≡ true → (job : Job) → Names (subcommand_of program words) job
    → fault ≡ Memory)
    → status ≡ job_fault_status fault → Tells (job_fault_told fault)
    → Counted (EndsAtOnce (IsUsage words)) o o k k w w b b Tells status
refused_words words (Usage text) o k w b Tells status refused is tells =
    told_at_once (IsUsage words) o k w b Tells status (text_told (string_bytes text))
    (record {
      none = λ taken job names. let e : Usage text ≡ Memory = refused taken job names in cc;
      status = refl;
      output = refl;
      told = told_something (string_bytes text);
    })
    is tells
refused_words words Memory o k w b Tells status refused is tells =
    memory_at_once (IsUsage words) o k w b Tells status is tells

-- then the program doesn't succeed
pub refused_status : (fault : JobFault) → job_fault_status fault ≢ 0
refused_status (Usage text) e = cc
refused_status Memory e = cc
