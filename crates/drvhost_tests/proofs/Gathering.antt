-- What is answered for scenarios, one after another, and for a set's.
use Rattle.std.proofs.Common.{◌≡◌, ◌∙◌, ◌+◌, ◌≤◌, ◌++◌, ◌⊎◌, ℕ, Bool, true, false, List, [], ◌∷◌, Option, Some, None, Result, Ok, Err, String, ap, arith, codes, inl, inr, length, refl, string_bytes, subst, sym}
use Rattle.std.specs.Prelude.{◌≢◌, IfOk}
use Rattle.std.specs.Global.{Global}
use Rattle.std.specs.List.{All, AllZip, list_any, sum_by}
use Rattle.std.proofs.lemmas.Bool.{or_cases}
use Rattle.std.proofs.lemmas.List.Elements.{All-head, All-tail}
use Rattle.verifier.proofs.FirstRules.{neither}
use Rattle.std.proofs.lemmas.List.Sums.{sum_by-cons}
use Rattle.asm.specs.declared.fault.AsmFault.{AsmFault}
use Rattle.image.specs.declared.fault.ImageFault.{ImageFault}
use Rattle.interleave.specs.declared.schedule.ScheduleFault.{ScheduleFault}
use Rattle.model.specs.declared.abs.Refusal.{Refusal}
use Rattle.model.specs.declared.abs.Rule.{Rule}
use Rattle.model.specs.Set.{Set}
use Rattle.model.specs.Typable.{IsFirstFault, IsTypable, at_start}
use Rattle.report.specs.Fault.{image_fault_line, schedule_fault_line, text_fault_line}
use Rattle.scenario_text.specs.Listing.{Listed}
use Rattle.scenario_steps.specs.declared.scenario.Step.{Step}
use Rattle.drvhost_devices.specs.Answer.{Answer, FileSays, ended, faulty}
use Rattle.drvhost_devices.specs.declared.fault.End.{End}
use Rattle.drvhost_devices.specs.declared.fault.End.TheVariants.{Complete, Stopped}
use Rattle.drvhost_devices.specs.declared.fault.Fault.{Fault}
use Rattle.drvhost_devices.specs.declared.fault.Fault.TheVariants.{Read, Write, Memory, Text, Image, Schedule as OfSchedule, Script as OfScript}
use Rattle.drvhost_devices.specs.declared.verification.Verification.TheVariants.{Required}
use Rattle.drvhost_devices.specs.Fault.{ReadsSet, failed_reads}
use Rattle.drvhost_devices.specs.Device.{Bytes, Closed, Holds, IsSuppliedAs, Says, Supply, Unknown}
use Rattle.drvhost_devices.specs.Ends.{Answers, Ends, OutOfMemory}
use Rattle.drvhost_devices.proofs.Writing.{keeps_same}
use Rattle.drvhost_files.specs.declared.reading.Contents.{Contents}
use Rattle.drvhost_files.specs.declared.reading.Contents.TheVariants.{Whole, Unread, Unopened, Lacking}
use Rattle.drvhost_files.specs.declared.reading.Held.{Held}
use Rattle.drvhost_files.specs.Reading.{AreHeld, IsHeld, IsReadOf, Opens, held_reads, reads_of}
use Rattle.drvhost_many.specs.All.{Counted}
use Rattle.drvhost_many.proofs.Judged.{ends_rightly}
use Rattle.answer_scenarios.specs.Scenarios.{IsOfScenario, IsOutcome, IsTested, names_in}
use Rattle.drvhost_tests.specs.Test.{Test}
use Rattle.drvhost_tests.specs.Tests.{AreAllTold, AreEntries, AreJudgedBy, AreOthers, AreTested, AreTestsOf, AreTold, AreToldBy, AreToldIf, Asked, Gathers, IsContentsTold, IsFaultOf, IsHeldTold, IsKept, IsKeptSo, IsOther, IsScenarioTold, IsTestHeld, IsTestOf, IsVerdictsIn, OneHasVerdicts, Tested, is_contents_of_verdict, is_held_of_verdict, marked}

-- what is told of a scenario that was read is told of its file
contents_tested : (asked : Asked) (tested : Tested) (name : List ℕ) (supply : Supply)
    (contents : Contents) (answer : Answer) → IsReadOf false supply contents
    → IsContentsTold asked tested name contents answer
    → IsTestOf asked.verbosity tested name supply (reads_of contents) answer
contents_tested asked tested name supply (Whole text) answer holds told =
    inl (refl, (text.items, holds, told))
contents_tested asked tested name supply Unread answer h is = inr (refl, is)
contents_tested asked tested name supply Unopened answer (closed, never) is = cc
contents_tested asked tested name supply Lacking answer h told = absurd told

held_tested : (asked : Asked) (tested : Tested) (supply : List ℕ → Supply) (name : String Global)
    (held : Held) (answer : Answer) → IsHeld false supply name held
    → IsHeldTold asked tested held answer
    → IsTestOf asked.verbosity tested (string_bytes name) (supply (string_bytes name))
    (held_reads held) answer
held_tested asked tested supply name held answer h told =
    contents_tested asked tested (string_bytes name) (supply (string_bytes name)) held.contents
    answer h.read
    (subst (λ (n : List ℕ). IsContentsTold asked tested n held.contents answer) h.name_is told)

-- for several
all_tested : (asked : Asked) (tested : Tested) (supply : List ℕ → Supply)
    (names : List (String Global)) (files : List Held) (tests : List Test)
    → AllZip (IsHeld false supply) names files → AllZip (IsTestHeld asked tested) files tests
    → AreTestsOf asked tested supply names (sum_by held_reads files) tests
all_tested asked tested supply [] [] [] h is = refl
all_tested asked tested supply [] [] (test ∷ tests) h is = absurd is
all_tested asked tested supply [] (file ∷ files) tests h is = absurd h
all_tested asked tested supply (name ∷ names) [] tests h is = absurd h
all_tested asked tested supply (name ∷ names) (file ∷ files) [] h is = absurd is
all_tested asked tested supply (name ∷ names) (file ∷ files) (test ∷ tests) (here, h) ((named, told), more) = (
  held_reads file,
  sum_by held_reads files,
  named ∙ here.name_is,
  held_tested asked tested supply name file test.answer here told,
  all_tested asked tested supply names files tests h more,
  sum_by-cons held_reads file files,
)

-- a scenario that was read expects nothing but a verdict, or more
verdicts_read : (bytes : List ℕ) (supply : Supply) (contents : Contents)
    → IsReadOf false supply contents → is_contents_of_verdict (names_in bytes) contents ≡ true
    → IsVerdictsIn bytes supply
verdicts_read bytes supply (Whole text) holds is_so = (text.items, holds, is_so)
verdicts_read bytes supply Unread h is_so = let isnt : ⊥ = cc in absurd isnt
verdicts_read bytes supply Unopened h is_so = let isnt : ⊥ = cc in absurd isnt
verdicts_read bytes supply Lacking h is_so = let isnt : ⊥ = cc in absurd isnt

one_has : (bytes : List ℕ) (supply : List ℕ → Supply) (names : List (String Global))
    (files : List Held) → AllZip (IsHeld false supply) names files
    → list_any (is_held_of_verdict (names_in bytes)) files ≡ true
    → OneHasVerdicts bytes supply names
one_has bytes supply [] [] h is_so = let isnt : ⊥ = cc in absurd isnt
one_has bytes supply [] (file ∷ files) h is_so = absurd h
one_has bytes supply (name ∷ names) [] h is_so = absurd h
one_has bytes supply (name ∷ names) (file ∷ files) (here, h) is_so =
    let all = names_in bytes in
    elim (or_cases (is_held_of_verdict all file) (list_any (is_held_of_verdict all) files) is_so) [
      | inl this ↦ inl (verdicts_read bytes (supply (string_bytes name)) file.contents here.read this)
      | inr other ↦ inr (one_has bytes supply names files h other)
    ]

other_read : (bytes : List ℕ) (supply : Supply) (contents : Contents)
    → IsReadOf false supply contents → IsKeptSo contents
    → is_contents_of_verdict (names_in bytes) contents ≡ false
    → IsOther bytes supply (reads_of contents)
other_read bytes supply (Whole text) holds kept isnt = inl (refl, (text.items, holds, isnt))
other_read bytes supply Unread h kept isnt = inr refl
other_read bytes supply Unopened (closed, never) kept isnt = cc
other_read bytes supply Lacking h kept isnt = absurd kept

none_has : (bytes : List ℕ) (supply : List ℕ → Supply) (names : List (String Global))
    (files : List Held) → AllZip (IsHeld false supply) names files → All IsKept files
    → list_any (is_held_of_verdict (names_in bytes)) files ≡ false
    → AreOthers bytes supply names (sum_by held_reads files)
none_has bytes supply [] [] h kept isnt = refl
none_has bytes supply [] (file ∷ files) h kept isnt = absurd h
none_has bytes supply (name ∷ names) [] h kept isnt = absurd h
none_has bytes supply (name ∷ names) (file ∷ files) (here, h) kept isnt =
    let all = names_in bytes in
    let both = neither (is_held_of_verdict all file) (list_any (is_held_of_verdict all) files) isnt in (
      held_reads file,
      sum_by held_reads files,
      other_read bytes (supply (string_bytes name)) file.contents here.read
          (All-head IsKept file files kept) both.0,
      none_has bytes supply names files h (All-tail IsKept file files kept) both.1,
      sum_by-cons held_reads file files,
    )

-- what is told of the scenarios that were read is told of their files
entries_told : (asked : Asked) (tested : Tested) (supply : List ℕ → Supply)
    (names : List (String Global)) (files : List Held) (answer : Answer)
    → AllZip (IsHeld false supply) names files → AreEntries asked tested files answer
    → AreAllTold asked names supply tested (sum_by held_reads files) answer
entries_told asked tested supply names files answer h (tests, so, is) =
    (tests, all_tested asked tested supply names files tests h so, is)

told_if : (asked : Asked) (tested : Tested) (supply : List ℕ → Supply)
    (names : List (String Global)) (files : List Held) (refusal : Refusal) (answer : Answer)
    (any : Bool) → list_any (is_held_of_verdict (names_in tested.bytes)) files ≡ any
    → AllZip (IsHeld false supply) names files
    → AreToldIf any asked tested files refusal answer
    → AreTold (Some refusal) asked names supply tested (sum_by held_reads files) answer
told_if asked tested supply names files refusal answer true is_so h told =
    inl (
      one_has tested.bytes supply names files h is_so,
      entries_told asked tested supply names files answer h told,
    )
told_if asked tested supply names files refusal answer false isnt h (kept, is) =
    inr (none_has tested.bytes supply names files h kept isnt, is)

told_by : (refusal : Option Refusal) (asked : Asked) (tested : Tested)
    (supply : List ℕ → Supply) (names : List (String Global)) (files : List Held)
    (answer : Answer) → AllZip (IsHeld false supply) names files
    → AreToldBy refusal asked tested files answer
    → AreTold refusal asked names supply tested (sum_by held_reads files) answer
told_by None asked tested supply names files answer h told =
    entries_told asked tested supply names files answer h told
told_by (Some refusal) asked tested supply names files answer h told =
    told_if asked tested supply names files refusal answer
    (list_any (is_held_of_verdict (names_in tested.bytes)) files) refl h told

-- a scenario that plays is not faulty
plays_on : (name line : List ℕ) (failed : Option Step) → IsOutcome name failed (faulty line) → ⊥
plays_on name line None e =
    let no : 2 ≡ 0 = ap (λ (a : Answer). a.status) e in omega (arith, no)
plays_on name line (Some step) (words, e) =
    let no : 2 ≡ 1 = ap (λ (a : Answer). a.status) e in omega (arith, no)

-- what is told of a faulty one, by its line and words behind it
pub scenario_faulty : (name : List ℕ) (set : Set) (said : Result Listed ScheduleFault)
    (line words : List ℕ) (told : Answer) → told ≡ faulty (marked name (line ++ words))
    → IsOfScenario (IsTested name) set said (faulty line) → IsScenarioTold name set said told
scenario_faulty name set (Ok scenario) line words told is (play, so, h) =
    absurd (plays_on name line play.failed h)
scenario_faulty name set (Err fault) line words told is h =
    let same : line ≡ schedule_fault_line fault = ap (λ (a : Answer). a.told) h in (
      words,
      is ∙ ap (λ (l : List ℕ). faulty (marked name (l ++ words))) same,
    )

-- what comes to an end is not faulty
ends_well : (end : End) (out line : List ℕ) → ended end out ≡ faulty line → ⊥
ends_well Complete out line e =
    let no : 0 ≡ 2 = ap (λ (a : Answer). a.status) e in omega (arith, no)
ends_well Stopped out line e =
    let no : 1 ≡ 2 = ap (λ (a : Answer). a.status) e in omega (arith, no)

-- what is told of one that plays
pub scenario_plays : (name : List ℕ) (set : Set) (said : Result Listed ScheduleFault) (end : End)
    (out : List ℕ) (told : Answer) → told ≡ ended end out
    → IsOfScenario (IsTested name) set said (ended end out) → IsScenarioTold name set said told
scenario_plays name set (Ok scenario) end out told is h =
    subst (λ (a : Answer). IsTested name set scenario a) (sym is) h
scenario_plays name set (Err fault) end out told is h =
    absurd (ends_well end out (schedule_fault_line fault) h)

-- what a file gives may be what is known of it
pub held_as : (known supply : Supply) (bytes : List ℕ) → IsSuppliedAs known supply
    → Holds supply bytes → Holds known bytes
held_as Unknown supply bytes is holds = tt
held_as Closed supply bytes is holds = subst (λ (s : Supply). Holds s bytes) is holds
held_as (Bytes held) supply bytes is holds = subst (λ (s : Supply). Holds s bytes) is holds

-- what holds of an answer that there is
pub ok_on : {A E : Type 0} {P Q : A → Type 0} (result : Result A E) → ((a : A) → P a → Q a)
    → IfOk result P → IfOk result Q
ok_on (Ok a) on h = on a h
ok_on (Err e) on h = h

-- where more is right
pub gathers_rightly : {E : Type 0} (R Q : ℕ → ℕ → Answer → Type 0) (o p r s : ℕ)
    (result : Result Answer E) → ((n k : ℕ) (a : Answer) → R n k a → Q n k a)
    → Gathers R o p r s result → Gathers Q o p r s result
gathers_rightly R Q o p r s result on h =
    record {
      opened = h.opened;
      reads = h.reads;
      opened_are = h.opened_are;
      reads_are = h.reads_are;
      few = h.few;
      right = ok_on result (on h.opened h.reads) h.right;
    }

-- where no file is opened
pub gathers_none : {E : Type 0} (P : Answer → Type 0) (Q : ℕ → ℕ → Answer → Type 0) (o r : ℕ)
    (result : Result Answer E) → ((a : Answer) → P a → Q 0 0 a) → IfOk result P
    → Gathers Q o o r r result
gathers_none P Q o r result on h =
    record {
      opened = 0;
      reads = 0;
      opened_are = omega arith;
      reads_are = omega arith;
      few = omega arith;
      right = ok_on result on h;
    }

-- memory ran out before one was
pub gathers_nothing : {E : Type 0} (R : ℕ → ℕ → Answer → Type 0) (o r : ℕ) (e : E)
    → Gathers R o o r r (Err e)
gathers_nothing R o r e =
    record {
      opened = 0;
      reads = 0;
      opened_are = omega arith;
      reads_are = omega arith;
      few = omega arith;
      right = tt;
    }

-- where one is, and then others
pub gathers_more : {E : Type 0} (R Q : ℕ → ℕ → Answer → Type 0) (o m p r k s : ℕ)
    (result : Result Answer E) → m ≡ o + 1 → k ≡ r
    → ((n j : ℕ) (a : Answer) → R n j a → Q (1 + n) j a) → Gathers R m p k s result
    → Gathers Q o p r s result
gathers_more R Q o m p r k s result one none on h =
    record {
      opened = 1 + h.opened;
      reads = h.reads;
      opened_are = omega (arith, one, h.opened_are);
      reads_are = omega (arith, none, h.reads_are);
      few = omega (arith, h.few);
      right = ok_on result (on h.opened h.reads) h.right;
    }

-- memory runs out behind files that were read
pub gathers_lost : {E : Type 0} (R : ℕ → ℕ → Answer → Type 0) (most o p r s : ℕ)
    (So : ℕ → ℕ → Type 0) (e : E) → Opens most o p r s So → Gathers R o p r s (Err e)
gathers_lost R most o p r s So e read =
    record {
      opened = read.opened;
      reads = read.reads;
      opened_are = read.opened_are;
      reads_are = read.reads_are;
      few = read.few;
      right = tt;
    }

-- all are read, and what is told of them is
pub all_told : {E : Type 0} (asked : Asked) (names : List (String Global))
    (supply : List ℕ → Supply) (tested : Tested) (held : List Held) (o p r s : ℕ)
    (result : Result Answer E)
    → Opens (length names) o p r s (λ opened reads. AreHeld false supply names opened reads held)
    → IfOk result (AreToldBy tested.refusal asked tested held)
    → Gathers (AreTested asked names supply tested) o p r s result
all_told asked names supply tested held o p r s result read ok =
    record {
      opened = read.opened;
      reads = read.reads;
      opened_are = read.opened_are;
      reads_are = read.reads_are;
      few = read.few;
      right =
          ok_on result (λ whole told. (
            read.so.opened_are,
            subst (λ (k : ℕ). AreTold tested.refusal asked names supply tested k whole)
                (sym read.so.reads_are)
                (told_by tested.refusal asked tested supply names held whole read.so.are told),
          )) ok;
    }

-- where one is, which can't be read
failed_few : (fault : Fault) → failed_reads fault ≤ 1
failed_few Read = omega arith
failed_few Write = omega arith
failed_few Memory = omega arith
failed_few (Text fault) = omega arith
failed_few (Image fault) = omega arith
failed_few (OfSchedule fault) = omega arith
failed_few (OfScript fault) = omega arith

pub gathers_unread : {E : Type 0} (P : Answer → Type 0) (Q : ℕ → ℕ → Answer → Type 0)
    (o m r k : ℕ) (fault : Fault) (result : Result Answer E) → m ≡ o + 1
    → k ≡ r + failed_reads fault → ((a : Answer) → P a → Q 1 1 a)
    → IfOk result (λ told. (fault ≡ Read) × P told) → Gathers Q o m r k result
gathers_unread P Q o m r k fault result one read on h =
    record {
      opened = 1;
      reads = failed_reads fault;
      opened_are = one;
      reads_are = read;
      few = failed_few fault;
      right =
          ok_on result
          (λ a told. subst (λ (j : ℕ). Q 1 j a) (sym (ap failed_reads told.0)) (on a told.1)) h;
    }

-- the file of a set is faulty
pub text_faulty : (name bytes : List ℕ) (fault : AsmFault)
    → ReadsSet (Bytes bytes) (Err (Text fault))
    → IsFaultOf name bytes (faulty (marked name (text_fault_line fault)))
text_faulty name bytes fault (other, same, says) =
    let line = text_fault_line fault in
    (line, subst (λ (b : List ℕ). FileSays b (Err line)) same says, refl)

pub image_faulty : (name bytes : List ℕ) (fault : ImageFault)
    → ReadsSet (Bytes bytes) (Err (Image fault))
    → IsFaultOf name bytes (faulty (marked name (image_fault_line fault)))
image_faulty name bytes fault (other, same, says) =
    let line = image_fault_line fault in
    (line, subst (λ (b : List ℕ). FileSays b (Err line)) same says, refl)

-- or the set is there
pub set_named : (bytes : List ℕ) (set : Set) → ReadsSet (Bytes bytes) (Ok set)
    → FileSays bytes (Ok set)
set_named bytes set (other, same, says) = subst (λ (b : List ℕ). FileSays b (Ok set)) same says

-- a set is refused
pub refused_tested : (asked : Asked) (names : List (String Global)) (supply : List ℕ → Supply)
    (bytes : List ℕ) (set : Set) (refusal : Refusal) (opened reads : ℕ) (answer : Answer)
    → (refusal ≡ at_start Rule.Memory) ⊎ IsFirstFault set refusal → refusal.rule ≢ Rule.Memory
    → AreTested asked names supply
    (record { bytes = bytes; set = set; refusal = Some refusal }) opened reads answer
    → AreJudgedBy Required asked names supply bytes set opened reads answer
refused_tested asked names supply bytes set refusal opened reads answer (inl e) some right =
    absurd (some (ap (λ (r : Refusal). r.rule) e))
refused_tested asked names supply bytes set refusal opened reads answer (inr first) some right =
    inr (refusal, first, right)

-- all is gathered, and the answer goes out
pub tests_end : {E : Type 0} (R : ℕ → ℕ → Answer → Type 0) (o p r s w x : ℕ)
    (b n : Option (List ℕ)) (Tells : List ℕ → Type 0) (exit : ℕ) (whole : Answer)
    → Gathers {E = E} R o p r s (Ok whole) → Answers (λ answer. answer ≡ whole) 0 0 w x b n Tells exit
    → Counted (λ opened reads writes before after status told.
    Ends (R opened reads) 0 writes before after status told) o p r s w x b n Tells exit
tests_end R o p r s w x b n Tells exit whole all told =
    let none : told.reads ≡ 0 = omega (arith, told.reads_are) in
    let Right = R all.opened all.reads in
    let ends : Ends Right told.reads told.writes b n exit told.told =
    ends_rightly (λ answer. answer ≡ whole) Right told.reads told.writes b n exit told.told
    (λ answer same. subst Right (sym same) all.right) told.ends in
    record {
      opened = all.opened;
      reads = all.reads;
      writes = told.writes;
      told = told.told;
      opened_are = all.opened_are;
      reads_are = all.reads_are;
      writes_are = told.writes_are;
      tells = told.tells;
      ends = subst (λ (k : ℕ). Ends Right k told.writes b n exit told.told) none ends;
    }

-- or memory runs out before
pub tests_unmade : {E : Type 0} (R : ℕ → ℕ → Answer → Type 0) (o p r s w e f : ℕ)
    (b t u : Option (List ℕ)) (exit : ℕ) (result : Result Answer E) → Gathers R o p r s result
    → exit ≡ 3 → Says e f t u (codes "out of memory\n")
    → Counted (λ opened reads writes before after status told.
    Ends (R opened reads) 0 writes before after status told) o p r s w w b b (Says e f t u) exit
tests_unmade R o p r s w e f b t u exit result all is says =
    record {
      opened = all.opened;
      reads = all.reads;
      writes = 0;
      told = codes "out of memory\n";
      opened_are = all.opened_are;
      reads_are = all.reads_are;
      writes_are = omega arith;
      tells = says;
      ends = OutOfMemory refl refl is refl (keeps_same b);
    }

-- or accepted
pub accepted_tested : (asked : Asked) (names : List (String Global)) (supply : List ℕ → Supply)
    (bytes : List ℕ) (set accepted : Set) (opened reads : ℕ) (answer : Answer) → accepted ≡ set
    → IsTypable set
    → AreTested asked names supply
    (record { bytes = bytes; set = accepted; refusal = None }) opened reads answer
    → AreJudgedBy Required asked names supply bytes set opened reads answer
accepted_tested asked names supply bytes set accepted opened reads answer same typable right =
    inl (
      typable,
      subst (λ (s : Set). AreTested asked names supply
          (record { bytes = bytes; set = s; refusal = None }) opened reads answer) same right,
    )
