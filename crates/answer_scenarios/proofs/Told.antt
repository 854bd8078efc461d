-- How what is told of a scenario goes out.
use Rattle.std.proofs.Common.{◌≡◌, ◌∙◌, ℕ, List, [], ◌⊎◌, inl, inr, Option, Result, Ok, Err, refl, sym, ap, subst, IfOk, IfErr, option_map}
use Rattle.std.specs.Prelude.{◌≢◌}
use Rattle.std.proofs.lemmas.List.{append-nil}
use Rattle.std.specs.Io.KnownBytes.{Appends}
use Rattle.interleave.specs.declared.schedule.ScheduleFault.{ScheduleFault}
use Rattle.interleave.specs.declared.schedule.ScheduleKind.{ScheduleKind}
use Rattle.interleave.specs.declared.schedule.ScheduleKind.TheVariants as kinds
use Rattle.interleave_texts.specs.Listed.{IsUnlisted}
use Rattle.model.specs.declared.abs.Refusal.{Refusal}
use Rattle.model.specs.declared.abs.Rule.{Rule}
use Rattle.model.specs.declared.event.Event.{Event}
use Rattle.model.specs.Set.{Set}
use Rattle.model.specs.Typable.{IsFirstFault, IsTypable, at_start}
use Rattle.report.specs.Fault.{image_fault_line, schedule_fault_line, text_fault_line}
use Rattle.report.specs.Verdict.{refusal_line}
use Rattle.scenario_run.specs.Acting.{Played}
use Rattle.scenario_together.specs.declared.play.Failure.{Failure}
use Rattle.scenario_run.specs.Playing.{Playing, begun}
use Rattle.scenario_steps.specs.declared.scenario.Step.{Step}
use Rattle.scenario_text.specs.Listing.{Listed, IsFaultOf, scenario_in}
use Rattle.drvhost_devices.specs.declared.fault.End.{End}
use Rattle.drvhost_devices.specs.declared.fault.End.TheVariants.{Stopped}
use Rattle.drvhost_devices.specs.declared.fault.Fault.{Fault}
use Rattle.drvhost_devices.specs.declared.fault.Fault.TheVariants.{Read, Write, Memory, Text, Image, Schedule as OfSchedule, Script as OfScript}
use Rattle.drvhost_devices.specs.declared.verification.Verification.{Verification}
use Rattle.drvhost_devices.specs.Answer.{Answer, FileSays, IsIfAccepted, IsOfFile, IsToRun, ended, faulty}
use Rattle.drvhost_devices.specs.Device.{Bytes, Holds, Supply, TakesBeginning}
use Rattle.drvhost_devices.specs.Ends.{HoldsRun}
use Rattle.drvhost_devices.specs.Fault.{Goes, ReadsSet, schedule_fault, schedule_fault_of}
use Rattle.drvhost_devices.proofs.Writing.{keeps_same}
use Rattle.answer_scenarios.specs.declared.telling.Asked.{Asked}
use Rattle.answer_scenarios.specs.declared.telling.Told.{Told}
use Rattle.answer_scenarios.specs.Scenarios.{IsOfScenario, IsPlayedOf, IsScheduleTold, PlaysJudged, PlaysSo, names_in, right_of, right_of_play, unlisted_line}
use Rattle.answer_scenarios.specs.Telling.{Tells}

-- the text is written, or a beginning of it, or there is none
pub told_written : (R : Answer → Type 0) (b n : Option (List ℕ)) (told : Told)
    → Tells R (Ok told) → Appends b n told.text.items → Goes R b n [] [] (Ok told.end)
told_written R b n told h p = (
  told.text.items,
  h,
  record {
    written = told.text.items;
    appended = p;
    whole = sym (append-nil told.text.items);
  },
)

pub told_broken : (R : Answer → Type 0) (b n : Option (List ℕ)) (told : Told)
    → Tells R (Ok told) → TakesBeginning b n told.text.items → Goes R b n [] [] (Err Write)
told_broken R b n told h p = (ended told.end told.text.items, h, p)

pub untold : (R : Answer → Type 0) (b : Option (List ℕ)) (fault : Fault)
    → Tells R (Err fault) → Goes R b b [] [] (Err fault)
untold R b (Text fault) h = (h, keeps_same b)
untold R b (Image fault) h = (h, keeps_same b)
untold R b (OfSchedule fault) h = (h, keeps_same b)
untold R b Read h = keeps_same b
untold R b Memory h = keeps_same b
untold R b Write h = absurd h
untold R b (OfScript fault) h = absurd h

pub unread : (R : Answer → Type 0) (b : Option (List ℕ)) (fault : Fault)
    → (fault ≡ Read) ⊎ (fault ≡ Memory) → Goes R b b [] [] (Err fault)
unread R b fault (inl e) =
    subst (λ (f : Fault). Goes R b b [] [] (Err f)) (sym e) (keeps_same b)
unread R b fault (inr e) =
    subst (λ (f : Fault). Goes R b b [] [] (Err f)) (sym e) (keeps_same b)

-- where more answers are right
pub tells_rightly : (R Q : Answer → Type 0) (result : Result Told Fault)
    → ((answer : Answer) → R answer → Q answer) → Tells R result → Tells Q result
tells_rightly R Q (Ok told) on h = on (ended told.end told.text.items) h
tells_rightly R Q (Err (Text fault)) on h = on (faulty (text_fault_line fault)) h
tells_rightly R Q (Err (Image fault)) on h = on (faulty (image_fault_line fault)) h
tells_rightly R Q (Err (OfSchedule fault)) on h = on (faulty (schedule_fault_line fault)) h
tells_rightly R Q (Err Read) on h = h
tells_rightly R Q (Err Memory) on h = h
tells_rightly R Q (Err Write) on h = h
tells_rightly R Q (Err (OfScript fault)) on h = h

-- the set of a file was read, or not
pub file_read : (Right : Set → Answer → Type 0) (bytes : List ℕ) (set : Set)
    (result : Result Told Fault) → ReadsSet (Bytes bytes) (Ok set) → Tells (Right set) result
    → Tells (IsOfFile Right bytes) result
file_read Right bytes set result (other, same, says) h =
    let here : FileSays bytes (Ok set) =
    subst (λ (b : List ℕ). FileSays b (Ok set)) same says in
    tells_rightly (Right set) (IsOfFile Right bytes) result
    (λ answer right. (Ok set, here, right)) h

pub file_unread : (Right : Set → Answer → Type 0) (bytes : List ℕ) (fault : Fault)
    → ReadsSet (Bytes bytes) (Err fault) → Tells (IsOfFile Right bytes) (Err fault)
file_unread Right bytes (Text fault) (other, same, says) =
    let line = text_fault_line fault in
    (Err line, subst (λ (b : List ℕ). FileSays b (Err line)) same says, refl)
file_unread Right bytes (Image fault) (other, same, says) =
    let line = image_fault_line fault in
    (Err line, subst (λ (b : List ℕ). FileSays b (Err line)) same says, refl)
file_unread Right bytes Read h = tt
file_unread Right bytes Memory h = tt
file_unread Right bytes Write h = absurd h
file_unread Right bytes (OfSchedule fault) h = absurd h
file_unread Right bytes (OfScript fault) h = absurd h

-- a run of the set of a file
pub file_run : (verification : Verification) (bytes : List ℕ) (set : Set)
    → ReadsSet (Bytes bytes) (Ok set) → IsToRun verification set
    → HoldsRun verification (Bytes bytes)
file_run verification bytes set (other, same, says) run = (other, same, (set, says, run))

-- what a file has, the source has that it was read of
pub source_run : (verification : Verification) (held : Supply) (bytes : List ℕ)
    → Holds held bytes → HoldsRun verification (Bytes bytes) → HoldsRun verification held
source_run verification held bytes holds (other, same, (set, says, run)) =
    (bytes, holds, (set, subst (λ (b : List ℕ). FileSays b (Ok set)) same says, run))

-- so a source stays unread, or such a run is held by what the bytes were read of
pub unread_held : {S : Type 0} {new old : S} (verification : Verification) (held : Supply)
    (bytes : List ℕ) → Holds held bytes → (new ≡ old) ⊎ HoldsRun verification (Bytes bytes)
    → (new ≡ old) ⊎ HoldsRun verification held
unread_held verification held bytes holds (inl same) = inl same
unread_held verification held bytes holds (inr run) = inr (source_run verification held bytes holds run)

-- a set is accepted, or refused
pub tells_accepted : (Right : Set → Answer → Type 0) (set accepted : Set)
    (result : Result Told Fault) → accepted ≡ set → IsTypable set → Tells (Right accepted) result
    → Tells (IsIfAccepted Right set) result
tells_accepted Right set accepted result same typable h =
    tells_rightly (Right set) (IsIfAccepted Right set) result
    (λ answer right. inl (typable, right))
    (subst (λ (s : Set). Tells (Right s) result) same h)

pub tells_refused : (Right : Set → Answer → Type 0) (set : Set) (refusal : Refusal)
    (result : Result Told Fault) → (refusal ≡ at_start Rule.Memory) ⊎ IsFirstFault set refusal
    → IfOk result (λ told. (refusal.rule ≢ Rule.Memory) × (told.end ≡ Stopped)
    × (told.text.items ≡ refusal_line refusal))
    → IfErr result (λ fault. fault ≡ Memory) → Tells (IsIfAccepted Right set) result
tells_refused Right set refusal (Ok told) (inl e) h i =
    absurd (h.0 (ap (λ (r : Refusal). r.rule) e))
tells_refused Right set refusal (Ok told) (inr first) h i = inr (record {
  refusal = refusal;
  first = first;
  is = ap (λ (e : End). ended e told.text.items) h.1
      ∙ ap (λ (t : List ℕ). ended Stopped t) h.2;
})
tells_refused Right set refusal (Err fault) e h i =
    subst (λ (f : Fault). Tells (IsIfAccepted Right set) (Err f)) (sym i) tt

-- a text was made, or memory ran out; a source can't be read; a scenario is faulty
pub tells_made : (R : Answer → Type 0) (result : Result Told Fault)
    → IfOk result (λ told. R (ended told.end told.text.items))
    → IfErr result (λ fault. fault ≡ Memory) → Tells R result
tells_made R (Ok told) h i = h
tells_made R (Err fault) h i = subst (λ (f : Fault). Tells R (Err f)) (sym i) tt

pub tells_unread : (R : Answer → Type 0) (fault : Fault) → (fault ≡ Read) ⊎ (fault ≡ Memory)
    → Tells R (Err fault)
tells_unread R fault (inl e) = subst (λ (f : Fault). Tells R (Err f)) (sym e) tt
tells_unread R fault (inr e) = subst (λ (f : Fault). Tells R (Err f)) (sym e) tt

tells_kind : (R : Answer → Type 0) (kind : ScheduleKind) (fault : ScheduleFault)
    → (kind ≡ kinds.Memory) ⊎ R (faulty (schedule_fault_line fault))
    → Tells R (Err (schedule_fault_of kind fault))
tells_kind R kinds.Memory fault h = tt
tells_kind R kinds.Lex fault (inr right) = right
tells_kind R kinds.UnknownWord fault (inr right) = right
tells_kind R kinds.OutOfRange fault (inr right) = right
tells_kind R kinds.TooLong fault (inr right) = right
tells_kind R kinds.Lex fault (inl e) = let no : ⊥ = cc in absurd no
tells_kind R kinds.UnknownWord fault (inl e) = let no : ⊥ = cc in absurd no
tells_kind R kinds.OutOfRange fault (inl e) = let no : ⊥ = cc in absurd no
tells_kind R kinds.TooLong fault (inl e) = let no : ⊥ = cc in absurd no

pub tells_fault : (Right : Set → Listed → Answer → Type 0) (bytes given : List ℕ) (set : Set)
    (fault : ScheduleFault) → IsFaultOf (names_in bytes) given fault
    → Tells (IsOfScenario Right set (scenario_in (names_in bytes) given)) (Err (schedule_fault fault))
tells_fault Right bytes given set fault (inl e) =
    tells_kind (IsOfScenario Right set (scenario_in (names_in bytes) given)) fault.kind fault
    (inl (ap (λ (f : ScheduleFault). f.kind) e))
tells_fault Right bytes given set fault (inr e) =
    let P : Result Listed ScheduleFault → Type 0 = λ r.
    IsOfScenario Right set r (faulty (schedule_fault_line fault)) in
    tells_kind (IsOfScenario Right set (scenario_in (names_in bytes) given)) fault.kind fault
    (inr (subst P (sym e) refl))

-- a scenario was read, and what is told of it is right
pub tells_played : (Right : Set → Listed → Answer → Type 0) (bytes given : List ℕ) (set : Set)
    (scenario : Listed) (result : Result Told Fault)
    → scenario_in (names_in bytes) given ≡ Ok scenario
    → IfOk result (λ told. Right set scenario (ended told.end told.text.items))
    → IfErr result (λ fault. fault ≡ Memory)
    → Tells (IsOfScenario Right set (scenario_in (names_in bytes) given)) result
tells_played Right bytes given set scenario (Ok told) e h i =
    let P : Result Listed ScheduleFault → Type 0 = λ r.
    IsOfScenario Right set r (ended told.end told.text.items) in
    subst P (sym e) h
tells_played Right bytes given set scenario (Err fault) e h i =
    let R = IsOfScenario Right set (scenario_in (names_in bytes) given) in
    subst (λ (f : Fault). Tells R (Err f)) (sym i) tt

-- it is the scenario of a source
pub tells_held : (Right : Set → Listed → Answer → Type 0) (bytes given : List ℕ) (held : Supply)
    (set : Set) (result : Result Told Fault) → Holds held given
    → Tells (IsOfScenario Right set (scenario_in (names_in bytes) given)) result
    → Tells (IsPlayedOf Right bytes held set) result
tells_held Right bytes given held set result holds h =
    tells_rightly (IsOfScenario Right set (scenario_in (names_in bytes) given))
    (IsPlayedOf Right bytes held set) result (λ answer right. (given, holds, right)) h

-- what is told where a scenario has played so, is told of it
pub play_told : {E : Type 0} (asked : Asked) (set : Set) (scenario : Listed) (start now : Playing)
    (failure : Option Failure) (failed : Option Step) (result : Result Told E)
    → start ≡ begun set scenario.threads → PlaysJudged start scenario.steps now failure
    → failed ≡ option_map (λ (f : Failure). f.step) failure
    → IfOk result (λ told. right_of_play asked (record { now = now; failed = failed })
    (ended told.end told.text.items))
    → IfOk result (λ told. right_of asked set scenario (ended told.end told.text.items))
play_told asked set scenario start now failure failed (Err e) begins plays is h = h
play_told asked set scenario start now failure failed (Ok told) begins plays is h =
    let play : Played = record { now = now; failed = failed } in
    let so : PlaysSo set scenario play =
    record {
      failure = failure;
      plays = subst (λ (p : Playing). PlaysJudged p scenario.steps now failure) begins plays;
      step = is;
    } in
    (play, so, h)

-- that the text of what has happened is another schedule
pub told_unlisted : {E : Type 0} (p : Playing) (failed : Option Step) (threads : ℕ)
    (events : List Event) (result : Result Told E) → threads ≡ p.threads → events ≡ p.events
    → IsUnlisted (record { threads = threads; events = events })
    → IfOk result (λ told. ended told.end told.text.items ≡ ended Stopped unlisted_line)
    → IfOk result (λ told. IsScheduleTold p failed (ended told.end told.text.items))
told_unlisted p failed threads events (Ok told) same_threads same_events none h = inr (
  subst (λ (n : ℕ). IsUnlisted (record { threads = n; events = p.events })) same_threads
      (subst (λ (es : List Event). IsUnlisted (record { threads = threads; events = es }))
      same_events none),
  h,
)
told_unlisted p failed threads events (Err e) same_threads same_events none h = h
