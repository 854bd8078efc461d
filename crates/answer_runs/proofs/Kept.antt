-- The history that is written beside what is answered, and that it is right.
use Rattle.std.proofs.Common.{◌≡◌, ◌∙◌, ℕ, List, [], ◌++◌, Bool, true, false, Option, None, Some, Result, Ok, Err, inl, inr, refl, sym, ap, subst}
use Rattle.std.proofs.lemmas.List.{append-nil}
use Rattle.std.specs.Io.KnownBytes.{Appends}
use Rattle.model.specs.declared.history.Command.{Command}
use Rattle.model.specs.Set.{Set}
use Rattle.workers_script.specs.declared.hosted.Hosted.{Hosted}
use Rattle.workers_script.specs.Told.{Hosts}
use Rattle.drvhost_devices.specs.declared.fault.End.{End}
use Rattle.drvhost_devices.specs.declared.fault.End.TheVariants.{Stopped}
use Rattle.drvhost_devices.specs.declared.fault.Fault.{Fault}
use Rattle.drvhost_devices.specs.declared.fault.Fault.TheVariants.{Read, Write, Memory, Text, Image, Schedule as OfSchedule, Script as OfScript}
use Rattle.drvhost_devices.specs.Answer.{Answer, end_status}
use Rattle.drvhost_devices.specs.Device.{Adds, Supply, TakesBeginning}
use Rattle.drvhost_devices.specs.Fault.{Goes, fault_status, status_of}
use Rattle.drvhost_devices.proofs.Doing.{goes_rightly}
use Rattle.answer_runs.specs.Hosted.{IsServedBy}
use Rattle.answer_runs.specs.Hosting.{GoesTold, ended_with}
use Rattle.answer_runs.specs.Keeping.{IsHistory, IsKeptOf, IsKeptWith, IsServedWith, LeavesFor, TakesWith, Touches, WithText, listed_as, listed_end}
use Rattle.answer_runs.specs.Readiness.{IsUnserved}
use Rattle.answer_runs.specs.Served.{IsUnhosted, TellsOfRing, rings_in, served_as}
use Rattle.answer_runs.proofs.Serving.{ringed_there, served_there}

-- where more answers are right
pub with_text : (R Q : List ℕ → Answer → Type 0)
    → ((text : List ℕ) (answer : Answer) → R text answer → Q text answer)
    → (text : Option (List ℕ)) (answer : Answer) → WithText R text answer → WithText Q text answer
with_text R Q on None answer h = absurd h
with_text R Q on (Some text) answer h = on text answer h

pub touches_rightly : (Same : Type 0) (R Q : Option (List ℕ) → Answer → Type 0)
    (b n c m : Option (List ℕ)) (status : ℕ)
    → ((text : Option (List ℕ)) (answer : Answer) → R text answer → Q text answer)
    → Touches Same R b n c m status → Touches Same Q b n c m status
touches_rightly Same R Q b n c m status on (inl (same, inl two)) = inl (same, inl two)
touches_rightly Same R Q b n c m status on (inl (same, inr (inl three))) =
    inl (same, inr (inl three))
touches_rightly Same R Q b n c m status on (inl (same, inr (inr left))) =
    inl (same, inr (inr (left.0, on None left.0 left.1, left.2, left.3)))
touches_rightly Same R Q b n c m status on (inr takes) =
    inr (record {
      answer = takes.answer;
      text = takes.text;
      right = on (Some takes.text) takes.answer takes.right;
      shown = takes.shown;
      taken = takes.taken;
    })

-- a fault leaves a sink as it was
pub fault_leaves : (R : Answer → Type 0) (b n : Option (List ℕ)) (fault : Fault)
    → LeavesFor R b n (fault_status fault)
fault_leaves R b n Read = inl refl
fault_leaves R b n Write = inl refl
fault_leaves R b n Memory = inr (inl refl)
fault_leaves R b n (Text fault) = inl refl
fault_leaves R b n (Image fault) = inl refl
fault_leaves R b n (OfSchedule fault) = inl refl
fault_leaves R b n (OfScript fault) = inl refl

-- all lines went out
all_out : (b n : Option (List ℕ)) (text : List ℕ) → Adds b n [] [] text → Appends b n text
all_out b n text a =
    let all : text ≡ a.written = a.whole ∙ append-nil a.written in
    let P : List ℕ → Type 0 = Appends b n in subst P (sym all) a.appended

-- how a job ends that writes a history, and what it answers
listed_ended : (listed : Bool) (end : End) (text words : List ℕ) (A : Answer)
    → ended_with end text words ≡ A
    → ended_with (listed_end listed end) text words ≡ listed_as listed A
listed_ended true end text words A e = e
listed_ended false end text words A e =
    ap (λ (a : Answer). record a { status = end_status Stopped }) e

listed_output : (listed : Bool) (answer : Answer) → answer.output ≡ (listed_as listed answer).output
listed_output true answer = refl
listed_output false answer = refl

-- the lines couldn't be written
pub kept_failed : (listed : Bool) (A : Answer) (b n : Option (List ℕ))
    → Goes (λ (a : Answer). a ≡ A) b n [] [] (Err Write)
    → Goes (λ (a : Answer). a ≡ listed_as listed A) b n [] [] (Err Write)
kept_failed listed A b n (answer, is, begins) =
    let P : List ℕ → Type 0 = λ text. TakesBeginning b n ([] ++ text) in (
      listed_as listed answer,
      ap (listed_as listed) is,
      subst P (listed_output listed answer) begins,
    )

module _ (listed : Bool) (A : Answer) (words : List ℕ) (b n : Option (List ℕ)) (end : End)
    (h : GoesTold (λ (a : Answer). a ≡ A) words b n [] [] (Ok end)) where
  answered : ended_with (listed_end listed end) h.0 words ≡ listed_as listed A
  answered = listed_ended listed end h.0 words A h.1

  kept_shown : Appends b n (listed_as listed A).output
  kept_shown =
      let P : List ℕ → Type 0 = Appends b n in
      subst P (ap (λ (a : Answer). a.output) answered) (all_out b n h.0 h.2)

  -- they were, and then the history
  pub kept_told : (last : End) → last ≡ listed_end listed end
      → GoesTold (λ (a : Answer). a ≡ listed_as listed A) words b n [] [] (Ok last)
  kept_told last is =
      let P : End → Type 0 = λ e.
      GoesTold (λ (a : Answer). a ≡ listed_as listed A) words b n [] [] (Ok e) in
      subst P (sym is) (h.0, answered, h.2)

  pub history_told : (text : List ℕ) (last : End) (c m : Option (List ℕ))
      → last ≡ listed_end listed end → Appends c m text
      → TakesWith
      (λ other. WithText (λ t (a : Answer). (t ≡ text) × (a ≡ listed_as listed A)) (Some other))
      b n c m (end_status last)
  history_told text last c m is all =
      record {
        answer = listed_as listed A;
        text = text;
        right = (refl, refl);
        shown = kept_shown;
        taken = inl (ap end_status is ∙ ap (λ (a : Answer). a.status) answered, all);
      }

  -- or a beginning of it
  pub kept_broken : Goes (λ (a : Answer). a ≡ listed_as listed A) b n [] [] (Err Write)
  kept_broken = (
    ended_with (listed_end listed end) h.0 words,
    answered,
    record {
      part = h.0;
      rest = [];
      split = sym (append-nil h.0);
      appended = all_out b n h.0 h.2;
    },
  )

  pub history_broken : (text : List ℕ) (c m : Option (List ℕ)) → TakesBeginning c m text
      → TakesWith
      (λ other. WithText (λ t (a : Answer). (t ≡ text) × (a ≡ listed_as listed A)) (Some other))
      b n c m 2
  history_broken text c m begins =
      record {
        answer = listed_as listed A;
        text = text;
        right = (refl, refl);
        shown = kept_shown;
        taken = inr (refl, begins);
      }

-- what was hosted is right, with the text of its history
module _ (set : Set) (workers : ℕ) (commands : List Command) (hosted : Hosted)
    (ringed words : List ℕ) (h : Hosts set workers commands hosted)
    (rings : ringed ≡ rings_in hosted.standing) (tells : TellsOfRing ringed words)
    (listed : Bool) (text : List ℕ)
    (history : IsHistory workers hosted.core.history listed text) where
  pub kept_right : (answer : Answer)
      → answer ≡ listed_as listed (served_as hosted.told.items hosted.entries ringed words)
      → IsServedWith workers set commands text answer
  kept_right answer e =
      let same = ringed_there set workers commands hosted ringed words h rings in
      record {
        hosted = hosted;
        hosts = h;
        listed = listed;
        text_is = history;
        words = words;
        tells = subst (λ xs. TellsOfRing xs words) same tells;
        is = e ∙ ap (listed_as listed)
            (served_there set workers commands hosted ringed words h rings);
      }

  pub kept_text : (other : List ℕ) (answer : Answer)
      → (other ≡ text)
      × (answer ≡ listed_as listed (served_as hosted.told.items hosted.entries ringed words))
      → IsServedWith workers set commands other answer
  kept_text other answer (is, e) =
      let P : List ℕ → Type 0 = λ t. IsServedWith workers set commands t answer in
      subst P (sym is) (kept_right answer e)

-- what was served is right for the sources
pub served_kept : (set script : Supply) (workers : ℕ) (hosted : Hosted)
    (by : IsServedBy workers set script hosted) (text : Option (List ℕ)) (answer : Answer)
    → WithText (IsServedWith workers by.accepted by.commands.items) text answer
    → IsKeptWith workers set script text answer
served_kept set script workers hosted by None answer right = absurd right
served_kept set script workers hosted by (Some text) answer right =
    let read = by.read in
    let scripted = by.scripted in (
      read.0,
      read.1,
      (
        by.accepted,
        read.2,
        (
          by.typable,
          record {
            bytes = scripted.0;
            holds = scripted.1;
            commands = by.commands.items;
            says = scripted.2;
            right = right;
          },
        ),
      ),
    )

-- and so is what is answered where nothing is
pub unserved_kept : (set script : Supply) (workers : ℕ) (b : Option (List ℕ)) (l : List ℕ)
    (end : Result End Fault) → IsUnserved set script l end
    → Goes (IsKeptOf workers set script) b b [] l end
unserved_kept set script workers b l end goes =
    goes_rightly (IsUnhosted set script) (IsKeptOf workers set script) b b [] l end
    (λ answer right. (None, right)) (goes b)

-- a sink is left as it was where a job ends so that only shows what it answers
pub told_leaves : (R : Answer → Type 0) (words : List ℕ) (b n : Option (List ℕ))
    (end : Result End Fault) → GoesTold R words b n [] [] end → LeavesFor R b n (status_of end)
told_leaves R words b n (Ok end) h =
    inr (inr (ended_with end h.0 words, h.1, refl, all_out b n h.0 h.2))
told_leaves R words b n (Err fault) h = fault_leaves R b n fault
