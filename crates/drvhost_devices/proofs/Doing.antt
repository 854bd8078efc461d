-- How a job goes where its parts do, and how a command ends.
use Rattle.std.proofs.Common.{◌≡◌, ◌∙◌, ◌≢◌, ℕ, List, [], ◌⊎◌, inl, inr, Option, Result, Ok, Err, IfOk, IfErr, refl, sym, ap, subst}
use Rattle.std.proofs.lemmas.List.{append-nil}
use Rattle.std.specs.Io.KnownBytes.{Appends}
use Rattle.model.specs.declared.abs.Refusal.{Refusal}
use Rattle.model.specs.declared.abs.Rule.TheVariants as Rule
use Rattle.model.specs.Set.{Set}
use Rattle.model.specs.Typable.{IsFirstFault, at_start}
use Rattle.report.specs.Verdict.{refusal_line}
use Rattle.report.specs.Fault.{image_fault_line, text_fault_line}
use Rattle.drvhost_devices.specs.declared.fault.End.{End}
use Rattle.drvhost_devices.specs.declared.fault.End.TheVariants.{Stopped}
use Rattle.drvhost_devices.specs.declared.fault.Fault.{Fault}
use Rattle.drvhost_devices.specs.declared.fault.Fault.TheVariants.{Read, Write, Memory, Text, Image, Schedule as OfSchedule, Script as OfScript}
use Rattle.drvhost_devices.specs.Answer.{Answer, IsRefused, ended}
use Rattle.drvhost_devices.specs.Device.{Supply}
use Rattle.drvhost_devices.specs.Ends.{Ends, IsOfSupply, Rightly, ReadFailed, WriteFailed, OutOfMemory}
use Rattle.drvhost_devices.specs.Fault.{Goes, ReadsSet, reads_failed, status_of, told_of, writes_failed}
use Rattle.drvhost_devices.proofs.Writing.{appends_none, keeps_same}

-- where more answers are right
pub goes_rightly : (R Q : Answer → Type 0) (b n : Option (List ℕ)) (g l : List ℕ)
    (end : Result End Fault) → ((answer : Answer) → R answer → Q answer) → Goes R b n g l end
    → Goes Q b n g l end
goes_rightly R Q b n g l (Ok end) on h = (h.0, on (ended end h.0) h.1, h.2)
goes_rightly R Q b n g l (Err Read) on h = h
goes_rightly R Q b n g l (Err Write) on h = (h.0, on h.0 h.1, h.2)
goes_rightly R Q b n g l (Err Memory) on h = h
goes_rightly R Q b n g l (Err (Text fault)) on h = (on _ h.0, h.1)
goes_rightly R Q b n g l (Err (Image fault)) on h = (on _ h.0, h.1)
goes_rightly R Q b n g l (Err (OfSchedule fault)) on h = (on _ h.0, h.1)
goes_rightly R Q b n g l (Err (OfScript fault)) on h = (on _ h.0, h.1)

-- after a fault it doesn't matter what gathers
pub goes_left : (R : Answer → Type 0) (b n : Option (List ℕ)) (l k : List ℕ) (fault : Fault)
    → Goes R b n [] l (Err fault) → Goes R b n [] k (Err fault)
goes_left R b n l k Read h = h
goes_left R b n l k Write h = h
goes_left R b n l k Memory h = h
goes_left R b n l k (Text fault) h = h
goes_left R b n l k (Image fault) h = h
goes_left R b n l k (OfSchedule fault) h = h
goes_left R b n l k (OfScript fault) h = h

-- an answer for the set that a source has
pub right_on : (R : Set → Answer → Type 0) (held : Supply) (set : Set) → ReadsSet held (Ok set)
    → (answer : Answer) → R set answer → IsOfSupply R held answer
right_on R held set (bytes, holds, says) answer right = (bytes, holds, (Ok set, says, right))

-- the bytes of a file can't be read
pub bytes_unread : (held : Supply) (fault : Fault) → (fault ≡ Read) ⊎ (fault ≡ Memory)
    → ReadsSet held (Err fault)
bytes_unread held fault (inl e) =
    let P : Fault → Type 0 = λ f. ReadsSet held (Err f) in subst P (sym e) tt
bytes_unread held fault (inr e) =
    let P : Fault → Type 0 = λ f. ReadsSet held (Err f) in subst P (sym e) tt

-- the set can't be read
pub set_unread : (R : Set → Answer → Type 0) (held : Supply) (b : Option (List ℕ)) (g l : List ℕ)
    (fault : Fault) → ReadsSet held (Err fault) → Goes (IsOfSupply R held) b b g l (Err fault)
set_unread R held b g l Read h = keeps_same b
set_unread R held b g l Write h = absurd h
set_unread R held b g l Memory h = keeps_same b
set_unread R held b g l (Text fault) (bytes, holds, says) =
    ((bytes, holds, (Err (text_fault_line fault), says, refl)), keeps_same b)
set_unread R held b g l (Image fault) (bytes, holds, says) =
    ((bytes, holds, (Err (image_fault_line fault), says, refl)), keeps_same b)
set_unread R held b g l (OfSchedule fault) h = absurd h
set_unread R held b g l (OfScript fault) h = absurd h

-- the line of a refusal is added, unless there was no memory for a verdict
pub goes_refused : (set : Set) (refusal : Refusal) (b : Option (List ℕ)) (l : List ℕ)
    (end : Result End Fault) → (refusal ≡ at_start Rule.Memory) ⊎ IsFirstFault set refusal
    → IfOk end (λ e. (e ≡ Stopped) × (refusal.rule ≢ Rule.Memory) × (l ≡ refusal_line refusal))
    → IfErr end (λ fault. fault ≡ Memory)
    → Goes (IsRefused set) b b [] l end
goes_refused set refusal b l (Ok end) (inl e) h i = absurd (h.1 (ap (λ r. r.rule) e))
goes_refused set refusal b l (Ok end) (inr first) h i = (
  l,
  record {
    refusal = refusal;
    first = first;
    is = ap (λ x. ended x l) h.0
        ∙ ap (λ x. ended Stopped x) h.2;
  },
  record { written = []; appended = appends_none b b (keeps_same b); whole = refl },
)
goes_refused set refusal b l (Err fault) e h i =
    let P : Fault → Type 0 = λ f. Goes (IsRefused set) b b [] l (Err f) in
    subst P (sym i) (keeps_same b)

-- how a command ends
pub ends_of : (R : Answer → Type 0) (b n : Option (List ℕ)) (end : Result End Fault)
    → Goes R b n [] [] end → Ends R (reads_failed end) (writes_failed end) b n (status_of end)
    (told_of end)
ends_of R b n (Ok end) h =
    let all : h.0 ≡ h.2.written = h.2.whole ∙ append-nil h.2.written in
    let P : List ℕ → Type 0 = Appends b n in
    Rightly (ended end h.0) h.1 refl refl refl refl (subst P (sym all) h.2.appended)
ends_of R b n (Err Read) h = ReadFailed refl refl refl refl h
ends_of R b n (Err Write) h = WriteFailed h.0 h.1 refl refl refl refl h.2
ends_of R b n (Err Memory) h = OutOfMemory refl refl refl refl h
ends_of R b n (Err (Text fault)) h = Rightly _ h.0 refl refl refl refl (appends_none b n h.1)
ends_of R b n (Err (Image fault)) h = Rightly _ h.0 refl refl refl refl (appends_none b n h.1)
ends_of R b n (Err (OfSchedule fault)) h = Rightly _ h.0 refl refl refl refl (appends_none b n h.1)
ends_of R b n (Err (OfScript fault)) h = Rightly _ h.0 refl refl refl refl (appends_none b n h.1)
