-- How a run that is told as it goes comes to its end.
use Rattle.std.proofs.Common.{◌≡◌, ◌∙◌, ◌+◌, ℕ, List, [], ◌++◌, inl, inr, Option, Result, Ok, Err, arith, refl, sym, subst}
use Rattle.std.proofs.lemmas.List.{append-nil}
use Rattle.std.specs.Io.KnownBytes.{Appends}
use Rattle.drvhost_devices.specs.declared.fault.End.{End}
use Rattle.drvhost_devices.specs.declared.fault.Fault.{Fault}
use Rattle.drvhost_devices.specs.declared.fault.Fault.TheVariants.{Read, Write, Memory, Text, Image, Schedule as OfSchedule, Script as OfScript}
use Rattle.drvhost_devices.specs.Answer.{Answer, ended}
use Rattle.drvhost_devices.specs.Device.{Adds, TakesBeginning}
use Rattle.drvhost_devices.specs.Ends.{Answers, Ends, Rightly, WriteFailed, OutOfMemory}
use Rattle.drvhost_devices.specs.Fault.{status_of, told_of, writes_failed}
use Rattle.drvhost_devices.proofs.Writing.{adds_all, adds_breaks, keeps_same}
use Rattle.answer_runs.specs.Traced.{Streams}

-- where more answers are right
pub streams_rightly : (R Q : Answer → Type 0) (b n : Option (List ℕ)) (end : Result End Fault)
    → ((answer : Answer) → R answer → Q answer) → Streams R b n end → Streams Q b n end
streams_rightly R Q b n (Ok end) on h = (h.0, on (ended end h.0) h.1, h.2)
streams_rightly R Q b n (Err Write) on h = (h.0, on h.0 h.1, h.2)
streams_rightly R Q b n (Err Memory) on (inl h) = inl h
streams_rightly R Q b n (Err Memory) on (inr h) = inr (h.0, on h.0 h.1, h.2, h.3)
streams_rightly R Q b n (Err Read) on h = absurd h
streams_rightly R Q b n (Err (Text fault)) on h = absurd h
streams_rightly R Q b n (Err (Image fault)) on h = absurd h
streams_rightly R Q b n (Err (OfSchedule fault)) on h = absurd h
streams_rightly R Q b n (Err (OfScript fault)) on h = absurd h

-- memory ran out before anything went out
pub streams_none : (R : Answer → Type 0) (b : Option (List ℕ)) (fault : Fault) → fault ≡ Memory
    → Streams R b b (Err fault)
streams_none R b fault is =
    let P : Fault → Type 0 = λ f. Streams R b b (Err f) in subst P (sym is) (inl (keeps_same b))

-- where the lines that gathered last are written, or a beginning of them
pub streams_written : (R : Answer → Type 0) (b m n : Option (List ℕ)) (l : List ℕ) (end : End)
    → ((text : List ℕ) × R (ended end text) × Adds b m [] l text) → Appends m n l
    → Streams R b n (Ok end)
streams_written R b m n l end (text, right, adds) p =
    let all = adds_all b m n [] l text adds p in
    let same : text ≡ all.written = all.whole ∙ append-nil all.written in
    let P : List ℕ → Type 0 = Appends b n in
    (text, right, subst P (sym same) all.appended)

pub streams_broken : (R : Answer → Type 0) (b m n : Option (List ℕ)) (l : List ℕ) (end : End)
    → ((text : List ℕ) × R (ended end text) × Adds b m [] l text) → TakesBeginning m n l
    → Streams R b n (Err Write)
streams_broken R b m n l end (text, right, adds) p =
    let broken : TakesBeginning b n (text ++ []) = adds_breaks b m n [] l text [] adds p in
    let P : List ℕ → Type 0 = TakesBeginning b n in
    (ended end text, right, subst P (append-nil text) broken)

-- how it ends
streams_ends : (R : Answer → Type 0) (b n : Option (List ℕ)) (end : Result End Fault)
    → Streams R b n end → Ends R 0 (writes_failed end) b n (status_of end) (told_of end)
streams_ends R b n (Ok end) h = Rightly (ended end h.0) h.1 refl refl refl refl h.2
streams_ends R b n (Err Write) h = WriteFailed h.0 h.1 refl refl refl refl h.2
streams_ends R b n (Err Memory) (inl h) = OutOfMemory refl refl refl refl h
streams_ends R b n (Err Memory) (inr h) =
    Rightly h.0 h.1 refl refl (sym h.2.status) (sym h.2.says) h.3
streams_ends R b n (Err Read) h = absurd h
streams_ends R b n (Err (Text fault)) h = absurd h
streams_ends R b n (Err (Image fault)) h = absurd h
streams_ends R b n (Err (OfSchedule fault)) h = absurd h
streams_ends R b n (Err (OfScript fault)) h = absurd h

-- its end is told, so it has answered
pub streamed : (R : Answer → Type 0) (b n : Option (List ℕ)) (end : Result End Fault)
    (k w x : ℕ) (Says : List ℕ → Type 0) (status : ℕ) → Streams R b n end
    → x ≡ w + writes_failed end → Says (told_of end) → status ≡ status_of end
    → Answers R k k w x b n Says status
streamed R b n end k w x Says status streams written says is =
    record {
      reads = 0;
      writes = writes_failed end;
      told = told_of end;
      reads_are = omega arith;
      writes_are = written;
      tells = says;
      ends = rw is (streams_ends R b n end streams);
    }
