-- An answer that is right went to its writers, or there was none.
use Rattle.std.proofs.Common.{◌≡◌, ◌+◌, ◌⊎◌, ℕ, List, Option, Result, Ok, arith, inl, inr, refl}
use Rattle.std.specs.Prelude.{IfOk}
use Rattle.drvhost_devices.specs.Answer.{Answer}
use Rattle.drvhost_devices.specs.declared.fault.Fault.{Fault}
use Rattle.drvhost_devices.specs.declared.fault.Fault.TheVariants.{Read, Memory}
use Rattle.drvhost_devices.specs.Ends.{Answers, Ends, OutOfMemory, ReadFailed, Rightly, WriteFailed}
use Rattle.drvhost_devices.specs.Fault.{failed_reads, fault_status, fault_told}
use Rattle.drvhost_devices.proofs.Writing.{keeps_same}

-- where more answers are right
pub ends_rightly : (R Q : Answer → Type 0) (reads writes : ℕ) (b n : Option (List ℕ)) (status : ℕ)
    (told : List ℕ) → ((answer : Answer) → R answer → Q answer)
    → Ends R reads writes b n status told → Ends Q reads writes b n status told
ends_rightly R Q reads writes b n status told on (Rightly answer right r w s t out) =
    Rightly answer (on answer right) r w s t out
ends_rightly R Q reads writes b n status told on (ReadFailed r w s t out) = ReadFailed r w s t out
ends_rightly R Q reads writes b n status told on (WriteFailed answer right r w s t out) =
    WriteFailed answer (on answer right) r w s t out
ends_rightly R Q reads writes b n status told on (OutOfMemory r w s t out) = OutOfMemory r w s t out

-- and as many reads failed by another count
pub answers_rightly : (R Q : Answer → Type 0) (k m i j w x : ℕ) (b n : Option (List ℕ))
    (Tells : List ℕ → Type 0) (status : ℕ) → Answers R k m w x b n Tells status
    → ((answer : Answer) → R answer → Q answer) → j + k ≡ i + m
    → Answers Q i j w x b n Tells status
answers_rightly R Q k m i j w x b n Tells status a on same =
    record {
      reads = a.reads;
      writes = a.writes;
      told = a.told;
      reads_are = let are : m ≡ k + a.reads = a.reads_are in omega arith;
      writes_are = a.writes_are;
      tells = a.tells;
      ends = ends_rightly R Q a.reads a.writes b n status a.told on a.ends;
    }

-- an answer that there is
pub found : {E : Type 0} (Right : Answer → Type 0) (r : Result Answer E) (answer : Answer)
    → IfOk r Right → r ≡ Ok answer → Right answer
found Right r answer right is = rw is at right

-- memory ran out
pub lacking : (R : Answer → Type 0) (k w : ℕ) (b : Option (List ℕ)) (Tells : List ℕ → Type 0)
    (status : ℕ) → Tells (fault_told Memory) → status ≡ fault_status Memory
    → Answers R k k w w b b Tells status
lacking R k w b Tells status tells is =
    record {
      reads = 0;
      writes = 0;
      told = fault_told Memory;
      reads_are = omega arith;
      writes_are = omega arith;
      tells = tells;
      ends = OutOfMemory refl refl is refl (keeps_same b);
    }

-- a read failed
lost : (R : Answer → Type 0) (k m w : ℕ) (b : Option (List ℕ)) (Tells : List ℕ → Type 0)
    (status : ℕ) → m ≡ k + 1 → Tells (fault_told Read) → status ≡ fault_status Read
    → Answers R k m w w b b Tells status
lost R k m w b Tells status read tells is =
    record {
      reads = 1;
      writes = 0;
      told = fault_told Read;
      reads_are = read;
      writes_are = omega arith;
      tells = tells;
      ends = ReadFailed refl refl is refl (keeps_same b);
    }

-- a file wasn't read
pub unread : (R : Answer → Type 0) (fault : Fault) (k m w : ℕ) (b : Option (List ℕ))
    (Tells : List ℕ → Type 0) (status : ℕ) → (fault ≡ Read) ⊎ (fault ≡ Memory)
    → m ≡ k + failed_reads fault → Tells (fault_told fault) → status ≡ fault_status fault
    → Answers R k m w w b b Tells status
unread R fault k m w b Tells status (inl e) read tells is =
    lost R k m w b Tells status (rw e at read) (rw e at tells) (rw e at is)
unread R fault k m w b Tells status (inr e) read tells is =
    let same : m ≡ k + 0 = rw e at read in
    answers_rightly R R k k k m w w b b Tells status
    (lacking R k w b Tells status (rw e at tells) (rw e at is)) (λ answer right. right)
    (omega (arith, same))
