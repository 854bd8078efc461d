-- What takes or frees a lock goes on at the next position, with its registers as they were.
use Rattle.laws_runs.proofs.Prelude.{refl, Some, true, ◌≡◌, Lock, Instr, Acquire, AcquireCancel, Release, ReleaseCancel, Activation}
use Rattle.laws_runs.proofs.Steps.Words.{Locking, goes_next, keeps_registers, lock_freed, lock_taken, work_of}

pub record LockWord (i : Instr) : Type 0 where
  pub work : work_of i ≡ Locking
  pub on : goes_next i ≡ true
  pub keeps : keeps_registers i ≡ true

pub taken_word : (a : Activation) (i : Instr) (lock : Lock) → lock_taken a i ≡ Some lock
    → LockWord i
taken_word a (Acquire l) lock is = record { work = refl; on = refl; keeps = refl }
taken_word a AcquireCancel lock is = record { work = refl; on = refl; keeps = refl }
taken_word a _ lock is = cc

pub freed_word : (a : Activation) (i : Instr) (lock : Lock) → lock_freed a i ≡ Some lock
    → LockWord i
freed_word a (Release l) lock is = record { work = refl; on = refl; keeps = refl }
freed_word a ReleaseCancel lock is = record { work = refl; on = refl; keeps = refl }
freed_word a _ lock is = cc
