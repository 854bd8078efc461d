use Rattle.std.proofs.Common.{arith, codes, inl, inr, refl}
use Rattle.drvhost_devices.proofs.Writing.{keeps_same}
use Rattle.answer_logs.proofs.logging.log_paths.Goals as goal

pub returns-in-Ok-clause-answers : goal.returns-in-Ok-clause-answers
returns-in-Ok-clause-answers g c =
    let told = rw c.as_slice.ensures.value at c.log_files.ensures.answers in
    record {
      opened = told.opened;
      reads = told.reads;
      writes = told.writes;
      told = told.told;
      opened_are = told.opened_are;
      reads_are = told.reads_are;
      writes_are = told.writes_are;
      tells = told.tells;
      ends = inl (c.in-Ok.names.items, c.in-Ok.ensures, told.ends);
    }

pub returns-in-Err-clause-answers : goal.returns-in-Err-clause-answers
returns-in-Err-clause-answers g c =
    record {
      opened = 0;
      reads = 0;
      writes = 0;
      told = codes "out of memory\n";
      opened_are = omega arith;
      reads_are = omega arith;
      writes_are = omega arith;
      tells = c.no_memory.ensures.told;
      ends =
          inr
          (record {
            opened_are = refl;
            reads_are = refl;
            writes_are = refl;
            status_is = c.no_memory.ensures.status;
            told_is = refl;
            keeps = keeps_same _;
          });
    }
