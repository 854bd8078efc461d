use Rattle.std.proofs.Common.{arith, refl}
use Rattle.drvhost_devices.specs.declared.fault.Fault.TheVariants.{Memory}
use Rattle.drvhost_devices.specs.Ends.{IsRewriteOf, OutOfMemory}
use Rattle.drvhost_devices.specs.Fault.{fault_told, reads_failed, told_of, writes_failed}
use Rattle.drvhost_devices.proofs.Doing.{ends_of}
use Rattle.drvhost_devices.proofs.Writing.{keeps_same}
use Rattle.answer_explain.proofs.rewriting.rewrite.Goals as goal

pub returns-in-Ok-clause-answers : goal.returns-in-Ok-clause-answers
returns-in-Ok-clause-answers g c =
    let end = c.rewrite_set-end.result in
    record {
      reads = reads_failed end;
      writes = writes_failed end;
      told = told_of end;
      reads_are = c.rewrite_set-end.ensures.reads;
      writes_are = c.rewrite_set-end.ensures.writes;
      tells = c.finish.ensures.told;
      ends = rw c.finish.ensures.status
          (ends_of (IsRewriteOf (g.S.Source.supply c.args.set.now)) _ _ end
          c.rewrite_set-end.ensures.goes);
    }

pub returns-in-Ok-clause-touched : goal.returns-in-Ok-clause-touched
returns-in-Ok-clause-touched g c = rw c.finish.ensures.status c.rewrite_set-end.ensures.touched

pub returns-in-Err-clause-answers : goal.returns-in-Err-clause-answers
returns-in-Err-clause-answers g c =
    record {
      reads = 0;
      writes = 0;
      told = fault_told Memory;
      reads_are = omega arith;
      writes_are = omega arith;
      tells = c.no_memory.ensures.told;
      ends = OutOfMemory refl refl c.no_memory.ensures.status refl (keeps_same _);
    }
