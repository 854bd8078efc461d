use Rattle.std.proofs.Common.{arith, refl}
use Rattle.drvhost_devices.specs.declared.fault.Fault.TheVariants.{Memory}
use Rattle.drvhost_devices.specs.Ends.{OutOfMemory}
use Rattle.drvhost_devices.specs.Fault.{fault_told, reads_failed, told_of, writes_failed}
use Rattle.drvhost_devices.proofs.Doing.{ends_of}
use Rattle.drvhost_devices.proofs.Writing.{keeps_same}
use Rattle.answer_scenarios.specs.declared.telling.Asked.TheVariants.{Schedule}
use Rattle.answer_scenarios.specs.Scenarios.{IsOfSources, right_of}
use Rattle.answer_scenarios.proofs.schedule.schedule.Goals as goal

pub returns-in-Ok-clause-answers : goal.returns-in-Ok-clause-answers
returns-in-Ok-clause-answers g c =
    let end = c.write_told-end.result in
    record {
      reads = reads_failed end;
      writes = writes_failed end;
      told = told_of end;
      reads_are = c.write_told-end.ensures.reads;
      writes_are = c.write_told-end.ensures.writes;
      tells = c.finish.ensures.told;
      ends = rw c.finish.ensures.status
          (ends_of (IsOfSources (right_of Schedule) c.args.verification
          (g.S.Source.supply c.args.set.now) (g.P.Source.supply c.args.scenario.now)) _ _ end
          c.write_told-end.ensures.goes);
    }

pub returns-in-Err-clause-answers : goal.returns-in-Err-clause-answers
returns-in-Err-clause-answers g c =
    record {
      reads = 0;
      writes = 0;
      told = fault_told Memory;
      reads_are = omega arith;
      writes_are = omega arith;
      tells = c.no_memory.ensures.told;
      ends = OutOfMemory refl refl c.no_memory.ensures.status refl (keeps_same _);
    }
