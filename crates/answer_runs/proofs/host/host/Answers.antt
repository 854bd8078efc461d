use Rattle.std.proofs.Common.{[], ◌∙◌, arith, refl, sym}
use Rattle.drvhost_devices.specs.declared.fault.Fault.TheVariants.{Memory}
use Rattle.drvhost_devices.specs.Ends.{OutOfMemory}
use Rattle.drvhost_devices.specs.Fault.{fault_told, reads_failed, writes_failed}
use Rattle.answer_runs.specs.Served.{IsHostOf}
use Rattle.answer_runs.specs.Hosting.{told_behind}
use Rattle.answer_runs.specs.Readiness.{warnings_in}
use Rattle.answer_runs.proofs.Readying.{warnings_none, warnings_right}
use Rattle.answer_runs.proofs.RingsTold.{told_ends}
use Rattle.drvhost_devices.proofs.Writing.{keeps_same}
use Rattle.answer_runs.proofs.host.host.Goals as goal

pub returns-in-Ok-clause-answers : goal.returns-in-Ok-clause-answers
returns-in-Ok-clause-answers g c =
    let set = g.S.Source.supply c.args.set.now in
    let script = g.P.Source.supply c.args.script.now in
    let ready = c.get_ready-ready.result in
    let is = c.get_ready-ready.ensures.ready in
    let end = c.tell_served-end.result in
    let words = c.tell_served-end.new.page.words.items in
    record {
      reads = reads_failed end;
      writes = writes_failed end;
      told = told_behind words end;
      reads_are =
          rw (c.tell_served-end.ensures.reads, c.serve_ready-served.ensures.reads)
          c.get_ready-ready.ensures.reads;
      writes_are = c.tell_served-end.ensures.writes;
      tells = (
        warnings_in ready,
        warnings_right set script _ ready _ is
            (λ zero. c.serve_ready-served.ensures.served
            (c.tell_served-end.ensures.served (sym c.finish_page.ensures.status ∙ zero))),
        (rw c.failures-failures.ensures at c.finish_page.ensures.told) _ _ c.warn.ensures,
      );
      ends = rw c.finish_page.ensures.status
          (told_ends (IsHostOf c.args.hosting.now.workers set script) _ _ _ end
          (c.tell_served-end.ensures.goes c.args.hosting.now.workers set script
          (c.serve_ready-served.ensures.hosted set script is)));
    }

pub returns-in-Err-clause-answers : goal.returns-in-Err-clause-answers
returns-in-Err-clause-answers g c =
    record {
      reads = 0;
      writes = 0;
      told = fault_told Memory;
      reads_are = omega arith;
      writes_are = omega arith;
      tells = ([], warnings_none _ _ c.no_memory.ensures.status, c.no_memory.ensures.told);
      ends = OutOfMemory refl refl c.no_memory.ensures.status refl (keeps_same _);
    }
