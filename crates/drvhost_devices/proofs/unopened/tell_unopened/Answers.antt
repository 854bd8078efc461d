use Rattle.std.proofs.Common.{[], arith, inl, refl}
use Rattle.report.specs.Fault.{unopened_line}
use Rattle.drvhost_devices.specs.Answer.{faulty}
use Rattle.drvhost_devices.specs.Ends.{Rightly}
use Rattle.drvhost_devices.proofs.Writing.{appends_none, keeps_same}
use Rattle.drvhost_devices.proofs.unopened.tell_unopened.Goals as goal

pub returns : goal.returns
returns g c = λ reads writes written. record {
  reads = 0;
  writes = 0;
  told = unopened_line c.args.name.now;
  reads_are = omega arith;
  writes_are = omega arith;
  tells =
      (rw c.failures-failures.ensures at c.tell_unread.ensures) _ []
      (inl (refl, appends_none _ _ (keeps_same _)));
  ends = Rightly (faulty (unopened_line c.args.name.now)) refl refl refl refl refl
      (appends_none _ _ (keeps_same written));
}
