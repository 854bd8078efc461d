use Rattle.std.proofs.Common.{refl, subst, sym}
use Rattle.std.specs.List.{AllZip}
use Rattle.drvhost_files.specs.Reading.{IsAnswered}
use Rattle.drvhost_devices.proofs.Writing.{keeps_same}
use Rattle.drvhost_many.specs.All.{width_of}
use Rattle.drvhost_many.specs.Held.{IsToldOf}
use Rattle.drvhost_many.proofs.Ending.{window_goes, window_unopened}
use Rattle.drvhost_many.proofs.many.answer_window.Goals as goal

pub returns-in_default-clause-answers : goal.returns-in_default-clause-answers
returns-in_default-clause-answers g c =
    rw c.lose.ensures.memory
    (window_unopened c.args.window.now.sets.judging (width_of c.args.window.now.sets.jobs)
    (g.F.Files.supply c.args.files.now) c.args.window.now.names.now _ _ _ _ _ _ _ _ _
    c.in_default.ensures.unopened c.in_default.ensures.unread c.lose.ensures.told refl
    (keeps_same _))

pub returns-clause-answers : goal.returns-clause-answers
returns-clause-answers g c =
    let read = rw c.is_in_json.ensures at c.in-Ok.ensures.read in
    let so = read.so in
    window_goes c.args.window.now.sets.judging (width_of c.args.window.now.sets.jobs)
    (g.F.Files.supply c.args.files.now) c.args.window.now.names.now so.held _ _ _ _ _ _ _ _
    (record {
      opened = read.opened;
      reads = read.reads;
      opened_are = read.opened_are;
      reads_are = read.reads_are;
      few = read.few;
      within = read.within;
      so = so.are_held;
    })
    c.requires.few _ c.deliver_each.result
    (c.deliver_each.ensures so.held
    (subst (λ l. AllZip (IsAnswered (IsToldOf c.args.window.now.sets.judging)) so.held l)
    (sym c.as_slice.ensures.value) so.are))
