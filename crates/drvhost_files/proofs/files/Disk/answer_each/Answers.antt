use Rattle.std.proofs.Common.{◌∙◌, ap, arith, length, refl, rules, sym}
use Rattle.std.proofs.lemmas.Slice.Zip.{AllZip-long}
use Rattle.std.specs.List.{sum_by}
use Rattle.drvhost_devices.specs.Device.{Unknown}
use Rattle.drvhost_files.specs.Reading.{failed_reads}
use Rattle.drvhost_files.proofs.Holding.{were_held}
use Rattle.drvhost_files.proofs.files.Disk.answer_each.Goals as goal

pub overflow_add-self-2 : goal.overflow_add-self-2
overflow_add-self-2 g c =
    let long = AllZip-long _ c.args.names.now c.in_ok-answered.answered.items c.in_ok-answered.ensures in
    let few = c.count_unread.ensures.few in
    let same = ap (λ l. length l) c.as_slice.ensures.value in
    let room = c.requires.few in
    search rules

pub returns-clause-read : goal.returns-clause-read
returns-clause-read g c =
    let answered = c.in_ok-answered.answered.items in
    let long = AllZip-long _ c.args.names.now answered c.in_ok-answered.ensures in
    let few = c.count_unread.ensures.few in
    let same = ap (λ l. length l) c.as_slice.ensures.value in
    let were =
    were_held c.args.way.is_told (λ _. Unknown) (g.A.Answering.answers c.args.answering.now)
    c.args.names.now answered c.in_ok-answered.ensures in
    record {
      opened = length c.args.names.now;
      reads = c.count_unread.result;
      opened_are = refl;
      reads_are = refl;
      few = omega (arith, long, few, same);
      within = omega arith;
      so =
          record {
            held = were.held;
            are_held =
                record {
                  are = were.are_held;
                  opened_are = refl;
                  reads_are =
                      c.count_unread.ensures.sum
                      ∙ ap (λ l. sum_by (λ one. failed_reads one.is_unread) l)
                      c.as_slice.ensures.value ∙ were.reads;
                };
            are = were.are;
          };
    }
