use Rattle.std.proofs.Common.{◌∙◌, ap, arith, length, refl, rules}
use Rattle.std.proofs.lemmas.Slice.Zip.{AllZip-long}
use Rattle.std.specs.List.{sum_by}
use Rattle.drvhost_files.specs.Reading.{held_reads}
use Rattle.drvhost_files.proofs.files.DiskFiles.read_each.Goals as goal

pub overflow_add-self-2 : goal.overflow_add-self-2
overflow_add-self-2 g c =
    let long = AllZip-long _ c.args.names.now c.in_ok-held.held.items c.in_ok-held.ensures in
    let few = c.count_reads.ensures.few in
    let same = ap (λ l. length l) c.as_slice.ensures.value in
    let room = c.requires.few in
    search rules

pub returns-clause-read : goal.returns-clause-read
returns-clause-read g c =
    let long = AllZip-long _ c.args.names.now c.in_ok-held.held.items c.in_ok-held.ensures in
    let few = c.count_reads.ensures.few in
    let same = ap (λ l. length l) c.as_slice.ensures.value in
    record {
      opened = length c.args.names.now;
      reads = c.count_reads.result;
      opened_are = refl;
      reads_are = refl;
      few = omega (arith, long, few, same);
      within = omega arith;
      so =
          record {
            are = c.in_ok-held.ensures;
            opened_are = refl;
            reads_are =
                c.count_reads.ensures.sum ∙ ap (λ l. sum_by held_reads l) c.as_slice.ensures.value;
          };
    }
