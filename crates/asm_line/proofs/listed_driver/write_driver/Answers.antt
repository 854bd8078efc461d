use Rattle.std.proofs.Common.{◌++◌, ◌∷◌, []}
use Rattle.asm_line.specs.declared.entry.Entry.TheVariants as line
use Rattle.asm_line.specs.Listing.{listed, queue_lines, routine_lines, table_lines}
use Rattle.asm_line.proofs.Written.{one_written, then_written}
use Rattle.asm_line.proofs.listed_driver.write_driver.Goals as goal

pub returns : goal.returns
returns c =
    let d = c.args.driver.now in
    let queues = listed queue_lines 0 d.queues in
    let routines = listed routine_lines 0 d.routines in
    let last = line.EndDriver ∷ [] in
    let first = line.Driver c.args.number in
    let one = one_written first _ _ (rw c.in_ok-write.was at c.write.ensures) in
    let two = rw (c.in_ok-write_queues.was, c.as_slice.ensures) at c.write_queues.ensures in
    let three = rw c.in_ok-write_table.was at c.write_table.ensures in
    let four = rw (c.in_ok-write_routines.was, c.as_slice-2.ensures) at c.write_routines.ensures in
    let five = one_written line.EndDriver _ _ (rw c.in_ok-write-2.was at c.write-2.ensures) in
    then_written (first ∷ []) (queues ++ (table_lines d ++ (routines ++ last))) _ _ _ one
    (then_written queues (table_lines d ++ (routines ++ last)) _ _ _ two
    (then_written (table_lines d) (routines ++ last) _ _ _ three
    (then_written routines last _ _ _ four five)))
