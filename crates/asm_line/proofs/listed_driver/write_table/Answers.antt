use Rattle.std.proofs.Common.{◌++◌}
use Rattle.model.specs.declared.status.Major.TheVariants.{Read, Write, Control}
use Rattle.asm_line.specs.declared.entry.Entry.TheVariants as line
use Rattle.asm_line.specs.Listing.{naming, starting}
use Rattle.asm_line.proofs.Written.{then_written}
use Rattle.asm_line.proofs.listed_driver.write_table.Goals as goal

pub returns : goal.returns
returns c =
    let d = c.args.driver.now in
    let read = naming (line.Handler Read) d.read in
    let write = naming (line.Handler Write) d.write in
    let control = naming (line.Handler Control) d.control in
    let startio = naming (starting d.startio_cancel) d.startio in
    let dpc = naming line.Dpc d.dpc in
    let one = rw c.in_ok-write_handler.was at c.write_handler.ensures in
    let two = rw c.in_ok-write_handler-2.was at c.write_handler-2.ensures in
    let three = rw c.in_ok-write_handler-3.was at c.write_handler-3.ensures in
    let four = rw c.in_ok-write_startio.was at c.write_startio.ensures in
    let five = rw c.in_ok-write_dpc.was at c.write_dpc.ensures in
    then_written read (write ++ (control ++ (startio ++ dpc))) _ _ _ one
    (then_written write (control ++ (startio ++ dpc)) _ _ _ two
    (then_written control (startio ++ dpc) _ _ _ three
    (then_written startio dpc _ _ _ four five)))
