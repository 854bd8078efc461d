use Rattle.std.specs.Prelude.{string_bytes}
use Rattle.asm_line.specs.Listing.{driver_lines}
use Rattle.asm_line.proofs.Written.{lines_after}
use Rattle.asm_line.proofs.listed_lines.write_drivers.Goals as goal

pub loop-number-preserved : goal.loop-number-preserved
loop-number-preserved c =
    lines_after driver_lines c.args.drivers.now c.index-drivers-number.result c.loop-number.number
    _ (string_bytes c.loop-number.text) _ c.loop-number-test.true c.loop-number.invariant
    c.index-drivers-number.is (rw c.in_ok-write_driver.was at c.write_driver.ensures)
