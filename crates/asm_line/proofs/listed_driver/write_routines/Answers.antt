use Rattle.std.specs.Prelude.{string_bytes}
use Rattle.asm_line.specs.Listing.{routine_lines}
use Rattle.asm_line.proofs.Written.{lines_after}
use Rattle.asm_line.proofs.listed_driver.write_routines.Goals as goal

pub loop-number-preserved : goal.loop-number-preserved
loop-number-preserved c =
    lines_after routine_lines c.args.routines.now c.index-routines-number.result
    c.loop-number.number
    _ (string_bytes c.loop-number.text) _ c.loop-number-test.true c.loop-number.invariant
    c.index-routines-number.is (rw c.in_ok-write_routine.was at c.write_routine.ensures)
