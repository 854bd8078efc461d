use Rattle.std.proofs.Common.{◌++◌, ◌∷◌, []}
use Rattle.asm_line.specs.declared.entry.Entry.TheVariants as line
use Rattle.asm_line.specs.Listing.{listed, step_lines}
use Rattle.asm_line.proofs.Written.{one_written, then_written}
use Rattle.asm_line.proofs.listed_routine.write_routine.Goals as goal

pub returns : goal.returns
returns c =
    let r = c.args.routine.now in
    let steps = listed (step_lines r.code) 0 r.code in
    let first = line.Routine c.args.number r.sort in
    let one = one_written first _ _ (rw c.in_ok-write.was at c.write.ensures) in
    let two = rw (c.in_ok-write_steps.was, c.as_slice-code.ensures) at c.write_steps.ensures in
    let three = one_written line.EndRoutine _ _ (rw c.in_ok-write-2.was at c.write-2.ensures) in
    then_written (first ∷ []) (steps ++ line.EndRoutine ∷ []) _ _ _ one
    (then_written steps (line.EndRoutine ∷ []) _ _ _ two three)
