use Rattle.std.proofs.Common.{◌≡◌, ◌++◌, drop}
use Rattle.text.specs.Cut.{lines_of}
use Rattle.mend_edits.specs.Patch.{patched_from}
use Rattle.mend_edits.proofs.patching.patch.Given as goal

-- what is written and what is left make the whole
abbrev pub invariant-loop-step : goal.invariant-loop-step
invariant-loop-step l =
    l.bytes.items ++ patched_from l.left (drop l.step-index l.steps)
    ≡ patched_from (lines_of l.fn.text) l.steps
