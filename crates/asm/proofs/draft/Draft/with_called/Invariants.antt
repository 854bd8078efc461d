use Rattle.std.proofs.Common.{◌≡◌, ◌++◌, map, take}
use Rattle.asm.specs.Outline.{called}
use Rattle.asm.proofs.draft.Draft.with_called.Given as goal

-- the instructions so far have their routines
abbrev pub invariant-loop-step : goal.invariant-loop-step
invariant-loop-step l =
    l.code.items ≡ l.fn.before.items ++ map (called l.self) (take l.step-index l.steps)
