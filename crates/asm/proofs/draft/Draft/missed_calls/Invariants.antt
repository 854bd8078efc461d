use Rattle.std.proofs.Common.{◌≡◌, drop, None}
use Rattle.asm.specs.Outline.{missed_calls}
use Rattle.asm.proofs.draft.Draft.missed_calls.Given as goal

-- what is found so far and what is left make what is sought
abbrev pub invariant-loop-used : goal.invariant-loop-used
invariant-loop-used l =
    missed_calls l.self.routine_names l.self.sorts l.found (drop l.used-index l.self.calls)
    ≡ missed_calls l.self.routine_names l.self.sorts None l.self.calls
