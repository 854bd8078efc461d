use Rattle.std.proofs.Common.{◌≡◌, drop, None}
use Rattle.asm.specs.Outline.{missed_cancels}
use Rattle.asm.proofs.draft.Draft.missed_cancels.Given as goal

-- what is found so far and what is left make what is sought
abbrev pub invariant-loop-queue : goal.invariant-loop-queue
invariant-loop-queue l =
    missed_cancels l.self.routine_names l.self.sorts l.found (drop l.queue-index l.self.queues)
    ≡ missed_cancels l.self.routine_names l.self.sorts None l.self.queues
