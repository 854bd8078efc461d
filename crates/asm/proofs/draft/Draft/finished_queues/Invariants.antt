use Rattle.std.proofs.Common.{◌≡◌, map, take}
use Rattle.asm.specs.Outline.{finished_queue}
use Rattle.asm.proofs.draft.Draft.finished_queues.Given as goal

-- the queues so far have their cancel routines
abbrev pub invariant-loop-queue : goal.invariant-loop-queue
invariant-loop-queue l =
    l.queues.items ≡ map (finished_queue l.self) (take l.queue-index l.self.queues)
