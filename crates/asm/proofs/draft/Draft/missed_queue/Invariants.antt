use Rattle.std.proofs.Common.{◌≡◌, drop, None}
use Rattle.asm.specs.Outline.{missed_uses}
use Rattle.asm.proofs.draft.Draft.missed_queue.Given as goal

-- what is found so far and what is left make what is sought
abbrev pub invariant-loop-used : goal.invariant-loop-used
invariant-loop-used l =
    missed_uses l.self.queue_names l.found (drop l.used-index l.self.queue_uses)
    ≡ missed_uses l.self.queue_names None l.self.queue_uses
