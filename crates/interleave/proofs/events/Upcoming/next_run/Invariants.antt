use Rattle.std.proofs.Common.{◌≡◌, length}
use Rattle.interleave.specs.Events.{listed}
use Rattle.interleave.proofs.events.Upcoming.next_run.Given as goal

-- no event has been taken yet
abbrev pub invariant-loop-byte : goal.invariant-loop-byte
invariant-loop-byte l = listed l.self-inside.bytes.now l.self-inside.others.now ≡ l.fn.self

abbrev pub decreases-loop-byte : goal.decreases-loop-byte
decreases-loop-byte l = length l.self-inside.bytes.now
