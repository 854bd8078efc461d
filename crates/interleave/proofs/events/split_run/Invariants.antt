use Rattle.std.proofs.Common.{◌≡◌, ◌++◌, drop, replicate}
use Rattle.interleave.proofs.events.split_run.Given as goal

-- so far each byte is the same
abbrev pub invariant-loop-i : goal.invariant-loop-i
invariant-loop-i l = l.bytes ≡ replicate l.i l.byte ++ drop l.i l.bytes
