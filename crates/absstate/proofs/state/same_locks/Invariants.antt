use Rattle.std.proofs.Common.{◌≡◌, take}
use Rattle.absstate.proofs.state.same_locks.Given as goal

-- the first ones are the same
abbrev pub invariant-loop-i : goal.invariant-loop-i
invariant-loop-i l = take l.i l.a ≡ take l.i l.b
