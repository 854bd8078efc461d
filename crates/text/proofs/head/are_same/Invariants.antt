use Rattle.std.proofs.Common.{◌≡◌, ◌≤◌, length, drop}
use Rattle.std.specs.Str.{bytes_eq}
use Rattle.text.proofs.head.are_same.Given as goal

-- it is told whether the bytes that were compared are the same
abbrev pub invariant-loop-i : goal.invariant-loop-i
invariant-loop-i l = record {
  same : l.same ≡ bytes_eq (drop l.i l.bytes) (drop l.i l.word);
  within : l.i ≤ length l.word;
}

abbrev pub decreases-loop-i : goal.decreases-loop-i
decreases-loop-i l = l.i
