use Rattle.std.proofs.Common.{◌≡◌, take}
use Rattle.std.specs.Str.Parse.{digits_value}
use Rattle.text.specs.Digits.{Digits}
use Rattle.text.proofs.head.number_at_head.Given as goal

-- the bytes so far are digits, and write the number
abbrev pub invariant-loop-i : goal.invariant-loop-i
invariant-loop-i l = record {
  digits : Digits (take l.i l.bytes);
  number : l.number ≡ digits_value 10 (take l.i l.bytes);
}
