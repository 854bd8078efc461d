use Rattle.std.proofs.Common.{◌≡◌, ◌++◌, drop}
use Rattle.tell_uses.specs.Uses.{disagreeing_from}
use Rattle.tell_uses.proofs.ledger.disagreeing_of.Given as goal

abbrev pub invariant-loop-number : goal.invariant-loop-number
invariant-loop-number l =
    l.found.items ++ disagreeing_from l.number (drop l.number l.notes)
    ≡ disagreeing_from 0 l.notes
