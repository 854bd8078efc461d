use Rattle.std.proofs.Common.{◌≡◌, length}
use Rattle.pafteis_values.specs.Named.{name_from, name_in}
use Rattle.pafteis_values.proofs.named.name_in.Given as goal

-- the name that is sought in the rest is that of the whole text
abbrev pub invariant-loop-raw : goal.invariant-loop-raw
invariant-loop-raw l = name_from l.left l.now ≡ name_in l.text l.fn.sought

abbrev pub decreases-loop-raw : goal.decreases-loop-raw
decreases-loop-raw l = length l.left
