use Rattle.std.proofs.Common.{◌≡◌, ◌∷◌, length}
use Rattle.scenario_expected.specs.Places.{none_listed, packets_from}
use Rattle.scenario_expected.proofs.places.packets_from.Given as goal

-- what is left is read as all was
abbrev pub invariant-loop-name : goal.invariant-loop-name
invariant-loop-name l =
    packets_from l.packets l.listed l.place l.operands
    ≡ packets_from l.packets none_listed 0 (l.first ∷ l.fn.operands)

abbrev pub decreases-loop-name : goal.decreases-loop-name
decreases-loop-name l = length l.operands
