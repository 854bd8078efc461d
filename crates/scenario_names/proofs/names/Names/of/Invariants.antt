use Rattle.std.proofs.Common.{◌≡◌, ◌+◌, ◌≤◌, ◌^◌, length}
use Rattle.scenario_names.specs.Names.{names_of, names_on}
use Rattle.scenario_names.proofs.names.Names.of.Given as goal

-- what is left is noted as the whole is, and its lines can be counted
abbrev pub invariant-loop-raw : goal.invariant-loop-raw
invariant-loop-raw l = record {
  same : names_on l.names l.number l.left ≡ names_of l.text;
  counted : l.number + length l.left ≤ 2 ^ 63;
}

abbrev pub decreases-loop-raw : goal.decreases-loop-raw
decreases-loop-raw l = length l.left
