use Rattle.std.proofs.Common.{◌≡◌, ◌≤◌, drop, length}
use Rattle.scenario_world.specs.Expected.{are_entries}
use Rattle.scenario_world.proofs.lists.are_entries.Given as goal

-- those that are left are the entries that are left, where all are
abbrev pub invariant-loop-number : goal.invariant-loop-number
invariant-loop-number l = record {
  same : are_entries (drop l.place l.entries) (drop l.number-index l.numbers)
      ≡ are_entries l.entries l.numbers;
  place : l.place ≡ l.number-index;
  within : l.place ≤ length l.entries;
}
