use Rattle.std.proofs.Common.{◌≡◌, ◌++◌, drop, map, take}
use Rattle.asm.specs.Outline.{missed_from, label_resolved}
use Rattle.asm.proofs.link.linked.Given as goal

-- the steps so far have their labels, and what is found so far and what is left make what is sought
abbrev pub invariant-loop-step : goal.invariant-loop-step
invariant-loop-step l = record {
  linked : l.code
      ≡ l.fn.before ++ map (label_resolved l.labels.keys l.positions) (take l.step-index l.steps);
  missed : missed_from l.labels.keys l.missed (drop l.step-index l.steps)
      ≡ missed_from l.labels.keys l.fn.found l.steps;
}
