use Rattle.std.proofs.Common.{◌≡◌, false, take}
use Rattle.std.specs.List.{list_any}
use Rattle.scenario_steps.specs.Steps.{is_of}
use Rattle.scenario_steps.proofs.steps.Steps.has.Given as goal

-- none so far is of the kind
abbrev pub invariant-loop-place : goal.invariant-loop-place
invariant-loop-place l = list_any (is_of l.kind) (take l.place l.self) ≡ false
