use Rattle.std.proofs.Common.{◌≡◌}
use Rattle.scenario_text.specs.Listing.{repeated}
use Rattle.scenario_text.proofs.parse.Given.repeat.Given as goal

-- what is left is listed as all was
abbrev pub invariant-loop-left : goal.invariant-loop-left
invariant-loop-left l =
    repeated l.names l.left l.self l.lines ≡ repeated l.names l.times l.initial.self l.lines

abbrev pub decreases-loop-left : goal.decreases-loop-left
decreases-loop-left l = l.left
