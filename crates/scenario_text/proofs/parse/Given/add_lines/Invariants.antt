use Rattle.std.proofs.Common.{◌≡◌, drop}
use Rattle.scenario_text.specs.Listing.{with_lines}
use Rattle.scenario_text.proofs.parse.Given.add_lines.Given as goal

-- what is left is listed as all was
abbrev pub invariant-loop-line : goal.invariant-loop-line
invariant-loop-line l =
    with_lines l.names l.self (drop l.line-index l.lines)
    ≡ with_lines l.names l.initial.self l.lines
