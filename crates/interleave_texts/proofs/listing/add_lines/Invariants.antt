use Rattle.std.proofs.Common.{◌≡◌, ◌≤◌, ◌++◌, drop}
use Rattle.interleave_texts.specs.Listed.{event_lines}
use Rattle.interleave_texts.proofs.listing.add_lines.Given as goal

-- what is written with the lines of what is left is what is to be written
abbrev pub invariant-loop-place : goal.invariant-loop-place
invariant-loop-place l =
    record {
      few : l.times ≤ l.place;
      added : l.text.items ++ event_lines l.times (drop l.place l.events)
          ≡ l.initial.text.items ++ event_lines 0 l.events;
    }
