use Rattle.std.proofs.Common.{◌≡◌, ◌+◌, ◌<◌, ◌^◌, length}
use Rattle.interleave_texts.specs.Script.{listing, script_in}
use Rattle.interleave_texts.proofs.script_parse.script_in.Given as goal

-- the rest is listed as the whole is, and its lines can be counted
abbrev pub invariant-loop-raw : goal.invariant-loop-raw
invariant-loop-raw l = record {
  same : listing l.commands.items l.line l.left ≡ script_in l.text;
  counted : l.line + length l.left < 2 ^ 64;
}

abbrev pub decreases-loop-raw : goal.decreases-loop-raw
decreases-loop-raw l = length l.left
