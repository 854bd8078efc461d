use Rattle.std.proofs.Common.{◌≡◌, ◌≤◌, drop}
use Rattle.text.specs.Cut.{code_of, parts_from, tokens_of}
use Rattle.text.proofs.Cuts.{held_at}
use Rattle.text.proofs.token.first_token.Given as goal

-- no token so far is closed
abbrev pub invariant-loop-i : goal.invariant-loop-i
invariant-loop-i l = record {
  begun : l.start ≤ l.i;
  same : parts_from (held_at l.line l.start l.i) (code_of (drop l.i l.line)) ≡ tokens_of l.line;
}
