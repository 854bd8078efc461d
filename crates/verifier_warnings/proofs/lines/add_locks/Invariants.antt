use Rattle.std.specs.Prelude.{◌≡◌, ◌++◌, false, string_bytes}
use Rattle.verifier_warnings.specs.Lines.{names_to}
use Rattle.verifier_warnings.proofs.lines.add_locks.Given as goal

abbrev pub invariant-loop-place : goal.invariant-loop-place
invariant-loop-place l =
    l.words.lacks ≡ false
    → (l.initial.words.lacks ≡ false)
    × (string_bytes l.words.text ≡ string_bytes l.initial.words.text ++ names_to l.locks l.place)
