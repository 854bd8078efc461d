use Rattle.std.proofs.Common.{◌≡◌, ◌++◌, List}
use Rattle.verifier_words.specs.Faults.{AreOfRoutines, refusals}
use Rattle.model.specs.declared.abs.Refusal.{Refusal}
use Rattle.verifier_words.proofs.telling.add_faults.Given as goal

abbrev pub invariant-loop-place : goal.invariant-loop-place
invariant-loop-place l =
    (own : List Refusal) × AreOfRoutines l.set l.number l.place own
    × (refusals l.all.items ≡ refusals l.initial.all.items ++ own)
