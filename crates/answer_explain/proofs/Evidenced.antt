-- What shows a fault.
use Rattle.std.proofs.Common.{ℕ, List, IfOk, Option, Result, Ok, Err}
use Rattle.model.specs.declared.abs.Refusal.{Refusal}
use Rattle.model.specs.Set.{Set}
use Rattle.verifier_evidence.specs.declared.evidence.Evidence.{Evidence}
use Rattle.verifier_evidence.specs.Evidence.{IsEvidence}
use Rattle.answer_explain.specs.declared.shown.Shown.{Shown}
use Rattle.answer_explain.specs.Shown.{IsShown, IsShownBy}

-- a fault is shown by the evidence of it
pub fault_shown : {E : Type 0} (r : Result Shown E) (bytes : List ℕ) (set : Set)
    (refusal : Refusal) (evidence : Option Evidence) → IsEvidence set refusal evidence
    → IfOk r (IsShownBy bytes refusal evidence) → IfOk r (IsShown bytes set refusal)
fault_shown (Ok shown) bytes set refusal evidence is by_it = (evidence, is, by_it)
fault_shown (Err e) bytes set refusal evidence is by_it = tt
