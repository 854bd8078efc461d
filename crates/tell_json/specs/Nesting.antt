-- How deep the object of an audit nests.
use Rattle.std.proofs.Common.{◌≤◌, ℕ, List, [], ◌∷◌, arith}
use Rattle.json.specs.Json.{max_depth}
use Rattle.json.specs.Tree.{depth, items_depth}
use Rattle.model.specs.declared.event.Subject.TheVariants.{Lock as LockSubject}
use Rattle.model.specs.Trace.{Serving}
use Rattle.report_json.specs.Nesting.{numbers_nest, subject_nests}
use Rattle.tell_audit.specs.declared.left.LeftLock.{LeftLock}
use Rattle.tell_json.specs.Audit.{audit_json, left_json, uses_json}

left_nests : (left : List LeftLock) → items_depth (left_json left) ≤ 2
left_nests [] = omega arith
left_nests (its ∷ left) = omega (arith, subject_nests (LockSubject its.lock), left_nests left)

uses_nest : (uses : List Serving) → items_depth (uses_json uses) ≤ 1
uses_nest [] = omega arith
uses_nest (its ∷ uses) = omega (arith, uses_nest uses)

pub audit_nests : (lost : List ℕ) (left : List LeftLock) (ringed missed : List ℕ)
    (disagreeing : List Serving)
    → depth (audit_json lost left ringed missed disagreeing) ≤ max_depth
audit_nests lost left ringed missed disagreeing =
    omega (
      arith,
      numbers_nest lost,
      left_nests left,
      numbers_nest ringed,
      numbers_nest missed,
      uses_nest disagreeing,
    )
