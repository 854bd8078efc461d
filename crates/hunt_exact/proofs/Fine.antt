-- Nothing is amiss in a world behind a reply.
use Rattle.laws_runs.proofs.Prelude.{ap, refl, subst, sym, ◌∙◌, Bool, List, None, Option, Some, [], false, is_some, length, not, true, ℕ, ◌∷◌, ◌≡◌, Set, World, Reply}
use Rattle.tell_audit.specs.declared.amiss.Amiss.{Amiss}
use Rattle.tell_audit.specs.declared.amiss.Amiss.TheVariants.{Disagrees}
use Rattle.tell_audit.specs.Ends.{first_of, or_amiss, stops_with}
use Rattle.hunt_exact.specs.Amiss.{amiss_at, is_sought}
use Rattle.model.specs.Trace.{Serving}
use Rattle.tell_audit.specs.declared.left.LeftLock.{LeftLock}
use Rattle.tell_audit.specs.Findings.{ringed_threads}
use Rattle.tell_audit.specs.Left.{left_locks}
use Rattle.tell_audit.specs.Naming.{lost_packets}

none_of : (o : Option Amiss) → is_some o ≡ false → o ≡ None
none_of None is = refl
none_of (Some amiss) is = cc

is_true : (b : Bool) → not b ≡ false → b ≡ true
is_true true is = refl
is_true false is = cc

pub none_amiss : (set : Set) (w : World) (reply : Reply) (stop fine : Bool) (lost : List ℕ)
    (left : List LeftLock) (ringed : List ℕ) → stop ≡ is_some (stops_with reply) → stop ≡ false
    → lost ≡ lost_packets w → left ≡ left_locks w (length set.devices)
    → ringed ≡ ringed_threads set w
    → (fine ≡ true → first_of lost left ringed [] ≡ None) → not fine ≡ false
    → amiss_at set w reply ≡ None
none_amiss set w reply stop fine lost left ringed tells goes losts lefts rings none is =
    let on : stops_with reply ≡ None = none_of (stops_with reply) (sym tells ∙ goes) in
    let first : first_of lost left ringed [] ≡ None = none (is_true fine is) in
    let all : first_of (lost_packets w) (left_locks w (length set.devices))
    (ringed_threads set w) [] ≡ None =
    subst (λ (xs : List ℕ). first_of xs (left_locks w (length set.devices))
    (ringed_threads set w) [] ≡ None) losts
    (subst (λ (xs : List LeftLock). first_of lost xs (ringed_threads set w) [] ≡ None) lefts
    (subst (λ (xs : List ℕ). first_of lost left xs [] ≡ None) rings first)) in
    ap (λ (o : Option Amiss). or_amiss o (first_of (lost_packets w)
    (left_locks w (length set.devices)) (ringed_threads set w) [])) on
    ∙ all

-- what an audit finds amiss, and is sought, is found without the uses of stack locations
pub sought_found : (stop : Option Amiss) (lost : List ℕ) (left : List LeftLock) (ringed : List ℕ)
    (uses : List Serving) (amiss : Amiss)
    → or_amiss stop (first_of lost left ringed uses) ≡ Some amiss → is_sought amiss ≡ true
    → or_amiss stop (first_of lost left ringed []) ≡ Some amiss
sought_found (Some stop) lost left ringed uses amiss is sought = is
sought_found None (n ∷ lost) left ringed uses amiss is sought = is
sought_found None [] (lock ∷ left) ringed uses amiss is sought = is
sought_found None [] [] (t ∷ ringed) uses amiss is sought = is
sought_found None [] [] [] [] amiss is sought = is
sought_found None [] [] [] (u ∷ uses) amiss is sought =
    let one : Disagrees u ≡ amiss = cc in
    let no : false ≡ true = ap is_sought one ∙ sought in cc
