-- What is known of an answer that is a value that was known.
use Rattle.std.proofs.Common.{subst, sym, ◌≡◌}
use Rattle.std.specs.Prelude.{IfOk, OnOk, Result, Ok, Err}

pub on_ok : {T E : Type 0} (r : Result T E) (t : T) (P : T → Type 0) (Q : Type 0)
    → IfOk r (λ x. x ≡ t) → OnOk r Q → (Q → P t) → IfOk r P
on_ok (Ok x) t P Q same some its = subst P (sym same) (its some)
on_ok (Err e) t P Q same some its = tt

pub if_ok_then : {T E : Type 0} (r : Result T E) (P Q : T → Type 0)
    → ((x : T) → P x → Q x) → IfOk r P → IfOk r Q
if_ok_then (Ok x) P Q more its = more x its
if_ok_then (Err e) P Q more its = tt
