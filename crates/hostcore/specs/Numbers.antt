-- Keys that are equal have the same number.
use Rattle.std.proofs.Common.{◌≡◌, ℕ, Bool, true, false}
use Rattle.std.specs.Prelude.{◌&&◌, IsTrue, nat_eq}
use Rattle.std.proofs.lemmas.Bool.{eqb-true}
use Rattle.model.specs.declared.history.Name.{Name}
use Rattle.model.specs.History.{is_name}

both_right : (a b : Bool) → IsTrue (a && b) → IsTrue b
both_right true b h = h
both_right false b h = cc

pub same_number : (a b : ℕ) → IsTrue (nat_eq a b) → a ≡ b
same_number a b h = eqb-true a b h

pub same_count : (a b : Name) → IsTrue (is_name a b) → a.count ≡ b.count
same_count a b h = eqb-true a.count b.count (both_right _ _ h)
