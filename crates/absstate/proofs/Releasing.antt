-- The registers that a release goes over, one by one.
use Rattle.std.proofs.Common.{◌≡◌, ◌∙◌, ◌+◌, ◌<◌, ◌≤◌, ◌++◌, ℕ, suc, List, [], ◌∷◌, length, take, set, get_or, false, refl, sym, ap, arith}
use Rattle.std.specs.Prelude.{drop}
use Rattle.std.proofs.Math.Seq.{drop-cons}
use Rattle.std.proofs.lemmas.List.{take_more_set, drop-set-lt, append_assoc, append-nil, take_all, drop_all}
use Rattle.std.specs.List.{list_any}
use Rattle.model.specs.declared.abs.Kind.{Kind}
use Rattle.model.specs.declared.abs.Kind.TheVariants.{Queued}
use Rattle.model.specs.declared.set.Guard.{Guard}
use Rattle.model.specs.Kinds.{needs_guard, let_go, all_let_go}
use Rattle.model.specs.Set.{Set}
use Rattle.absstate.specs.Same.{has_list}

-- one register more is let go
pub let_go_next : (s : Set) (driver : ℕ) (lock : Guard) (kinds first : List Kind) (i : ℕ)
    (d new : Kind)
    → i < length kinds → new ≡ let_go s driver lock (get_or kinds i d)
    → take i kinds ++ all_let_go s driver lock (drop i kinds) ≡ all_let_go s driver lock first
    → take (i + 1) (set kinds i new) ++ all_let_go s driver lock (drop (i + 1) (set kinds i new))
    ≡ all_let_go s driver lock first
let_go_next s driver lock kinds first i d new within right before =
    let one : i + 1 ≡ suc i = omega arith in
    let rest : drop (i + 1) (set kinds i new) ≡ drop (suc i) kinds =
    drop-set-lt (i + 1) kinds i new (omega arith) ∙ ap (λ (n : ℕ). drop n kinds) one in
    let after : List Kind = all_let_go s driver lock (drop (suc i) kinds) in
    ap (λ (xs : List Kind). xs ++ all_let_go s driver lock (drop (i + 1) (set kinds i new)))
    (take_more_set kinds i new within)
    ∙ ap (λ (xs : List Kind). (take i kinds ++ new ∷ []) ++ all_let_go s driver lock xs) rest
    ∙ append_assoc (take i kinds) (new ∷ []) after
    ∙ ap (λ (kind : Kind). take i kinds ++ kind ∷ after) right
    ∙ ap (λ (xs : List Kind). take i kinds ++ all_let_go s driver lock xs)
    (sym (drop-cons kinds i d within))
    ∙ before

-- when all are
pub let_go_over : (s : Set) (driver : ℕ) (lock : Guard) (kinds first : List Kind) (i : ℕ)
    → length kinds ≤ i
    → take i kinds ++ all_let_go s driver lock (drop i kinds) ≡ all_let_go s driver lock first
    → kinds ≡ all_let_go s driver lock first
let_go_over s driver lock kinds first i over before =
    sym (ap (λ (xs : List Kind). xs ++ all_let_go s driver lock (drop i kinds))
    (take_all i kinds over)
    ∙ ap (λ (xs : List Kind). kinds ++ all_let_go s driver lock xs) (drop_all i kinds over)
    ∙ append-nil kinds)
    ∙ before

-- where no register names a list, nothing is let go, and none needs a lock
pub none_let_go : (s : Set) (driver : ℕ) (lock : Guard) (kinds : List Kind)
    → list_any has_list kinds ≡ false → kinds ≡ all_let_go s driver lock kinds
none_let_go s driver lock [] none = refl
none_let_go s driver lock (Queued name stage ∷ kinds) none = cc
none_let_go s driver lock (kind ∷ kinds) none =
    ap (λ (rest : List Kind). kind ∷ rest) (none_let_go s driver lock kinds none)

pub none_in_need : (s : Set) (driver : ℕ) (lock : Guard) (kinds : List Kind)
    → list_any has_list kinds ≡ false → false ≡ list_any (needs_guard s driver lock) kinds
none_in_need s driver lock [] none = refl
none_in_need s driver lock (Queued name stage ∷ kinds) none = cc
none_in_need s driver lock (kind ∷ kinds) none = none_in_need s driver lock kinds none
