-- The numbers of the packets that a line names.
use Rattle.std.proofs.Common.{◌≡◌, ◌∙◌, ◌<◌, ◌≤◌, ◌+◌, ◌++◌, ℕ, suc, List, [], ◌∷◌, Option, None, Some, ap, arith, append_assoc, drop, get_or, length, subst, sym}
use Rattle.std.proofs.Math.Seq.{drop-cons}
use Rattle.std.proofs.lemmas.List.{append-nil, drop_all}
use Rattle.scenario_run.specs.Holding.{numbers_of}
use Rattle.scenario_run.specs.Playing.{Playing, number_of}

pub numbers_some : (p : Playing) (packets : List (Option ℕ)) (i packet : ℕ) (d : Option ℕ)
    (ns all : List (Option ℕ)) → i < length packets → get_or packets i d ≡ Some packet
    → ns ++ numbers_of p (drop i packets) ≡ all
    → (ns ++ number_of p packet ∷ []) ++ numbers_of p (drop (i + 1) packets) ≡ all
numbers_some p packets i packet d ns all inside is was =
    let next : suc i ≡ i + 1 = omega arith in
    let rest : List (Option ℕ) = drop (suc i) packets in
    let left : numbers_of p (drop i packets) ≡ number_of p packet ∷ numbers_of p rest =
    ap (λ (ps : List (Option ℕ)). numbers_of p ps) (drop-cons packets i d inside)
    ∙ ap (λ (o : Option ℕ). numbers_of p (o ∷ rest)) is in
    subst (λ (k : ℕ). (ns ++ number_of p packet ∷ []) ++ numbers_of p (drop k packets) ≡ all) next
    (append_assoc ns (number_of p packet ∷ []) (numbers_of p rest)
    ∙ ap (λ (more : List (Option ℕ)). ns ++ more) (sym left) ∙ was)

pub numbers_none : (p : Playing) (packets : List (Option ℕ)) (i : ℕ) (d : Option ℕ)
    (ns all : List (Option ℕ)) → i < length packets → get_or packets i d ≡ None
    → ns ++ numbers_of p (drop i packets) ≡ all
    → ns ++ numbers_of p (drop (i + 1) packets) ≡ all
numbers_none p packets i d ns all inside is was =
    let next : suc i ≡ i + 1 = omega arith in
    let rest : List (Option ℕ) = drop (suc i) packets in
    let left : numbers_of p (drop i packets) ≡ numbers_of p rest =
    ap (λ (ps : List (Option ℕ)). numbers_of p ps) (drop-cons packets i d inside)
    ∙ ap (λ (o : Option ℕ). numbers_of p (o ∷ rest)) is in
    subst (λ (k : ℕ). ns ++ numbers_of p (drop k packets) ≡ all) next
    (ap (λ (more : List (Option ℕ)). ns ++ more) (sym left) ∙ was)

pub numbers_over : (p : Playing) (packets : List (Option ℕ)) (i : ℕ) (ns all : List (Option ℕ))
    → length packets ≤ i → ns ++ numbers_of p (drop i packets) ≡ all → ns ≡ all
numbers_over p packets i ns all over was =
    sym (append-nil ns)
    ∙ sym (ap (λ (ps : List (Option ℕ)). ns ++ numbers_of p ps) (drop_all i packets over))
    ∙ was
