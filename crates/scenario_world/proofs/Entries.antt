-- The entries of a list, one after another.
use Rattle.std.proofs.Common.{inl, inr, ◌≡◌, ◌∙◌, ◌<◌, ◌≤◌, ◌+◌, ◌&&◌, ℕ, zero, suc, Bool, true, false, List, [], ◌∷◌, Option, None, Some, ap, arith, drop, get_or, length, nat_eq, refl, slice_get, subst, sym}
use Rattle.std.proofs.Math.Seq.{drop-cons}
use Rattle.std.proofs.lemmas.Bool.Decides.{eqb_tells}
use Rattle.std.proofs.lemmas.List.{drop_all}
use Rattle.std.proofs.lemmas.Option.{slice_get_within}
use Rattle.scenario_world.specs.Expected.{are_entries, has_at}

-- where entries and numbers are left, by the entry at the place
first_by : (es : List ℕ) (k : ℕ) (n : Option ℕ) (ns : List (Option ℕ))
    → are_entries (drop k es) (n ∷ ns)
    ≡ (has_at (slice_get es k) n && are_entries (drop (suc k) es) ns)
first_by [] zero n ns = refl
first_by [] (suc k) n ns = refl
first_by (e ∷ es) zero n ns = refl
first_by (e ∷ es) (suc k) n ns = first_by es k n ns

there : (es : List ℕ) (ns : List (Option ℕ)) (k i : ℕ) (d : Option ℕ) → i < length ns
    → are_entries (drop k es) (drop i ns)
    ≡ (has_at (slice_get es k) (get_or ns i d) && are_entries (drop (suc k) es) (drop (suc i) ns))
there es ns k i d inside =
    ap (λ (left : List (Option ℕ)). are_entries (drop k es) left) (drop-cons ns i d inside)
    ∙ first_by es k (get_or ns i d) (drop (suc i) ns)

pub entry_on : (es : List ℕ) (ns : List (Option ℕ)) (k i : ℕ) (d : Option ℕ) → i < length ns
    → has_at (slice_get es k) (get_or ns i d) ≡ true
    → are_entries (drop (k + 1) es) (drop (i + 1) ns) ≡ are_entries (drop k es) (drop i ns)
entry_on es ns k i d inside on =
    let place : suc k ≡ k + 1 = omega arith in
    let next : suc i ≡ i + 1 = omega arith in
    let rest : Bool = are_entries (drop (suc k) es) (drop (suc i) ns) in
    subst (λ (m : ℕ). are_entries (drop m es) (drop (i + 1) ns)
    ≡ are_entries (drop k es) (drop i ns)) place
    (subst (λ (m : ℕ). are_entries (drop (suc k) es) (drop m ns)
    ≡ are_entries (drop k es) (drop i ns)) next
    (ap (λ (b : Bool). b && rest) (sym on) ∙ sym (there es ns k i d inside)))

pub entry_off : (es : List ℕ) (ns : List (Option ℕ)) (k i : ℕ) (d : Option ℕ) → i < length ns
    → has_at (slice_get es k) (get_or ns i d) ≡ false
    → false ≡ are_entries (drop k es) (drop i ns)
entry_off es ns k i d inside off =
    let rest : Bool = are_entries (drop (suc k) es) (drop (suc i) ns) in
    ap (λ (b : Bool). b && rest) (sym off) ∙ sym (there es ns k i d inside)

-- so there is an entry
at_within : (es : List ℕ) (k : ℕ) (n : Option ℕ) (o : Option ℕ) → slice_get es k ≡ o
    → has_at o n ≡ true → k + 1 ≤ length es
at_within es k n None at on = let never : false ≡ true = on in cc
at_within es k n (Some e) at on =
    let inside : k < length es = slice_get_within es k e at in omega (arith, inside)

pub entry_within : (es : List ℕ) (k : ℕ) (n : Option ℕ) → has_at (slice_get es k) n ≡ true
    → k + 1 ≤ length es
entry_within es k n on = at_within es k n (slice_get es k) refl on

-- no number is left
none_left : (es : List ℕ) (k : ℕ) → length es ≤ k → true ≡ are_entries (drop k es) []
none_left es k over =
    ap (λ (left : List ℕ). are_entries left []) (sym (drop_all k es over))

some_left : (es : List ℕ) (k : ℕ) → k < length es → false ≡ are_entries (drop k es) []
some_left es k inside =
    ap (λ (left : List ℕ). are_entries left []) (sym (drop-cons es k 0 inside))

left_by : (es : List ℕ) (k : ℕ) → k ≤ length es
    → nat_eq k (length es) ≡ are_entries (drop k es) []
left_by es k few = elim (eqb_tells k (length es)) [
  | inl p ↦ p.0 ∙ none_left es k (omega (arith, p.1))
  | inr p ↦ p.0 ∙ some_left es k (omega (arith, p.1, few))
]

pub entries_over : (es : List ℕ) (ns : List (Option ℕ)) (k i : ℕ) → length ns ≤ i → k ≤ length es
    → nat_eq k (length es) ≡ are_entries (drop k es) (drop i ns)
entries_over es ns k i over few =
    left_by es k few
    ∙ sym (ap (λ (left : List (Option ℕ)). are_entries (drop k es) left) (drop_all i ns over))
