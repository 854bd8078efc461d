-- Lists of commands: one longer, one shorter, and whose counts are known.
use Rattle.std.proofs.Common.{◌≡◌, ℕ, zero, suc, ◌≤◌, ◌⊎◌, inl, inr, ⊎_elim, List, [], ◌∷◌, ◌++◌, length, get_or, refl, ap, arith}
use Rattle.std.specs.Prelude.{All, Some}
use Rattle.std.specs.List.{slice_get}
use Rattle.std.proofs.lemmas.Option.{get_or_from_slice_get}
use Rattle.model.specs.History.{NamedCommand}
use Rattle.intake.specs.Lists.{IsEarlier, IsInOrder}
use Rattle.intake.specs.Rule.{AreCounted, IsBefore}

-- at the end of a longer list stands what was put there
pub get_push : {A : Type 0} (xs : List A) (x y : A) (i : ℕ) → slice_get (xs ++ x ∷ []) i ≡ Some y
    → (slice_get xs i ≡ Some y) ⊎ ((i ≡ length xs) × (x ≡ y))
get_push [] x y zero e = inr (refl, get_or_from_slice_get (x ∷ []) 0 y x e)
get_push [] x y (suc i) e = inl e
get_push (z ∷ zs) x y zero e = inl e
get_push (z ∷ zs) x y (suc i) e =
    ⊎_elim (λ h. inl h) (λ h. inr (ap suc h.0, h.1)) (get_push zs x y i e)

-- the first of a list in order is before all others, which are in order too
pub first_before : (x : NamedCommand) (xs : List NamedCommand) → IsInOrder (x ∷ xs)
    → IsBefore xs x
first_before x xs pairs k d h = pairs zero (suc k) d (omega arith) (omega (arith, h))

pub rest_in_order : (x : NamedCommand) (xs : List NamedCommand) → IsInOrder (x ∷ xs)
    → IsInOrder xs
rest_in_order x xs pairs i j d lt h = pairs (suc i) (suc j) d (omega arith) (omega (arith, h))

-- a command with the count of its submitter is later than all that are counted
pub behind : (counts : ℕ → ℕ) (x : NamedCommand) (ys : List NamedCommand)
    → counts x.name.submitter ≤ x.name.count → AreCounted counts ys
    → All (λ y. IsEarlier y x) ys
behind counts x ys least counted k d h same =
    let below = counted k d h in
    let e = ap counts same in
    omega (arith, below, e, least)

-- what is counted is so under greater counts
pub more : (counts later : ℕ → ℕ) → ((s : ℕ) → counts s ≤ later s) → (ys : List NamedCommand)
    → AreCounted counts ys → AreCounted later ys
more counts later grows ys counted k d h =
    let a = counted k d h in
    let b = grows (get_or ys k d).name.submitter in
    omega (arith, a, b)
