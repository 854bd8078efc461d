-- What an edition of images has: everything in the second, and in the first nothing that only a set
-- of the second edition has.
use Rattle.std.proofs.Common.{◌≡◌, ℕ, zero, suc, ◌||◌, Bool, true, false, List, [], ◌∷◌, Ok, refl, subst}
use Rattle.std.specs.Prelude.{⊤, if◌then◌else◌}
use Rattle.std.specs.List.{list_any, AllByRecursion}
use Rattle.image.specs.declared.edition.Edition.{Edition}
use Rattle.image.specs.declared.edition.Edition.TheVariants.{Former, Current}
use Rattle.image.specs.Reading.{Read, all_at}
use Rattle.image.specs.Spelling.{HasSpelling}
use Rattle.image.proofs.Numbers.{bind_ok, ok_is}
use Rattle.model.specs.Edition.{is_of_second}
use Rattle.model.specs.Set.{Set}

-- an edition has what is or isn't of the second alone
abbrev pub Has : Edition → Bool → Type 0
Has Former later = later ≡ false
Has Current later = ⊤

-- neither of two things, and each of them
pub has_both : (edition : Edition) (a b : Bool) → Has edition (a || b)
    → Has edition a × Has edition b
has_both Former true b h = absurd cc
has_both Former false b h = (refl, h)
has_both Current a b h = (tt, tt)

pub both_had : (edition : Edition) (a b : Bool) → Has edition a → Has edition b
    → Has edition (a || b)
both_had Former true b h k = absurd cc
both_had Former false b h k = k
both_had Current a b h k = tt

-- each of a list
pub has_each : {A : Type 0} (edition : Edition) (later : A → Bool) (xs : List A)
    → Has edition (list_any later xs) → AllByRecursion (λ x. Has edition (later x)) xs
has_each edition later [] h = tt
has_each edition later (x ∷ xs) h =
    let both = has_both edition (later x) (list_any later xs) h in
    (both.0, has_each edition later xs both.1)

has_none : {A : Type 0} (edition : Edition) (later : A → Bool) → Has edition (list_any later [])
has_none Former later = refl
has_none Current later = tt

-- what is read of a kind, each thing by itself and all of them
abbrev pub EachHad : {A : Type 0} → Edition → (ℕ → List ℕ → Read A) → (A → Bool) → Type 0
EachHad {A} edition item later = (number : ℕ) (bytes : List ℕ) (x : A × List ℕ)
    → item number bytes ≡ Ok x → Has edition (later x.0)

pub all_had : {A : Type 0} (edition : Edition) (item : ℕ → List ℕ → Read A) (later : A → Bool)
    → EachHad edition item later → (number count : ℕ) (bytes : List ℕ) (x : List A × List ℕ)
    → all_at item number count bytes ≡ Ok x → Has edition (list_any later x.0)
unfolding all_at
all_had {A} edition item later each number zero bytes x e =
    subst (λ (y : List A × List ℕ). Has edition (list_any later y.0)) (ok_is ([], bytes) x e)
    (has_none edition later)
all_had {A} edition item later each number (suc count) bytes x e =
    let a = bind_ok (item number bytes) _ x e in
    let b = bind_ok (all_at item (suc number) count a.0.1) _ x a.2 in
    let made : List A × List ℕ = (a.0.0 ∷ b.0.0, b.0.1) in
    subst (λ (y : List A × List ℕ). Has edition (list_any later y.0)) (ok_is made x b.2)
    (both_had edition (later a.0.0) (list_any later b.0.0) (each number bytes a.0 a.1)
    (all_had edition item later each (suc number) count a.0.1 b.0 b.1))

-- a set that has a spelling in an edition
abbrev edition_by : Bool → ℕ
edition_by later = if later then 2 else 1

first_of : (b : Bool) → edition_by b ≡ 1 → b ≡ false
first_of true e = absurd cc
first_of false e = refl

pub has_set : (edition : Edition) (set : Set) → HasSpelling edition set
    → Has edition (list_any is_of_second set.drivers)
has_set Former set h = first_of (list_any is_of_second set.drivers) h
has_set Current set h = tt

pub set_had : (edition : Edition) (set : Set) → Has edition (list_any is_of_second set.drivers)
    → HasSpelling edition set
set_had Former set h = rw h refl
set_had Current set h = tt
