-- Lists of one element.
use Rattle.std.proofs.Common.{◌≡◌, ◌∙◌, List, [], ◌∷◌, ap, get_or, length, map, refl}

one_mapped : {A B : Type 0} (f : A → B) (xs : List A) (d : A) → length xs ≡ 1
    → map f xs ≡ f (get_or xs 0 d) ∷ []
one_mapped f [] d one = cc
one_mapped f (x ∷ []) d one = refl
one_mapped f (x ∷ y ∷ xs) d one = cc

-- it is the first
pub one_is : {A B : Type 0} (f : A → B) (xs : List A) (d : A) (b : B) → length xs ≡ 1
    → f (get_or xs 0 d) ≡ b → map f xs ≡ b ∷ []
one_is f xs d b one is = one_mapped f xs d one ∙ ap (λ y. y ∷ []) is

-- a list that is mapped to one has one
pub has_one : {A B : Type 0} (f : A → B) (xs : List A) (b : B) → map f xs ≡ b ∷ []
    → length xs ≡ 1
has_one f [] b e = cc
has_one f (x ∷ []) b e = refl
has_one f (x ∷ y ∷ xs) b e = cc

-- and that is it
pub first_is : {A B : Type 0} (f : A → B) (xs : List A) (d : A) (b : B) → map f xs ≡ b ∷ []
    → f (get_or xs 0 d) ≡ b
first_is f [] d b e = cc
first_is f (x ∷ xs) d b e = ap (λ l. get_or l 0 b) e
