-- What a table says of its positions.
use Rattle.std.proofs.Common.{◌≡◌, ℕ, zero, suc, ◌<◌, ◌≤◌, Bool, true, false, List, [], ◌∷◌, ◌++◌, ◌-◌, ◌∙◌, length, take, slice_index_or, slice_set, refl, arith, ap}
use Rattle.std.proofs.lemmas.List.{take_all}
use Rattle.std.specs.Prelude.{replicate}
use Rattle.verifier.specs.declared.seen.Seen.{Seen}
use Rattle.verifier.specs.declared.seen.Seen.TheVariants.{Nothing}
use Rattle.verifier.specs.Table.{seen_where}

pub where_long : (noted : List Bool) (kept : List Seen)
    → length (seen_where noted kept) ≡ length noted
where_long [] kept = refl
where_long (b ∷ bs) [] = ap suc (where_long bs [])
where_long (b ∷ bs) (seen ∷ kept) = ap suc (where_long bs kept)

-- what is kept counts where it is noted
pub where_noted : (noted : List Bool) (kept : List Seen) (p : ℕ) (d : Seen)
    → length noted ≤ length kept → p < length noted → slice_index_or noted p false ≡ true
    → slice_index_or (seen_where noted kept) p Nothing ≡ slice_index_or kept p d
where_noted [] kept p d long within here = let never : ⊥ = omega (arith, within) in absurd never
where_noted (b ∷ bs) [] p d long within here = let never : ⊥ = omega (arith, long) in absurd never
where_noted (b ∷ bs) (seen ∷ kept) zero d long within here = rw here refl
where_noted (b ∷ bs) (seen ∷ kept) (suc p) d long within here =
    where_noted bs kept p d (omega (arith, long)) (omega (arith, within)) here

-- and nothing has been seen elsewhere
pub where_nothing : (noted : List Bool) (kept : List Seen) (p : ℕ)
    → slice_index_or noted p false ≡ false
    → slice_index_or (seen_where noted kept) p Nothing ≡ Nothing
where_nothing [] kept p here = refl
where_nothing (b ∷ bs) [] zero here = refl
where_nothing (b ∷ bs) [] (suc p) here = where_nothing bs [] p here
where_nothing (b ∷ bs) (seen ∷ kept) zero here = rw here refl
where_nothing (b ∷ bs) (seen ∷ kept) (suc p) here = where_nothing bs kept p here

pub where_put : (noted : List Bool) (kept : List Seen) (p : ℕ) (seen : Seen)
    → length noted ≤ length kept
    → seen_where (slice_set noted p true) (slice_set kept p seen)
    ≡ slice_set (seen_where noted kept) p seen
where_put [] kept p seen long = refl
where_put (b ∷ bs) [] p seen long = let never : ⊥ = omega (arith, long) in absurd never
where_put (b ∷ bs) (old ∷ kept) zero seen long = refl
where_put (b ∷ bs) (old ∷ kept) (suc p) seen long =
    rw (where_put bs kept p seen (omega (arith, long))) refl

-- where none is noted, nothing has been seen
where_none : (n : ℕ) (kept : List Seen)
    → seen_where (replicate n false) kept ≡ replicate n Nothing
where_none zero kept = refl
where_none (suc n) [] = rw (where_none n []) refl
where_none (suc n) (seen ∷ kept) = rw (where_none n kept) refl

pub opened : (noted before : List Bool) (kept : List Seen) (n count : ℕ) → before ≡ []
    → count ≡ 0 → noted ≡ take n before ++ replicate (n - count) false
    → seen_where noted kept ≡ replicate n Nothing
opened noted before kept n count none zeroed made =
    let all : n - 0 ≡ n = omega arith in
    let clear : noted ≡ replicate n false =
    made ∙ rw (none, zeroed, all, take_all {A = Bool} n [] (omega arith)) refl in
    ap (λ (flags : List Bool). seen_where flags kept) clear ∙ where_none n kept
