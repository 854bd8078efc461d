-- The marks of a packet's locations, gathered one after another.
use Rattle.std.proofs.Common.{◌≡◌, ℕ, suc, ◌+◌, ◌-◌, ◌<◌, ◌≤◌, false, Bool, List, [], ◌∷◌, ◌++◌, length, take, map, replicate, arith, sym, ap, ◌∙◌, append_assoc}
use Rattle.std.specs.Prelude.{slice_set, slice_index_or}
use Rattle.std.proofs.lemmas.List.{length-map, length-take-le, map-append, take_more}
use Rattle.std.proofs.Math.Seq.{set-append_seam}
use Rattle.model.specs.declared.world.Location.{Location}
use Rattle.model.specs.declared.limits.TheConstants.{MAX_STACK}

-- those of the first locations, and none yet of the others
abbrev pub marks_so_far : List Location → ℕ → List Bool
marks_so_far locations place =
    map (λ l. l.marked) (take place locations) ++ replicate (MAX_STACK - place) false

-- a place further
set_at : (xs ys : List Bool) (place : ℕ) (b : Bool) → length xs ≡ place
    → slice_set (xs ++ false ∷ ys) place b ≡ xs ++ b ∷ ys
set_at xs ys place b h = rw (← h) (set-append_seam xs false ys b)

pub marks_on : (locations : List Location) (place : ℕ) (marks : List Bool) (l : Location) (b : Bool)
    → length locations ≤ MAX_STACK → place < length locations
    → l ≡ slice_index_or locations place l → b ≡ l.marked → marks ≡ marks_so_far locations place
    → slice_set marks place b ≡ marks_so_far locations (place + 1)
marks_on locations place marks l b few inside there is before =
    let xs : List Bool = map (λ (x : Location). x.marked) (take place locations) in
    let left : MAX_STACK - place ≡ suc (MAX_STACK - (place + 1)) = omega arith in
    let ys : List Bool = replicate (MAX_STACK - (place + 1)) false in
    let long : length xs ≡ place = length-map (take place locations) (λ (x : Location). x.marked)
    ∙ length-take-le place locations (omega arith) in
    let split : marks ≡ xs ++ false ∷ ys = before ∙ ap (λ (n : ℕ). xs ++ replicate n false) left in
    let put : slice_set marks place b ≡ xs ++ b ∷ ys = rw split (set_at xs ys place b long) in
    let more : take (place + 1) locations ≡ take place locations ++ l ∷ [] =
    take_more locations place l inside
    ∙ ap (λ (x : Location). take place locations ++ x ∷ []) (sym there) in
    let maps : map (λ (x : Location). x.marked) (take (place + 1) locations) ≡ xs ++ b ∷ [] =
    ap (λ (ls : List Location). map (λ (x : Location). x.marked) ls) more
    ∙ map-append (λ (x : Location). x.marked) (take place locations) (l ∷ [])
    ∙ ap (λ (x : Bool). xs ++ x ∷ []) (sym is) in
    put ∙ sym (ap (λ (zs : List Bool). zs ++ ys) maps ∙ append_assoc xs (b ∷ []) ys)
