-- Names and their numbers, and the uses of names that are missed.
use Rattle.std.proofs.Common.{◌≡◌, ℕ, zero, suc, ◌+◌, ◌<◌, Bool, true, false, not, ◌||◌, List, [], ◌∷◌, length, Option, Some, None, IfSome, refl, ap, arith}
use Rattle.std.specs.Prelude.{slice_get, unwrap_or, bytes_eq, nat_lt, position, if◌then◌else◌}
use Rattle.std.specs.List.{list_any, position_or_len}
use Rattle.std.proofs.lemmas.List.Quantifiers.{position-Some}
use Rattle.std.proofs.lemmas.Bool.Decides.{nat_tests}
use Rattle.asm.specs.declared.draft.Step.{Step}
use Rattle.asm.specs.declared.names.Use.{Use}
use Rattle.asm.specs.Outline.{is_among, number_of, missed, missed_from, missed_uses, earliest}

-- a number that a name has is below the count of names
pub number_below : (names : List (List ℕ)) (name : List ℕ)
    → IfSome (number_of names name) (λ n. n < length names)
number_below names name = below (position (bytes_eq name) names) refl
  where
    below : (o : Option ℕ) → position (bytes_eq name) names ≡ o → IfSome o (λ n. n < length names)
    below None e = tt
    below (Some n) e = (position-Some (bytes_eq name) names n [] e).0

any_within : {X : Type 0} (p : X → Bool) (xs : List X) → list_any p xs ≡ true
    → position_or_len p xs < length xs
any_within p [] h = cc
any_within p (x ∷ xs) h = by (p x) (any_within p xs) h
  where
    by : (b : Bool) → (list_any p xs ≡ true → position_or_len p xs < length xs)
        → (b || list_any p xs) ≡ true → (if not b then 1 + position_or_len p xs else 0)
        < suc (length xs)
    by true rest h = omega arith
    by false rest h = let within = rest h in omega (arith, within)

-- a name that is among these has a number
pub number_there : (names : List (List ℕ)) (name : List ℕ) → is_among names name ≡ true
    → number_of names name ≡ Some (position_or_len (bytes_eq name) names)
number_there names name h =
    let within = any_within (bytes_eq name) names h in
    let test : nat_lt (position_or_len (bytes_eq name) names) (length names) ≡ true =
    grind (arith, nat_tests, within) in
    ap (λ (b : Bool). if b then Some (position_or_len (bytes_eq name) names) else None) test

-- a name that isn't among these has none
none_within : {X : Type 0} (p : X → Bool) (xs : List X) → list_any p xs ≡ false
    → position_or_len p xs ≡ length xs
none_within p [] h = refl
none_within p (x ∷ xs) h = by (p x) (none_within p xs) h
  where
    by : (b : Bool) → (list_any p xs ≡ false → position_or_len p xs ≡ length xs)
        → (b || list_any p xs) ≡ false → (if not b then 1 + position_or_len p xs else 0)
        ≡ suc (length xs)
    by true rest h = cc
    by false rest h = let all = rest h in omega (arith, all)

number_gone : (names : List (List ℕ)) (name : List ℕ) → is_among names name ≡ false
    → number_of names name ≡ None
number_gone names name h =
    let none = none_within (bytes_eq name) names h in
    let test : nat_lt (position_or_len (bytes_eq name) names) (length names) ≡ false =
    grind (arith, nat_tests, none) in
    ap (λ (b : Bool). if b then Some (position_or_len (bytes_eq name) names) else None) test

-- so a name is missed exactly if it has no number
numbered : (names : List (List ℕ)) (name : List ℕ) (n : ℕ) (b : Bool)
    → is_among names name ≡ b → number_of names name ≡ Some n → b ≡ true
numbered names name n true is h = refl
numbered names name n false is h = let gone = number_gone names name is in cc

unnumbered : (names : List (List ℕ)) (name : List ℕ) (b : Bool)
    → is_among names name ≡ b → number_of names name ≡ None → b ≡ false
unnumbered names name true is h = let there = number_there names name is in cc
unnumbered names name false is h = refl

pub found_missed : (names : List (List ℕ)) (u : Use) (n : ℕ) → number_of names u.name ≡ Some n
    → missed names (Some u) ≡ None
found_missed names u n h =
    rw (numbered names u.name n (is_among names u.name) refl h) refl

pub unfound_missed : (names : List (List ℕ)) (u : Use) → number_of names u.name ≡ None
    → missed names (Some u) ≡ Some u.line
unfound_missed names u h =
    rw (unnumbered names u.name (is_among names u.name) refl h) refl

pub earliest_none : (found : Option ℕ) → earliest found None ≡ found
earliest_none None = refl
earliest_none (Some line) = refl

-- a name that isn't missed is among these
pub is_there : (known : Bool) (line : ℕ) → (if known then None else Some line) ≡ None → known ≡ true
is_there true line h = refl
is_there false line h = cc

-- where the earliest of two lines isn't there, neither is
pub neither : (a b : Option ℕ) → earliest a b ≡ None → (a ≡ None) × (b ≡ None)
neither None b h = (refl, h)
neither (Some a) None h = cc
neither (Some a) (Some b) h = cc

pub none_before : (labels : List (List ℕ)) (found : Option ℕ) (steps : List Step)
    → missed_from labels found steps ≡ None → found ≡ None
none_before labels found [] h = h
none_before labels found (s ∷ ss) h =
    (neither found (missed labels s.label)
    (none_before labels (earliest found (missed labels s.label)) ss h)).0

-- where no use is missed, each of them is of a name that is there
none_found : (names : List (List ℕ)) (found : Option ℕ) (uses : List Use)
    → missed_uses names found uses ≡ None → found ≡ None
none_found names found [] h = h
none_found names found (u ∷ us) h =
    (neither found (missed names (Some u))
    (none_found names (earliest found (missed names (Some u))) us h)).0

pub use_known : (names : List (List ℕ)) (found : Option ℕ) (uses : List Use) (place : ℕ)
    → missed_uses names found uses ≡ None → place < length uses
    → (u : Use) × (slice_get uses place ≡ Some u) × (is_among names u.name ≡ true)
use_known names found [] place h inside = absurd (omega (arith, inside))
use_known names found (u ∷ us) zero h inside =
    let here = (neither found (missed names (Some u))
    (none_found names (earliest found (missed names (Some u))) us h)).1 in
    (u, refl, is_there (is_among names u.name) u.line here)
use_known names found (u ∷ us) (suc place) h inside =
    use_known names (earliest found (missed names (Some u))) us place h (omega (arith, inside))

-- so its number is below the count of names
pub number_within : (names : List (List ℕ)) (name : List ℕ) → is_among names name ≡ true
    → unwrap_or (number_of names name) 0 < length names
number_within names name h =
    rw (number_there names name h) (any_within (bytes_eq name) names h)
