-- Where lines stand, and the instruction of a refusal.
use Rattle.std.proofs.Common.{◌≡◌, ◌∙◌, ◌-◌, ◌+◌, ◌<◌, ℕ, suc, List, [], ◌∷◌, Option, arith, None, Some, ap, option_and_then, option_map, slice_get, subst, sym}
use Rattle.std.proofs.lemmas.List.Elements.{All-get_or}
use Rattle.std.proofs.lemmas.Option.{slice_get-get_or, slice_get-map, slice_get_within}
use Rattle.std.specs.Prelude.{All, get_or, unwrap_or}
use Rattle.text.specs.declared.spot.Spot.{Spot}
use Rattle.text.specs.Places.{IsIn, numbers}
use Rattle.text.specs.Cut.{lines_of}
use Rattle.answer_explain.specs.Regions.{region_at, region_on}

-- one of them stands in the text
pub spot_there : (text : List ℕ) (spots : List Spot) (at : ℕ) (spot : Spot)
    → All (IsIn 0 text) spots → slice_get spots at ≡ Some spot → IsIn 0 text spot
spot_there text spots at spot all got =
    let within = slice_get_within spots at spot got in
    let same : get_or spots at spot ≡ spot =
    ap (λ (o : Option Spot). unwrap_or o spot)
    (sym (slice_get-get_or spots at spot within) ∙ got) in
    subst (IsIn 0 text) same (All-get_or (IsIn 0 text) spots at spot within all)

-- the region of one of them
pub region_of_spot : (text : List ℕ) (spots : List Spot) (at : ℕ) (spot : Spot) (raw : List ℕ)
    → slice_get spots at ≡ Some spot → Some raw ≡ slice_get (lines_of text) (spot.number - 0 - 1)
    → Some (region_on spot.number raw)
    ≡ option_and_then (region_at text) (slice_get (numbers spots) at)
region_of_spot text spots at spot raw got line =
    let nothing_off : spot.number - 0 ≡ spot.number = omega arith in
    let numbered : slice_get (numbers spots) at ≡ Some spot.number =
    slice_get-map (λ (spot : Spot). spot.number) spots at
    ∙ ap (option_map (λ (spot : Spot). spot.number)) got in
    ap (option_map (region_on spot.number))
    (line ∙ ap (λ (i : ℕ). slice_get (lines_of text) (i - 1)) nothing_off)
    ∙ sym (ap (option_and_then (region_at text)) numbered)

-- line after line: what is sought is a line nearer
get_behind : {A : Type 0} (x : A) (xs : List A) (m p : ℕ) → m ≡ suc p
    → slice_get (x ∷ xs) m ≡ slice_get xs p
get_behind x xs m p e = ap (slice_get (x ∷ xs)) e

pub at_next : (lines left rest : List (List ℕ)) (line : List ℕ) (k n i : ℕ)
    → slice_get left (n - k) ≡ slice_get lines i → left ≡ line ∷ rest → k < n
    → slice_get rest (n - (k + 1)) ≡ slice_get lines i
at_next lines left rest line k n i so is h =
    sym (get_behind line rest (n - k) (n - (k + 1)) (omega (arith, h)))
    ∙ ap (λ (l : List (List ℕ)). slice_get l (n - k)) (sym is) ∙ so

pub none_at : (text : List ℕ) (left : List (List ℕ)) (k n : ℕ)
    → slice_get left k ≡ slice_get (lines_of text) (n - 1) → left ≡ [] → None ≡ region_at text n
none_at text left k n so is =
    ap (option_map (region_on n)) (sym (ap (λ (l : List (List ℕ)). slice_get l k) is) ∙ so)

pub some_at : (text : List ℕ) (left rest : List (List ℕ)) (raw : List ℕ) (k n : ℕ)
    → slice_get left k ≡ slice_get (lines_of text) (n - 1) → k ≡ 0 → left ≡ raw ∷ rest
    → Some (region_on n raw) ≡ region_at text n
some_at text left rest raw k n so none is =
    ap (option_map (region_on n))
    (sym (ap (λ (l : List (List ℕ)). slice_get l 0) is) ∙ ap (slice_get left) (sym none) ∙ so)
