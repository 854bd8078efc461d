-- What comes after a slot in its list.
use Rattle.std.proofs.Common.{◌≡◌, ◌<◌, ◌≤◌, ◌+◌, ℕ, zero, suc, true, List, [], ◌∷◌, length, get_or, refl, ap, arith, nat_eq, Option, None, Some}
use Rattle.std.specs.Prelude.{slice_get}
use Rattle.std.proofs.lemmas.Bool.{eq-eqb}
use Rattle.model.specs.Queues.{is_linked}
use Rattle.devqueue.specs.Rings.{after}
use Rattle.devqueue.specs.Linked.{AreLinked, Path}
use Rattle.devqueue.proofs.Shown.{in_tail, list_within, listed_within}

-- what stands at a place is in the list
pub place_linked : (ns : List ℕ) (place n : ℕ) → slice_get ns place ≡ Some n
    → is_linked ns n ≡ true
place_linked [] place n found = absurd (cc)
place_linked (m ∷ ns) zero n found =
    let same : m ≡ n = cc in
    rw (eq-eqb m n same) refl
place_linked (m ∷ ns) (suc place) n found =
    in_tail (nat_eq m n) _ (place_linked ns place n found)

-- where a path goes on from a place, or its end
abbrev or_end : Option ℕ → ℕ → ℕ
or_end None to = to
or_end (Some n) to = n

first_next : (f : ℕ → ℕ) (n : ℕ) (ns : List ℕ) (to : ℕ) → Path f n ns to
    → f n ≡ or_end (slice_get ns 0) to
first_next f n [] to p = p
first_next f n (m ∷ ns) to p = p.0

path_next : (f : ℕ → ℕ) (from : ℕ) (ns : List ℕ) (to place n : ℕ) → Path f from ns to
    → slice_get ns place ≡ Some n → f n ≡ or_end (slice_get ns (suc place)) to
path_next f from [] to place n p found = absurd (cc)
path_next f from (m ∷ ns) to zero n p found =
    let same : m ≡ n = cc in
    rw (← same) (first_next f m ns to p.1)
path_next f from (m ∷ ns) to (suc place) n p found = path_next f m ns to place n p.1 found

module _ (nodes : List ℕ) (list_of : List (Option ℕ)) (lists : List (List ℕ))
    (linked : AreLinked nodes list_of lists) (l place s : ℕ)
    (found : slice_get (get_or lists l []) place ≡ Some s) where
  goes_on : after nodes s
      ≡ or_end (slice_get (get_or lists l []) (place + 1)) (length list_of + l)
  goes_on =
      let within : l < length lists = list_within nodes list_of lists linked l s (place_linked _ place s found) in
      let e : suc place ≡ place + 1 = omega arith in
      rw e at (path_next (after nodes) _ (get_or lists l []) _ place s (linked.paths l within) found)

  pub next_some : after nodes s < length list_of
      → Some (after nodes s) ≡ slice_get (get_or lists l []) (place + 1)
  next_some few = by (slice_get (get_or lists l []) (place + 1)) goes_on
    where
      by : (o : Option ℕ) → after nodes s ≡ or_end o (length list_of + l)
          → Some (after nodes s) ≡ o
      by None e = absurd (omega (arith, e, few))
      by (Some n) e = ap (λ (m : ℕ). Some m) e

  pub next_none : length list_of ≤ after nodes s
      → None ≡ slice_get (get_or lists l []) (place + 1)
  next_none past = by (slice_get (get_or lists l []) (place + 1)) refl goes_on
    where
      by : (o : Option ℕ) → slice_get (get_or lists l []) (place + 1) ≡ o
          → after nodes s ≡ or_end o (length list_of + l) → None ≡ o
      by None at e = refl
      by (Some n) at e =
          let few = listed_within nodes list_of lists linked l n (place_linked _ _ n at) in
          absurd (omega (arith, e, few, past))
