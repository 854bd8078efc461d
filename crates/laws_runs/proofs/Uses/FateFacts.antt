-- Facts of fates: where all are true, where they stay, and how a location that is marked or written
-- changes them.
use Rattle.laws_runs.proofs.Common.{ap, arith, get_or, inl, inr, refl, subst, sym, ◌∙◌, eq-eqb, eqb_tells, Bool, List, None, Option, Some, [], false, if◌then◌else◌, length, nat_eq, slice_get, slice_set, true, ℕ, ◌<◌, ◌||◌, ◌∷◌, ◌≡◌, ◌≤◌, copied_location, is_marked, unused_location, Completion, Location, set_same}
use Rattle.laws_runs.proofs.Room.Locations.{location_there}
use Rattle.laws_runs.proofs.Uses.Fates.{Falls, fate_in}

-- below a mark all are marked
pub fate_true : (used : List ℕ) (locations : List Location) (u : ℕ) (marked : Bool)
    → fate_in used locations true u ≡ Some marked → marked ≡ true
fate_true [] locations u marked h = cc
fate_true (v ∷ upper) locations u marked h =
    elim (eqb_tells v u) [
      | inl e ↦ let same : Some true ≡ Some marked = rw e.0 at h in let one : true ≡ marked =
          cc in sym one
      | inr e ↦ fate_true upper locations u marked (rw e.0 at h)
    ]

-- where the current location is marked, too
pub fate_marked : (used : List ℕ) (locations : List Location) (below : Bool) (u : ℕ) (marked : Bool)
    (v : ℕ)
    (upper : List ℕ)
    → used ≡ v ∷ upper → is_marked (slice_get locations (length upper)) ≡ true
    → fate_in used locations below u ≡ Some marked → marked ≡ true
fate_marked used locations below u marked v upper is here h =
    let start : fate_in (v ∷ upper) locations below u ≡ Some marked =
    subst (λ (all : List ℕ). fate_in all locations below u ≡ Some marked) is h in
    let below_true : (below || is_marked (slice_get locations (length upper))) ≡ true =
    rw here (elim below as (λ b. (b || true) ≡ true) [ true ↦ refl | false ↦ refl ]) in
    fate_true (v ∷ upper) locations u marked
    (elim (eqb_tells v u) [
      | inl e ↦ rw e.0 (let same : Some (below || is_marked (slice_get locations (length upper)))
          ≡ Some marked =
          rw e.0 at start in rw below_true at same)
      | inr e ↦ rw e.0
          (let rest : fate_in upper locations
          (below || is_marked (slice_get locations (length upper))) u
          ≡ Some marked = rw e.0 at start in rw below_true at rest)
    ])

-- fates are those of the marks
pub fate_same : (used : List ℕ) (locations others : List Location) (below : Bool) (u : ℕ)
    → ((k : ℕ) → k < length used → is_marked (slice_get others k)
    ≡ is_marked (slice_get locations k))
    → fate_in used others below u ≡ fate_in used locations below u
fate_same [] locations others below u h = refl
fate_same (v ∷ upper) locations others below u h =
    let here : is_marked (slice_get others (length upper))
    ≡ is_marked (slice_get locations (length upper)) =
    h (length upper) (omega arith) in
    rw here (ap (λ (rest : Option Bool). if nat_eq v u
    then Some (below || is_marked (slice_get locations (length upper))) else rest)
    (fate_same upper locations others (below || is_marked (slice_get locations (length upper))) u
    (λ k l. h k (omega arith))))

-- a use of these has a fate whatever is marked
pub fate_there : (used : List ℕ) (locations others : List Location) (below under : Bool) (u : ℕ)
    (marked : Bool)
    → fate_in used locations below u ≡ Some marked → (other : Bool)
    × (fate_in used others under u ≡ Some other)
fate_there [] locations others below under u marked h = cc
fate_there (v ∷ upper) locations others below under u marked h =
    elim (eqb_tells v u) [
      | inl e ↦ (under || is_marked (slice_get others (length upper)), rw e.0 refl)
      | inr e ↦ rw e.0
          (fate_there upper locations others
          (below || is_marked (slice_get locations (length upper)))
          (under || is_marked (slice_get others (length upper))) u marked (rw e.0 at h))
    ]

-- a later use has none
pub fate_absent : (bound : ℕ) (used : List ℕ) (locations : List Location) (below : Bool) (u : ℕ)
    → Falls bound used
    → bound ≤ u → fate_in used locations below u ≡ None
fate_absent bound [] locations below u h le = refl
fate_absent bound (v ∷ upper) locations below u h le =
    let l : v < bound = h.0 in
    elim (eqb_tells v u) [
      | inl e ↦ let same : v ≡ u = e.1 in absurd (omega arith)
      | inr e ↦ rw e.0
          (fate_absent v upper locations (below || is_marked (slice_get locations (length upper))) u
          h.1
          (omega arith))
    ]

pub fate_head : (u : ℕ) (upper : List ℕ) (locations : List Location) (below : Bool)
    → fate_in (u ∷ upper) locations below u
    ≡ Some (below || is_marked (slice_get locations (length upper)))
fate_head u upper locations below = rw (eq-eqb u u refl) refl

pub fate_rest : (v u : ℕ) (upper : List ℕ) (locations : List Location) (below : Bool)
    → nat_eq v u ≡ false
    → fate_in (v ∷ upper) locations below u
    ≡ fate_in upper locations (below || is_marked (slice_get locations (length upper))) u
fate_rest v u upper locations below h = rw h refl

-- a location of its own is unmarked
pub copied_unmarked : (o : Option Location) (device : ℕ) (completion : Option Completion)
    → (copied_location o device completion).marked ≡ false
copied_unmarked None device completion = refl
copied_unmarked (Some l) device completion = refl

pub written_unmarked : (locations : List Location) (place : ℕ) (l : Location) → l.marked ≡ false
    → place < length locations
    → is_marked (slice_get (slice_set locations place l) place) ≡ false
written_unmarked locations place l free within =
    ap is_marked (set_same locations place (get_or locations place unused_location) l
    (location_there locations place within)) ∙ free
