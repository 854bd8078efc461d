-- Locations of a packet that are marked, or shared with a lower device: what that leaves of the
-- marks and completion routines of all.
use Rattle.laws_runs.proofs.Common.{ap, get_or, inl, inr, refl, subst, sym, ◌∙◌, eqb_tells, slice_get-get_or, List, None, Option, Some, length, slice_get, slice_set, true, ℕ, ◌<◌, ◌≡◌, ◌≢◌, completion_of, is_marked, marked_location, shared_location, unused_location, Location, set_other, set_same}

-- a location is there
pub location_there : (locations : List Location) (place : ℕ) → place < length locations
    → slice_get locations place ≡ Some (get_or locations place unused_location)
location_there locations place l = slice_get-get_or locations place unused_location l

-- a location is marked: it, and no other one
pub marked_here : (locations : List Location) (place : ℕ) → place < length locations
    → is_marked (slice_get (marked_location (slice_get locations place) locations place) place)
    ≡ true
marked_here locations place l =
    let there : slice_get locations place ≡ Some (get_or locations place unused_location) =
    location_there locations place l in
    let one : Location = get_or locations place unused_location in
    subst (λ (o : Option Location). is_marked (slice_get (marked_location o locations place) place)
    ≡ true) (sym there)
    (ap is_marked (set_same locations place one (record one { marked = true }) there))

pub marked_other : (o : Option Location) (locations : List Location) (place k : ℕ) → place ≢ k
    → slice_get (marked_location o locations place) k ≡ slice_get locations k
marked_other None locations place k apart = refl
marked_other (Some l) locations place k apart =
    set_other locations place k (record l { marked = true }) apart

-- what is marked stays so
stays_by : (o : Option Location) (locations : List Location) (place k : ℕ)
    → slice_get locations place ≡ o → is_marked (slice_get locations k) ≡ true
    → is_marked (slice_get (marked_location o locations place) k) ≡ true
stays_by None locations place k there is = is
stays_by (Some l) locations place k there is =
    elim (eqb_tells place k) [
      | inl e ↦
          subst (λ (j : ℕ). is_marked (slice_get (slice_set locations place
          (record l { marked = true }))
          j) ≡ true) e.1
          (ap is_marked (set_same locations place l (record l { marked = true }) there))
      | inr e ↦ ap is_marked (set_other locations place k (record l { marked = true }) e.1) ∙ is
    ]

pub marks_stay : (locations : List Location) (place k : ℕ)
    → is_marked (slice_get locations k) ≡ true
    → is_marked (slice_get (marked_location (slice_get locations place) locations place) k) ≡ true
marks_stay locations place k is = stays_by (slice_get locations place) locations place k refl is

-- a location is written with what another one has, at its place: what f tells of locations stays
set_as : {A : Type 0} (f : Option Location → A) (locations : List Location) (place k : ℕ)
    (l now : Location)
    → slice_get locations place ≡ Some l → f (Some now) ≡ f (Some l)
    → f (slice_get (slice_set locations place now) k) ≡ f (slice_get locations k)
set_as f locations place k l now there same =
    elim (eqb_tells place k) [
      | inl e ↦ subst
          (λ (j : ℕ). f (slice_get (slice_set locations place now) j) ≡ f (slice_get locations j))
          e.1
          (ap f (set_same locations place l now there) ∙ same ∙ sym (ap f there))
      | inr e ↦ ap f (set_other locations place k now e.1)
    ]

-- a mark leaves completion routines alone
marked_as : (locations : List Location) (place k : ℕ) (o : Option Location)
    → slice_get locations place ≡ o
    → completion_of (slice_get (marked_location o locations place) k)
    ≡ completion_of (slice_get locations k)
marked_as locations place k None there = refl
marked_as locations place k (Some l) there =
    set_as completion_of locations place k l (record l { marked = true }) there refl

pub marked_completion : (locations : List Location) (place k : ℕ)
    → completion_of (slice_get (marked_location (slice_get locations place) locations place) k)
    ≡ completion_of (slice_get locations k)
marked_completion locations place k = marked_as locations place k (slice_get locations place) refl

-- a location is shared with a lower device: its mark stays, and its completion routine
shared_as : {A : Type 0} (f : Option Location → A) (locations : List Location) (place device k : ℕ)
    (o : Option Location) → slice_get locations place ≡ o
    → ((l : Location) → f (Some (record l { device = device })) ≡ f (Some l))
    → f (slice_get (shared_location o locations place device) k) ≡ f (slice_get locations k)
shared_as f locations place device k None there same = refl
shared_as f locations place device k (Some l) there same =
    set_as f locations place k l (record l { device = device }) there (same l)

pub shared_marks : (locations : List Location) (place device k : ℕ)
    → is_marked (slice_get (shared_location (slice_get locations place) locations place device) k)
    ≡ is_marked (slice_get locations k)
shared_marks locations place device k =
    shared_as is_marked locations place device k (slice_get locations place) refl (λ l. refl)

pub shared_completion : (locations : List Location) (place device k : ℕ)
    → completion_of (slice_get (shared_location (slice_get locations place) locations place device)
    k)
    ≡ completion_of (slice_get locations k)
shared_completion locations place device k =
    shared_as completion_of locations place device k (slice_get locations place) refl (λ l. refl)
