-- A search goes on: what it keeps stays what it is.
use Rattle.laws_runs.proofs.Prelude.{ap, arith, cases_lt, inl, inr, length-append, refl, subst, sym, zero, ◌∙◌, List, Option, Some, [], false, length, slice_get, slice_get_within, suc, ℕ, ◌*◌, ◌++◌, ◌+◌, ◌<◌, ◌∷◌, ◌≡◌, ◌≤◌, ◌⊎◌, World, Event}
use Rattle.laws_runs.proofs.Lists.{get_at_length}
use Rattle.hunt_exact.specs.Searched.{IsGrown, GoesTo, IsCounted, IsFollowed, IsFollowing, IsKept, is_new, was_met, IsMet, IsSearched, Leads}
use Rattle.hunt_exact.specs.Within.{AreWithin, IsAllowed, Scope, run_of, world_of}

-- what stands in a list stands there when more is put at its end, and what stands there then
get_more : {A : Type 0} (xs : List A) (y x : A) (k : ℕ) → slice_get xs k ≡ Some x
    → slice_get (xs ++ y ∷ []) k ≡ Some x
get_more [] y x k h = cc
get_more (z ∷ xs) y x zero h = h
get_more (z ∷ xs) y x (suc k) h = get_more xs y x k h

pub get_either : {A : Type 0} (xs : List A) (y x : A) (k : ℕ)
    → slice_get (xs ++ y ∷ []) k ≡ Some x
    → (slice_get xs k ≡ Some x) ⊎ ((k ≡ length xs) × (x ≡ y))
get_either {A = A} [] y x zero h = let same : y ≡ x = cc in inr (refl, sym same)
get_either [] y x (suc k) h = cc
get_either (z ∷ xs) y x zero h = inl h
get_either (z ∷ xs) y x (suc k) h =
    elim (get_either xs y x k h) [
      | inl old ↦ inl old
      | inr new ↦ inr (ap suc new.0, new.1)
    ]

pub one_of_two : {A : Type 0} (o : Option A) (x y : A) → o ≡ Some x → o ≡ Some y → x ≡ y
one_of_two o x y h g = cc

pub no_events : (before : List Event) (e : Event) (after : List Event) → [] ≡ before ++ e ∷ after → ⊥
no_events [] e after is = cc
no_events (b ∷ before) e after is = cc

only : (k : ℕ) (path : List Event) → slice_get ([] ∷ []) k ≡ Some path → path ≡ []
only zero path kept = cc
only (suc k) path kept = cc

none_behind : (k : ℕ) (path : List Event) → slice_get ([] ∷ []) k ≡ Some path → k ≡ 0
none_behind zero path kept = refl
none_behind (suc k) path kept = cc

-- before the first event was followed
begun : (scope : Scope) → (run_of scope []).stopped ≡ false → IsSearched scope ([] ∷ []) 0
begun scope on =
    record {
      first = refl;
      on = λ k path kept.
          subst (λ (p : List Event). (run_of scope p).stopped ≡ false) (sym (only k path kept)) on;
      within = λ k path kept before e after is.
          absurd (no_events before e after (sym (only k path kept) ∙ is));
      sorted = λ k l path other le kept also.
          subst (λ (p : List Event). length p ≤ length other) (sym (only k path kept)) (omega arith);
      near = λ k l path other le kept also.
          subst (λ (p : List Event). length p ≤ suc (length path)) (sym (only l other also))
          (omega arith);
      grown = λ k path less kept.
          let none : k ≡ 0 = none_behind k path kept in absurd (omega (arith, less, none));
      followed = λ k path e less kept allowed. absurd (omega (arith, less));
    }

pub searched_begun : (scope : Scope) → (run_of scope []).stopped ≡ false
    → IsCounted scope ([] ∷ []) 0
searched_begun scope on = record { searched = begun scope on; few = omega arith }

-- an event more at the end of some: it is the last one, or stands among the others
ends_or_among : (path before after : List Event) (e f : Event)
    → path ++ e ∷ [] ≡ before ++ f ∷ after
    → ((path ≡ before) × (e ≡ f)) ⊎ ((rest : List Event) × (path ≡ before ++ f ∷ rest))
ends_or_among [] [] after e f is = let same : e ≡ f = cc in inl (refl, same)
ends_or_among [] (b ∷ before) after e f is =
    let none : [] ≡ before ++ f ∷ after = cc in absurd (no_events before f after none)
ends_or_among (p ∷ path) [] after e f is =
    let same : p ≡ f = cc in inr (path, ap (λ (x : Event). x ∷ path) same)
ends_or_among (p ∷ path) (b ∷ before) after e f is =
    let same : p ≡ b = cc in
    let later : path ++ e ∷ [] ≡ before ++ f ∷ after = cc in
    elim (ends_or_among path before after e f later) [
      | inl last ↦ inl ((λ k. same k ∷ last.0 k), last.1)
      | inr among ↦ inr (among.0, (λ k. same k ∷ among.1 k))
    ]

-- a run within the bounds with an event more that is allowed behind it
pub within_more : (scope : Scope) (path : List Event) (e : Event) → AreWithin scope path
    → IsAllowed scope (world_of scope path) e → AreWithin scope (path ++ e ∷ [])
within_more scope path e within allowed before f after is =
    elim (ends_or_among path before after e f is) [
      | inl last ↦
          subst (λ (g : Event). IsAllowed scope (world_of scope before) g) last.1
          (subst (λ (p : List Event). IsAllowed scope (world_of scope p) e) last.0 allowed)
      | inr among ↦ within before f among.0 among.1
    ]

long_by_one : {A : Type 0} (xs : List A) (x : A) → length (xs ++ x ∷ []) ≡ suc (length xs)
long_by_one xs x =
    let long : length (xs ++ x ∷ []) ≡ length xs + 1 = length-append xs (x ∷ []) in
    omega (arith, long)

-- what was met is met when another run is kept too
module _ (scope : Scope) (paths : List (List Event)) (q : List Event) where
  met_more : (n : ℕ) (w : World) → IsMet scope paths n w → IsMet scope (paths ++ q ∷ []) n w
  met_more n w met =
      record {
        number = met.number;
        path = met.path;
        kept = get_more paths q met.path met.number met.kept;
        near = met.near;
        same = met.same;
        on = met.on;
      }

  followed_more : (path : List Event) (e : Event) → IsFollowed scope paths path e
      → IsFollowed scope (paths ++ q ∷ []) path e
  followed_more path e on =
      record {
        world = on.world;
        goes = on.goes;
        met = met_more (suc (length path)) on.world on.met;
      }

-- the events before a place, and the one there
upto_more : (scope : Scope) (paths : List (List Event)) (path : List Event) (tried : ℕ)
    (e : Event) → slice_get scope.moves tried ≡ Some e
    → (IsAllowed scope (world_of scope path) e → IsFollowed scope paths path e)
    → ((i : ℕ) (f : Event) → i < tried → slice_get scope.moves i ≡ Some f
    → IsAllowed scope (world_of scope path) f → IsFollowed scope paths path f)
    → (i : ℕ) (f : Event) → i < suc tried → slice_get scope.moves i ≡ Some f
    → IsAllowed scope (world_of scope path) f → IsFollowed scope paths path f
upto_more scope paths path tried e at here before i f less there allowed =
    elim (cases_lt i tried) [
      | inl low ↦ before i f low there allowed
      | inr high ↦
          let same : i ≡ tried = omega (arith, less, high) in
          let its : slice_get scope.moves tried ≡ Some f =
          subst (λ (k : ℕ). slice_get scope.moves k ≡ Some f) same there in
          let one : e ≡ f = one_of_two (slice_get scope.moves tried) e f at its in
          subst (λ (g : Event). IsFollowed scope paths path g) one
          (here (subst (λ (g : Event). IsAllowed scope (world_of scope path) g) (sym one) allowed))
    ]

module _ (scope : Scope) (paths : List (List Event)) (front : ℕ) (path : List Event) (tried : ℕ)
    (following : IsFollowing scope paths front path tried) (e : Event)
    (there : slice_get scope.moves tried ≡ Some e) where
  below : tried < length scope.moves
  below = slice_get_within scope.moves tried e there

  -- an event that isn't allowed is passed over
  pub passed_over : (IsAllowed scope (world_of scope path) e → ⊥)
      → IsFollowing scope paths front path (suc tried)
  passed_over free =
      record {
        searched = following.searched;
        few = omega (arith, following.few);
        most = omega (arith, below);
        at = following.at;
        followed = upto_more scope paths path tried e there (λ allowed. absurd (free allowed))
            following.followed;
      }

  module _ (w : World) (goes : GoesTo scope path e w)
      (allowed : IsAllowed scope (world_of scope path) e) where
    abbrev pub q : List Event
    q = path ++ e ∷ []

    leads : Leads scope path e w
    leads = goes path refl (following.searched.on front path following.at)

    here_met : IsMet scope (paths ++ q ∷ []) (suc (length path)) w
    here_met =
        record {
          number = length paths;
          path = q;
          kept = get_at_length paths q;
          near = let long : length q ≡ suc (length path) = long_by_one path e in omega (arith, long);
          same = leads.world;
          on = leads.on;
        }

    inside : front < length paths
    inside = slice_get_within paths front path following.at

    new_sorted : (k l : ℕ) (p other : List Event) → k ≤ l
        → slice_get (paths ++ q ∷ []) k ≡ Some p → slice_get (paths ++ q ∷ []) l ≡ Some other
        → length p ≤ length other
    new_sorted k l p other le kept also =
        let long : length q ≡ suc (length path) = long_by_one path e in
        elim (get_either paths q p k kept) [
          | inl old ↦ elim (get_either paths q other l also) [
            | inl too ↦ following.searched.sorted k l p other le old too
            | inr new ↦
                let few : length p ≤ suc (length path) =
                following.searched.near front k path p (omega arith) following.at old in
                let is : length other ≡ length q = ap (λ (x : List Event). length x) new.1 in
                omega (arith, few, is, long)
          ]
          | inr first ↦ elim (get_either paths q other l also) [
            | inl too ↦
                let low : l < length paths = slice_get_within paths l other too in
                absurd (omega (arith, low, le, first.0))
            | inr new ↦
                let one : length p ≡ length q = ap (λ (x : List Event). length x) first.1 in
                let is : length other ≡ length q = ap (λ (x : List Event). length x) new.1 in
                omega (arith, one, is)
          ]
        ]

    at_least : (k : ℕ) (p : List Event) → front ≤ k → slice_get (paths ++ q ∷ []) k ≡ Some p
        → length path ≤ length p
    at_least k p le kept =
        let long : length q ≡ suc (length path) = long_by_one path e in
        elim (get_either paths q p k kept) [
          | inl old ↦ following.searched.sorted front k path p le following.at old
          | inr first ↦
              let one : length p ≡ length q = ap (λ (x : List Event). length x) first.1 in
              omega (arith, one, long)
        ]

    at_most : (l : ℕ) (other : List Event) → slice_get (paths ++ q ∷ []) l ≡ Some other
        → length other ≤ suc (length path)
    at_most l other kept =
        let long : length q ≡ suc (length path) = long_by_one path e in
        elim (get_either paths q other l kept) [
          | inl old ↦ following.searched.near front l path other (omega arith) following.at old
          | inr first ↦
              let one : length other ≡ length q = ap (λ (x : List Event). length x) first.1 in
              omega (arith, one, long)
        ]

    new_grown : (k : ℕ) (p : List Event) → 0 < k → slice_get (paths ++ q ∷ []) k ≡ Some p
        → IsGrown scope (paths ++ q ∷ []) k p
    new_grown k p more kept =
        elim (get_either paths q p k kept) [
          | inl old ↦
              let on : IsGrown scope paths k p = following.searched.grown k p more old in
              record {
                number = on.number;
                before = on.before;
                kept = get_more paths q on.before on.number on.kept;
                longer = on.longer;
                few = on.few;
              }
          | inr last ↦
              let is : length p ≡ length q = ap (λ (x : List Event). length x) last.1 in
              record {
                number = front;
                before = path;
                kept = get_more paths q path front following.at;
                longer = is ∙ long_by_one path e;
                few = omega (arith, last.0, following.few, below);
              }
        ]

    new_searched : IsSearched scope (paths ++ q ∷ []) front
    new_searched =
        record {
          first = get_more paths q [] 0 following.searched.first;
          on = λ k p kept.
              elim (get_either paths q p k kept) [
                | inl old ↦ following.searched.on k p old
                | inr last ↦
                    subst (λ (x : List Event). (run_of scope x).stopped ≡ false) (sym last.1)
                    leads.on
              ];
          within = λ k p kept.
              elim (get_either paths q p k kept) [
                | inl old ↦ following.searched.within k p old
                | inr last ↦
                    subst (λ (x : List Event). AreWithin scope x) (sym last.1)
                    (within_more scope path e
                    (following.searched.within front path following.at) allowed)
              ];
          sorted = new_sorted;
          near = λ k l p other le kept also.
              let low : length path ≤ length p = at_least k p le kept in
              let high : length other ≤ suc (length path) = at_most l other also in
              omega (arith, low, high);
          grown = new_grown;
          followed = λ k p f less kept may.
              elim (get_either paths q p k kept) [
                | inl old ↦
                    followed_more scope paths q p f
                    (following.searched.followed k p f less old may)
                | inr last ↦ absurd (omega (arith, last.0, less, inside))
              ];
        }

    -- one that was followed leads to a world that was met, or is met now
    pub followed_on : (later : List (List Event)) → IsKept scope path e w paths later
        → IsFollowing scope later front path (suc tried)
    followed_on later (was_met ps met) =
        record {
          searched = following.searched;
          few = omega (arith, following.few);
          most = omega (arith, below);
          at = following.at;
          followed = upto_more scope paths path tried e there
              (λ may. record { world = w; goes = goes; met = met }) following.followed;
        }
    followed_on later (is_new ps) =
        record {
          searched = new_searched;
          few =
              let long : length (paths ++ q ∷ []) ≡ suc (length paths) = long_by_one paths q in
              omega (arith, long, following.few);
          most = omega (arith, below);
          at = get_more paths q path front following.at;
          followed = upto_more scope (paths ++ q ∷ []) path tried e there
              (λ may. record { world = w; goes = goes; met = here_met })
              (λ i f less at may.
              followed_more scope paths q path f (following.followed i f less at may));
        }

-- where all events of the list were followed, the front goes on
front_searched : (scope : Scope) (paths : List (List Event)) (front : ℕ) (path : List Event)
    (tried : ℕ) → IsFollowing scope paths front path tried → length scope.moves ≤ tried
    → IsSearched scope paths (suc front)
front_searched scope paths front path tried following all =
    record {
      first = following.searched.first;
      on = following.searched.on;
      within = following.searched.within;
      sorted = following.searched.sorted;
      near = λ k l p other le kept also.
          following.searched.near k l p other (omega (arith, le)) kept also;
      grown = following.searched.grown;
      followed = λ k p e less kept allowed.
          elim (cases_lt k front) [
            | inl before ↦ following.searched.followed k p e before kept allowed
            | inr behind ↦
                let same : k ≡ front = omega (arith, less, behind) in
                let its : slice_get paths front ≡ Some p =
                subst (λ (i : ℕ). slice_get paths i ≡ Some p) same kept in
                let one : path ≡ p =
                one_of_two (slice_get paths front) path p following.at its in
                let may : IsAllowed scope (world_of scope path) e =
                subst (λ (x : List Event). IsAllowed scope (world_of scope x) e) (sym one)
                allowed in
                let inside : may.tried.0 < length scope.moves =
                slice_get_within scope.moves may.tried.0 e may.tried.1 in
                subst (λ (x : List Event). IsFollowed scope paths x e) one
                (following.followed may.tried.0 e (omega (arith, inside, all)) may.tried.1 may)
          ];
    }

pub front_on : (scope : Scope) (paths : List (List Event)) (front : ℕ) (path : List Event)
    (tried : ℕ) → IsFollowing scope paths front path tried → length scope.moves ≤ tried
    → IsCounted scope paths (suc front)
front_on scope paths front path tried following all =
    record {
      searched = front_searched scope paths front path tried following all;
      few = omega (arith, following.few, following.most);
    }
