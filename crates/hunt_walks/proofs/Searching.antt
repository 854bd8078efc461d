-- A search goes on: what it keeps stays what it is.
use Rattle.std.proofs.Common.{◌≡◌, ◌∙◌, ◌<◌, ◌≤◌, ◌+◌, ◌++◌, ◌⊎◌, ℕ, zero, suc, Bool, true, false, not, List, [], ◌∷◌, Option, None, Some, ap, arith, get_or, inl, inr, length, refl, slice_get, subst, sym}
use Rattle.std.proofs.lemmas.Bool.{cases_lt}
use Rattle.std.proofs.lemmas.Option.{slice_get-get_or, slice_get_within}
use Rattle.hunt_walks.proofs.Meeting.{closed_meet_all}
use Rattle.hunt_walks.specs.declared.search.Failed.{Failed}
use Rattle.hunt_walks.specs.declared.search.Searched.{Searched}
use Rattle.hunt_walks.specs.declared.search.Searched.TheVariants.{All as AllFollowed, More as MoreThere}
use Rattle.hunt_walks.specs.Searched.{Adds, AddsBehind, Grows, HasFollowed, HasFollowedAll, HasTried, HasTriedAll, IsBehind, IsEnded, IsOrderly, IsSearched, IsVisited, Keeps, no_more, one_more}
use Rattle.hunt_walks.specs.Walks.{AreAlike, AreClosed, AreFew, AreMore, AreOnce, AreWalks, FailsBehind, MeetsAll, Goes, IsFollowed, IsMet, IsWalk, goes, rests}

-- what stands in a list stands there when more is put at its end, and what stands there then
get_more : {A : Type 0} (xs : List A) (y x : A) (k : ℕ) → slice_get xs k ≡ Some x
    → slice_get (xs ++ y ∷ []) k ≡ Some x
get_more [] y x k h = cc
get_more (z ∷ xs) y x zero h = h
get_more (z ∷ xs) y x (suc k) h = get_more xs y x k h

get_either : {A : Type 0} (xs : List A) (y x : A) (k : ℕ)
    → slice_get (xs ++ y ∷ []) k ≡ Some x → (slice_get xs k ≡ Some x) ⊎ (x ≡ y)
get_either {A = A} [] y x zero h = let same : y ≡ x = cc in inr (sym same)
get_either [] y x (suc k) h = cc
get_either (z ∷ xs) y x zero h = inl h
get_either (z ∷ xs) y x (suc k) h = get_either xs y x k h

get_last : {A : Type 0} (xs : List A) (x : A) → slice_get (xs ++ x ∷ []) (length xs) ≡ Some x
get_last [] x = refl
get_last (y ∷ xs) x = get_last xs x

one_of_two : {A : Type 0} (o : Option A) (x y : A) → o ≡ Some x → o ≡ Some y → x ≡ y
one_of_two o x y h g = cc

only_first : (k : ℕ) (path : List ℕ) → slice_get ([] ∷ []) k ≡ Some path → k ≡ 0
only_first zero path kept = refl
only_first (suc k) path kept = cc

only : (k : ℕ) (path : List ℕ) → slice_get ([] ∷ []) k ≡ Some path → path ≡ []
only zero path kept = cc
only (suc k) path kept = cc

not_so : (b : Bool) → not b ≡ true → b ≡ false
not_so true h = cc
not_so false h = refl

pub so : (b : Bool) → not b ≡ false → b ≡ true
so true h = refl
so false h = cc

-- where it stands then
get_where : {A : Type 0} (xs : List A) (y x : A) (k : ℕ)
    → slice_get (xs ++ y ∷ []) k ≡ Some x
    → (slice_get xs k ≡ Some x) ⊎ ((k ≡ length xs) × (x ≡ y))
get_where {A = A} [] y x zero h = let same : y ≡ x = cc in inr (refl, sym same)
get_where [] y x (suc k) h = cc
get_where (z ∷ xs) y x zero h = inl h
get_where (z ∷ xs) y x (suc k) h =
    elim (get_where xs y x k h) [
      | inl old ↦ inl old
      | inr new ↦ inr (ap (λ (n : ℕ). suc n) new.0, new.1)
    ]

-- a place before one that there is
there_before : {A : Type 0} (xs : List A) (k front : ℕ) (x : A) → slice_get xs front ≡ Some x
    → k < front → slice_get xs k ≡ Some (get_or xs k x)
there_before xs k front x at less =
    let within : front < length xs = slice_get_within xs front x at in
    slice_get-get_or xs k x (omega (arith, less, within))

-- walks that end in one move more
no_moves : (path : List ℕ) (m : ℕ) → path ++ m ∷ [] ≡ [] → ⊥
no_moves [] m is = cc
no_moves (n ∷ path) m is = cc

same_parts : (path other : List ℕ) (m n : ℕ) → path ++ m ∷ [] ≡ other ++ n ∷ []
    → (path ≡ other) × (m ≡ n)
same_parts [] [] m n is =
    let same : m ≡ n = cc in (refl, same)
same_parts [] (o ∷ other) m n is =
    let no : [] ≡ other ++ n ∷ [] = cc in absurd (no_moves other n (sym no))
same_parts (o ∷ path) [] m n is =
    let no : path ++ m ∷ [] ≡ [] = cc in absurd (no_moves path m no)
same_parts (o ∷ path) (u ∷ other) m n is =
    let first : o ≡ u = cc in
    let later : path ++ m ∷ [] ≡ other ++ n ∷ [] = cc in
    let parts : (path ≡ other) × (m ≡ n) = same_parts path other m n later in (
      ap (λ (x : ℕ). x ∷ path) first ∙ ap (λ (xs : List ℕ). u ∷ xs) parts.0,
      parts.1,
    )

-- each is kept once, also with one more that isn't kept
once_more : (paths : List (List ℕ)) (path : List ℕ) → AreOnce paths
    → ((k : ℕ) → slice_get paths k ≡ Some path → ⊥) → AreOnce (paths ++ path ∷ [])
once_more paths path once fresh i k other at there =
    elim (get_where paths path other i at) [
      | inl old ↦
          elim (get_where paths path other k there) [
            | inl also ↦ once i k other old also
            | inr new ↦
                absurd (fresh i (subst (λ (p : List ℕ). slice_get paths i ≡ Some p) new.1 old))
          ]
      | inr new ↦
          elim (get_where paths path other k there) [
            | inl old ↦
                absurd (fresh k (subst (λ (p : List ℕ). slice_get paths k ≡ Some p) new.1 old))
            | inr also ↦ new.0 ∙ sym also.0
          ]
    ]

-- a walk of one move more behind that at the front, by a move below a number
record IsChild (path : List ℕ) (n : ℕ) (other : List ℕ) : Type 0 where
  move : ℕ
  below : move < n
  by : other ≡ path ++ move ∷ []

-- so far by moves below a number
record IsPartly (paths : List (List ℕ)) (front : ℕ) (path : List ℕ) (n : ℕ) : Type 0 where
  here : slice_get paths front ≡ Some path
  once : AreOnce paths
  from : (k : ℕ) (other : List ℕ) → slice_get paths k ≡ Some other
      → (other ≡ []) ⊎ (IsBehind paths front other ⊎ IsChild path n other)

behind_more : (paths : List (List ℕ)) (front : ℕ) (path other : List ℕ)
    → IsBehind paths front other → IsBehind (paths ++ path ∷ []) front other
behind_more paths front path other is =
    record {
      number = is.number;
      before = is.before;
      move = is.move;
      earlier = is.earlier;
      kept = get_more paths path is.before is.number is.kept;
      by = is.by;
    }

-- one by the next move isn't kept yet
fresh_child : (paths : List (List ℕ)) (front : ℕ) (path : List ℕ) (m : ℕ)
    → IsPartly paths front path m → (k : ℕ) → slice_get paths k ≡ Some (path ++ m ∷ []) → ⊥
fresh_child paths front path m partly k at =
    elim (partly.from k (path ++ m ∷ []) at) [
      | inl start ↦ absurd (no_moves path m start)
      | inr (inl is) ↦
          let parts = same_parts path is.before m is.move is.by in
          let same : is.number ≡ front =
          partly.once is.number front is.before is.kept
          (partly.here ∙ ap (λ (p : List ℕ). Some p) parts.0) in
          absurd (omega (arith, is.earlier, same))
      | inr (inr is) ↦
          let parts = same_parts path path m is.move is.by in
          absurd (omega (arith, is.below, parts.1))
    ]

child_on : (path : List ℕ) (m n : ℕ) (other : List ℕ) → m < n → IsChild path m other
    → IsChild path n other
child_on path m n other less is =
    record { move = is.move; below = omega (arith, is.below, less); by = is.by }

partly_more : (paths : List (List ℕ)) (front : ℕ) (path : List ℕ) (m n : ℕ) → m < n
    → IsPartly paths front path m → IsPartly (paths ++ (path ++ m ∷ []) ∷ []) front path n
partly_more paths front path m n less partly =
    record {
      here = get_more paths (path ++ m ∷ []) path front partly.here;
      once = once_more paths (path ++ m ∷ []) partly.once (fresh_child paths front path m partly);
      from = λ k other at.
          elim (get_where paths (path ++ m ∷ []) other k at) [
            | inl old ↦
                elim (partly.from k other old) [
                  | inl start ↦ inl start
                  | inr (inl is) ↦ inr (inl (behind_more paths front (path ++ m ∷ []) other is))
                  | inr (inr is) ↦ inr (inr (child_on path m n other less is))
                ]
            | inr new ↦ inr (inr (record { move = m; below = less; by = new.1 }))
          ];
    }

partly_by : (front : ℕ) (path : List ℕ) (n : ℕ) (before after : List (List ℕ))
    → IsOrderly before front → slice_get before front ≡ Some path
    → AddsBehind path n before after → IsPartly after front path n
partly_by front path n before _ orderly at (no_more _ _) =
    record {
      here = at;
      once = orderly.once;
      from = λ k other there.
          elim (orderly.from k other there) [
            | inl start ↦ inl start
            | inr is ↦ inr (inl is)
          ];
    }
partly_by front path n before _ orderly at (one_more m _ _ after adds less) =
    partly_more after front path m n less
    (partly_by front path m before after orderly at adds)

orderly_on : (front : ℕ) (path : List ℕ) (n : ℕ) (before after : List (List ℕ))
    → IsOrderly before front → slice_get before front ≡ Some path
    → AddsBehind path n before after → IsOrderly after (front + 1)
orderly_on front path n before after orderly at adds =
    let partly : IsPartly after front path n = partly_by front path n before after orderly at adds in
    record {
      once = partly.once;
      from = λ k other there.
          elim (partly.from k other there) [
            | inl start ↦ inl start
            | inr (inl is) ↦ inr (record {
              number = is.number;
              before = is.before;
              move = is.move;
              earlier = omega (arith, is.earlier);
              kept = is.kept;
              by = is.by;
            })
            | inr (inr is) ↦ inr (record {
              number = front;
              before = path;
              move = is.move;
              earlier = omega arith;
              kept = partly.here;
              by = is.by;
            })
          ];
    }

orderly_first : IsOrderly ([] ∷ []) 0
orderly_first =
    record {
      once = λ i k path at there. only_first i path at ∙ sym (only_first k path there);
      from = λ k path at. inl (only k path at);
    }

-- with a move more that was tried
adds_same : (path : List ℕ) (n : ℕ) (before after : List (List ℕ))
    → AddsBehind path n before after → AddsBehind path (n + 1) before after
adds_same path n before _ (no_more _ _) = no_more (n + 1) before
adds_same path n before _ (one_more m _ _ after adds less) =
    one_more m (n + 1) before after adds (omega (arith, less))

adds_on : (path : List ℕ) (n : ℕ) (before between after : List (List ℕ))
    → AddsBehind path n before between → Adds between after (path ++ n ∷ [])
    → AddsBehind path (n + 1) before after
adds_on path n before between after adds (inl same) =
    subst (λ (ps : List (List ℕ)). AddsBehind path (n + 1) before ps) (sym same)
    (adds_same path n before between adds)
adds_on path n before between after adds (inr more) =
    subst (λ (ps : List (List ℕ)). AddsBehind path (n + 1) before ps) (sym more)
    (one_more n (n + 1) before between adds (omega arith))

module _ (may fails : List ℕ → ℕ → Bool) (one : List ℕ → List ℕ → Type 0) where
  pub grows_not : (paths : List (List ℕ)) → Grows may fails paths paths
  grows_not paths = record { kept = λ k path at. at; walks = λ walks. walks }

  grows_on : (a b c : List (List ℕ)) → Grows may fails a b → Grows may fails b c
      → Grows may fails a c
  grows_on a b c ab bc =
      record {
        kept = λ k path at. bc.kept k path (ab.kept k path at);
        walks = λ walks. bc.walks (ab.walks walks);
      }

  grows_by : (paths : List (List ℕ)) (path : List ℕ) → IsWalk may fails path
      → Grows may fails paths (paths ++ path ∷ [])
  grows_by paths path walk =
      record {
        kept = λ k other at. get_more paths path other k at;
        walks = λ walks k other at.
            elim (get_either paths path other k at) [
              | inl old ↦ walks k other old
              | inr new ↦ subst (λ (p : List ℕ). IsWalk may fails p) (sym new) walk
            ];
      }

  met_more : (before after : List (List ℕ)) (path : List ℕ) → Grows may fails before after
      → IsMet one before path → IsMet one after path
  met_more before after path grows met =
      record {
        number = met.number;
        other = met.other;
        kept = grows.kept met.number met.other met.kept;
        same = met.same;
      }

  followed_more : (before after : List (List ℕ)) (path : List ℕ) (m : ℕ)
      → Grows may fails before after → IsFollowed may fails one before path m
      → IsFollowed may fails one after path m
  followed_more before after path m grows followed h =
      let on : Goes fails one before path m = followed h in
      record { well = on.well; met = met_more before after (path ++ m ∷ []) grows on.met }

  -- a place that was met, and a walk that is kept from now on
  pub keeps_old : (paths later : List (List ℕ)) (path : List ℕ) → later ≡ paths
      → IsMet one later path → Keeps may fails one paths later path
  keeps_old paths later path same met =
      subst (λ (ps : List (List ℕ)). Keeps may fails one ps later path) same
      (grows_not later, met, inl refl)

  pub keeps_new : (paths later : List (List ℕ)) (path grown : List ℕ) → grown ≡ path
      → later ≡ paths ++ grown ∷ [] → IsWalk may fails path
      → Keeps may fails one paths later path
  keeps_new paths later path grown is more walk =
      let last : later ≡ paths ++ path ∷ [] =
      more ∙ ap (λ (p : List ℕ). paths ++ p ∷ []) is in
      subst (λ (ps : List (List ℕ)). Keeps may fails one paths ps path) (sym last) (
        grows_by paths path walk,
        record {
          number = length paths;
          other = path;
          kept = get_last paths path;
          same = inl refl;
        },
        inr refl,
      )

  -- a move that may not be made, one that fails, and one that goes on
  pub tried_not : (paths : List (List ℕ)) (path : List ℕ) (m : ℕ) (can : Bool)
      → can ≡ may path m → can ≡ false → HasTried may fails one paths paths path m true
  tried_not paths path m can is shut =
      (grows_not paths, λ h. let no : true ≡ false = sym h ∙ sym is ∙ shut in cc, inl refl)

  pub walk_on : (path : List ℕ) (m : ℕ) (can well : Bool) → IsWalk may fails path
      → can ≡ may path m → can ≡ true → well ≡ not (fails path m) → well ≡ true
      → IsWalk may fails (path ++ m ∷ [])
  walk_on path m can well walk is opens told on =
      goes path m walk (sym is ∙ opens) (not_so (fails path m) (sym told ∙ on))

  pub tried_ill : (before after : List (List ℕ)) (path : List ℕ) (m : ℕ) (can well : Bool)
      → can ≡ may path m → can ≡ true → well ≡ not (fails path m) → well ≡ false
      → HasTried may fails one before after path m false
  tried_ill before after path m can well is opens told ill =
      (sym is ∙ opens, so (fails path m) (sym told ∙ ill))

  pub tried_well : (before after : List (List ℕ)) (path : List ℕ) (m : ℕ) (well : Bool)
      → well ≡ not (fails path m) → well ≡ true → Keeps may fails one before after (path ++ m ∷ [])
      → HasTried may fails one before after path m true
  tried_well before after path m well told on keeps =
      (keeps.0, λ h. record { well = not_so (fails path m) (sym told ∙ on); met = keeps.1 }, keeps.2)

  -- moves in turn
  pub followed_none : (paths : List (List ℕ)) (path : List ℕ)
      → HasFollowed may fails one paths paths path 0
  followed_none paths path =
      record {
        grows = grows_not paths;
        followed = λ m less. absurd (omega (arith, less));
        adds = no_more 0 paths;
      }

  pub followed_next : (before between after : List (List ℕ)) (path : List ℕ) (tried : ℕ)
      (well : Bool) → HasFollowed may fails one before between path tried
      → HasTried may fails one between after path tried well → well ≡ true
      → HasFollowed may fails one before after path (tried + 1)
  followed_next before between after path tried well followed now on =
      let last : HasTried may fails one between after path tried true =
      subst (λ (b : Bool). HasTried may fails one between after path tried b) on now in
      record {
        grows = grows_on before between after followed.grows last.0;
        followed = λ m less.
            elim (cases_lt m tried) [
              | inl under ↦
                  followed_more between after path m last.0 (followed.followed m under)
              | inr over ↦
                  let same : tried ≡ m = omega (arith, less, over) in
                  subst (λ (k : ℕ). IsFollowed may fails one after path k) same last.1
            ];
        adds = adds_on path tried before between after followed.adds last.2;
      }

  pub tried_all : (moves tried : ℕ) (before after : List (List ℕ)) (path : List ℕ)
      → HasFollowed may fails one before after path tried → moves ≤ tried
      → HasTriedAll may fails one moves before after path None
  tried_all moves tried before after path followed all =
      record { tried = tried; all = all; so = followed }

  pub tried_up_to : (moves : ℕ) (before between after : List (List ℕ)) (path : List ℕ) (m : ℕ)
      (well : Bool) → HasTried may fails one between after path m well → well ≡ false
      → HasTriedAll may fails one moves before after path (Some m)
  tried_up_to moves before between after path m well now ill =
      subst (λ (b : Bool). HasTried may fails one between after path m b) ill now

  -- the walk at the front
  pub searched_begun : (moves : ℕ) (paths : List (List ℕ)) → paths ≡ [] ∷ []
      → IsSearched may fails one moves paths 0
  searched_begun moves paths is =
      subst (λ (ps : List (List ℕ)). IsSearched may fails one moves ps 0) (sym is)
      (record {
        first = refl;
        walks = λ k path at.
            subst (λ (p : List ℕ). IsWalk may fails p) (sym (only k path at)) rests;
        followed = λ k path m less at few. absurd (omega (arith, less));
        orderly = orderly_first;
      })

  front_on : (moves : ℕ) (paths later : List (List ℕ)) (front : ℕ) (path : List ℕ)
      → IsSearched may fails one moves paths front → slice_get paths front ≡ Some path
      → HasFollowedAll may fails one moves paths later path → (k : ℕ) (other : List ℕ) (m : ℕ)
      → k < front + 1 → slice_get later k ≡ Some other → m < moves
      → IsFollowed may fails one later other m
  front_on moves paths later front path searched at whole k other m less there few =
      let followed : HasFollowed may fails one paths later path whole.tried = whole.so in
      elim (cases_lt k front) [
        | inl under ↦
            let old : slice_get paths k ≡ Some (get_or paths k path) =
            there_before paths k front path at under in
            let same : get_or paths k path ≡ other =
            one_of_two (slice_get later k) (get_or paths k path) other
            (followed.grows.kept k (get_or paths k path) old) there in
            followed_more paths later other m followed.grows
            (searched.followed k other m under
            (old ∙ ap (λ (p : List ℕ). Some p) same) few)
        | inr over ↦
            let here : k ≡ front = omega (arith, less, over) in
            let same : path ≡ other =
            one_of_two (slice_get later k) path other
            (subst (λ (j : ℕ). slice_get later j ≡ Some path) (sym here)
            (followed.grows.kept front path at)) there in
            subst (λ (p : List ℕ). IsFollowed may fails one later p m) same
            (followed.followed m (omega (arith, few, whole.all)))
      ]

  pub searched_on : (moves : ℕ) (paths later : List (List ℕ)) (front : ℕ) (path : List ℕ)
      → IsSearched may fails one moves paths front → slice_get paths front ≡ Some path
      → HasFollowedAll may fails one moves paths later path
      → IsSearched may fails one moves later (front + 1)
  searched_on moves paths later front path searched at whole =
      record {
        first = whole.so.grows.kept 0 [] searched.first;
        walks = whole.so.grows.walks searched.walks;
        followed = front_on moves paths later front path searched at whole;
        orderly = orderly_on front path whole.tried paths later searched.orderly at whole.so.adds;
      }

  pub visited : (moves : ℕ) (paths later : List (List ℕ)) (front : ℕ) (path copy : List ℕ)
      (found : Option ℕ) → IsSearched may fails one moves paths front
      → slice_get paths front ≡ Some path → copy ≡ path
      → HasTriedAll may fails one moves paths later copy found → found ≡ None
      → IsSearched may fails one moves later (front + 1)
  visited moves paths later front path copy found searched at same tried none =
      searched_on moves paths later front path searched at
      (subst (λ (p : List ℕ). HasFollowedAll may fails one moves paths later p) same
      (subst (λ (o : Option ℕ). HasTriedAll may fails one moves paths later copy o) none tried))

  pub failed_there : (moves : ℕ) (paths later : List (List ℕ)) (front m : ℕ)
      (path copy : List ℕ) (found : Option ℕ) → IsSearched may fails one moves paths front
      → slice_get paths front ≡ Some path → copy ≡ path
      → HasTriedAll may fails one moves paths later copy found → found ≡ Some m
      → FailsBehind may fails copy m
  failed_there moves paths later front m path copy found searched at same tried is =
      let now : HasTriedAll may fails one moves paths later copy (Some m) =
      subst (λ (o : Option ℕ). HasTriedAll may fails one moves paths later copy o) is tried in
      record {
        walk = subst (λ (p : List ℕ). IsWalk may fails p) (sym same)
            (searched.walks front path at);
        may_be = now.0;
        failed = now.1;
      }

  -- the end
  pub closed_at : (moves most : ℕ) (paths : List (List ℕ)) (front : ℕ)
      → IsSearched may fails one moves paths front → length paths ≤ front → length paths ≤ most
      → AreClosed may fails one moves paths × (length paths ≤ most)
  closed_at moves most paths front searched all few = (
    record {
      first = searched.first;
      walks = searched.walks;
      followed = λ k path m at inside.
          let within : k < length paths = slice_get_within paths k path at in
          searched.followed k path m (omega (arith, within, all)) at inside;
    },
    few,
  )

  pub more_at : (moves most : ℕ) (paths : List (List ℕ)) (front : ℕ)
      → IsSearched may fails one moves paths front → most < length paths → AreMore may fails most
  more_at moves most paths front searched many =
      record {
        paths = paths;
        many = many;
        walks = searched.walks;
        once = searched.orderly.once;
      }

  pub search_on : (moves : ℕ) (paths : List (List ℕ)) (front : ℕ) (ended : Option Failed)
      → IsVisited may fails one moves paths front ended → ended ≡ None
      → IsSearched may fails one moves paths (front + 1)
  search_on moves paths front ended visit is =
      subst (λ (o : Option Failed). IsVisited may fails one moves paths front o) is visit

  pub search_failed : (moves : ℕ) (paths : List (List ℕ)) (front : ℕ) (ended : Option Failed)
      (failed : Failed) → IsVisited may fails one moves paths front ended → ended ≡ Some failed
      → FailsBehind may fails failed.path.items failed.number
  search_failed moves paths front ended failed visit is =
      subst (λ (o : Option Failed). IsVisited may fails one moves paths front o) is visit

  pub all_walked : (moves most : ℕ) (paths items : List (List ℕ)) (ended : Searched)
      → IsEnded may fails one moves most paths ended → ended ≡ AllFollowed → items ≡ paths
      → AreClosed may fails one moves items
      × (AreAlike may fails one → AreFew may moves → MeetsAll may fails one items)
      × (length items ≤ most)
  all_walked moves most paths items ended done is same =
      let there : AreClosed may fails one moves paths × (length paths ≤ most) =
      subst (λ (e : Searched). IsEnded may fails one moves most paths e) is done in
      let closed : AreClosed may fails one moves items =
      subst (λ (ps : List (List ℕ)). AreClosed may fails one moves ps) (sym same) there.0 in (
        closed,
        λ alike few. closed_meet_all may fails one moves items alike few closed,
        subst (λ (ps : List (List ℕ)). length ps ≤ most) (sym same) there.1,
      )

  pub more_walked : (moves most : ℕ) (paths : List (List ℕ)) (ended : Searched)
      → IsEnded may fails one moves most paths ended → ended ≡ MoreThere
      → AreMore may fails most
  more_walked moves most paths ended done is =
      subst (λ (e : Searched). IsEnded may fails one moves most paths e) is done
