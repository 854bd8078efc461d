-- Walks: moves one after another, from one place on. A move may be made behind others, or not; where
-- it may be, it goes on or fails. Two walks may lead to places that are one: moves behind them go on
-- alike.
use Rattle.std.specs.Prelude.{ℕ, ◌≡◌, ◌<◌, ◌++◌, ◌⊎◌, Bool, true, false, List, [], ◌∷◌, Some, length, slice_get}

-- each move of a walk may be made behind those before it, and doesn't fail there
pub data IsWalk (may fails : List ℕ → ℕ → Bool) : List ℕ → Type 0 where
  rests : IsWalk may fails []
  goes : (path : List ℕ) (m : ℕ) → IsWalk may fails path → may path m ≡ true
      → fails path m ≡ false → IsWalk may fails (path ++ m ∷ [])

-- some walks that are kept have one that leads to the place of a walk
pub record IsMet (one : List ℕ → List ℕ → Type 0) (paths : List (List ℕ)) (path : List ℕ)
    : Type 0 where
  pub number : ℕ
  pub other : List ℕ
  pub kept : slice_get paths number ≡ Some other
  pub same : (path ≡ other) ⊎ one path other

-- a move behind a walk is followed: it goes on to a place that is met
pub record Goes (fails : List ℕ → ℕ → Bool) (one : List ℕ → List ℕ → Type 0)
    (paths : List (List ℕ)) (path : List ℕ) (m : ℕ) : Type 0 where
  pub well : fails path m ≡ false
  pub met : IsMet one paths (path ++ m ∷ [])

abbrev pub IsFollowed : (List ℕ → ℕ → Bool) → (List ℕ → ℕ → Bool) → (List ℕ → List ℕ → Type 0)
    → List (List ℕ) → List ℕ → ℕ → Type 0
IsFollowed may fails one paths path m = may path m ≡ true → Goes fails one paths path m

-- all that are kept are walks
abbrev pub AreWalks : (List ℕ → ℕ → Bool) → (List ℕ → ℕ → Bool) → List (List ℕ) → Type 0
AreWalks may fails paths =
    (k : ℕ) (path : List ℕ) → slice_get paths k ≡ Some path → IsWalk may fails path

-- the walks that are kept are closed: each of so many moves behind each of them is followed
pub record AreClosed (may fails : List ℕ → ℕ → Bool) (one : List ℕ → List ℕ → Type 0)
    (moves : ℕ) (paths : List (List ℕ)) : Type 0 where
  pub first : slice_get paths 0 ≡ Some []
  pub walks : AreWalks may fails paths
  pub followed : (k : ℕ) (path : List ℕ) (m : ℕ) → slice_get paths k ≡ Some path → m < moves
      → IsFollowed may fails one paths path m

-- each walk that is kept is kept once
abbrev pub AreOnce : List (List ℕ) → Type 0
AreOnce paths =
    (i k : ℕ) (path : List ℕ) → slice_get paths i ≡ Some path → slice_get paths k ≡ Some path
    → i ≡ k

-- there are more walks than so many, no two of which are the same
pub record AreMore (may fails : List ℕ → ℕ → Bool) (most : ℕ) : Type 0 where
  pub paths : List (List ℕ)
  pub many : most < length paths
  pub walks : AreWalks may fails paths
  pub once : AreOnce paths

-- a move behind a walk may be made, and fails
pub record FailsBehind (may fails : List ℕ → ℕ → Bool) (path : List ℕ) (m : ℕ) : Type 0 where
  pub walk : IsWalk may fails path
  pub may_be : may path m ≡ true
  pub failed : fails path m ≡ true

-- places that are one go on alike
pub record AreAlike (may fails : List ℕ → ℕ → Bool) (one : List ℕ → List ℕ → Type 0) : Type 0
  where
    pub joins : (a b c : List ℕ) → one a b → one b c → one a c
    pub may_too : (a b : List ℕ) (m : ℕ) → one a b → may a m ≡ may b m
    pub fails_too : (a b : List ℕ) (m : ℕ) → one a b → may a m ≡ true → fails a m ≡ fails b m
    pub goes_too : (a b : List ℕ) (m : ℕ) → one a b → may a m ≡ true → fails a m ≡ false
        → one (a ++ m ∷ []) (b ++ m ∷ [])

-- only so many moves may be made anywhere
abbrev pub AreFew : (List ℕ → ℕ → Bool) → ℕ → Type 0
AreFew may moves = (path : List ℕ) (m : ℕ) → may path m ≡ true → m < moves

-- so no move behind any walk fails, and each walk leads to the place of one that is kept
pub record MeetsAll (may fails : List ℕ → ℕ → Bool) (one : List ℕ → List ℕ → Type 0)
    (paths : List (List ℕ)) : Type 0 where
  pub met : (path : List ℕ) → IsWalk may fails path → IsMet one paths path
  pub well : (path : List ℕ) (m : ℕ) → IsWalk may fails path → may path m ≡ true
      → fails path m ≡ false
