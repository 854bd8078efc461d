-- How far a search has come: the walks that it keeps, in the order in which it met their places.
use Rattle.std.specs.Prelude.{ℕ, ◌≡◌, ◌<◌, ◌≤◌, ◌+◌, ◌++◌, ◌⊎◌, Bool, true, false, List, [], ◌∷◌, Option, None, Some, length, slice_get}
use Rattle.hunt_walks.specs.Walks.{AreAlike, AreClosed, AreFew, AreMore, AreOnce, AreWalks, FailsBehind, IsFollowed, IsMet, MeetsAll}
use Rattle.hunt_walks.specs.declared.search.Failed.{Failed}
use Rattle.hunt_walks.specs.declared.search.Searched.{Searched}
use Rattle.hunt_walks.specs.declared.search.Searched.TheVariants.{All as AllFollowed, Fails as FailsThere, More as MoreThere}
use Rattle.hunt_walks.specs.declared.search.Walked.{Walked}
use Rattle.hunt_walks.specs.declared.search.Walked.TheVariants.{All, Fails, More}

-- a walk goes on by one move from one that is kept before the front
pub record IsBehind (paths : List (List ℕ)) (front : ℕ) (path : List ℕ) : Type 0 where
  pub number : ℕ
  pub before : List ℕ
  pub move : ℕ
  pub earlier : number < front
  pub kept : slice_get paths number ≡ Some before
  pub by : path ≡ before ++ move ∷ []

-- each walk is kept once, and each but that of no moves goes on from one before the front
pub record IsOrderly (paths : List (List ℕ)) (front : ℕ) : Type 0 where
  pub once : AreOnce paths
  pub from : (k : ℕ) (path : List ℕ) → slice_get paths k ≡ Some path
      → (path ≡ []) ⊎ IsBehind paths front path

-- the walks before the front are followed by each of so many moves
pub record IsSearched (may fails : List ℕ → ℕ → Bool) (one : List ℕ → List ℕ → Type 0)
    (moves : ℕ) (paths : List (List ℕ)) (front : ℕ) : Type 0 where
  pub first : slice_get paths 0 ≡ Some []
  pub walks : AreWalks may fails paths
  pub followed : (k : ℕ) (path : List ℕ) (m : ℕ) → k < front → slice_get paths k ≡ Some path
      → m < moves → IsFollowed may fails one paths path m
  pub orderly : IsOrderly paths front

-- walks stay where they are, and more of them are kept
pub record Grows (may fails : List ℕ → ℕ → Bool) (before after : List (List ℕ)) : Type 0 where
  pub kept : (k : ℕ) (path : List ℕ) → slice_get before k ≡ Some path
      → slice_get after k ≡ Some path
  pub walks : AreWalks may fails before → AreWalks may fails after

-- one walk is added, or none
abbrev pub Adds : List (List ℕ) → List (List ℕ) → List ℕ → Type 0
Adds before after path = (after ≡ before) ⊎ (after ≡ before ++ path ∷ [])

-- those of one move more behind a walk are added, or some of them, by moves below a number in turn
pub data AddsBehind (path : List ℕ) : ℕ → List (List ℕ) → List (List ℕ) → Type 0 where
  no_more : (n : ℕ) (paths : List (List ℕ)) → AddsBehind path n paths paths
  one_more : (m n : ℕ) (before after : List (List ℕ)) → AddsBehind path m before after → m < n
      → AddsBehind path n before (after ++ (path ++ m ∷ []) ∷ [])

-- so many moves behind a walk are followed, with more walks
pub record HasFollowed (may fails : List ℕ → ℕ → Bool) (one : List ℕ → List ℕ → Type 0)
    (before after : List (List ℕ)) (path : List ℕ) (tried : ℕ) : Type 0 where
  pub grows : Grows may fails before after
  pub followed : (m : ℕ) → m < tried → IsFollowed may fails one after path m
  pub adds : AddsBehind path tried before after

-- and all of so many
pub record HasFollowedAll (may fails : List ℕ → ℕ → Bool) (one : List ℕ → List ℕ → Type 0)
    (moves : ℕ) (before after : List (List ℕ)) (path : List ℕ) : Type 0 where
  pub tried : ℕ
  pub all : moves ≤ tried
  pub so : HasFollowed may fails one before after path tried

-- a move behind a walk is followed, or fails
abbrev pub HasTried : (List ℕ → ℕ → Bool) → (List ℕ → ℕ → Bool) → (List ℕ → List ℕ → Type 0)
    → List (List ℕ) → List (List ℕ) → List ℕ → ℕ → Bool → Type 0
HasTried may fails one before after path m true =
    Grows may fails before after
    × IsFollowed may fails one after path m
    × Adds before after (path ++ m ∷ [])
HasTried may fails one before after path m false =
    (may path m ≡ true) × (fails path m ≡ true)

-- and so are all moves, up to the first that fails
abbrev pub HasTriedAll : (List ℕ → ℕ → Bool) → (List ℕ → ℕ → Bool) → (List ℕ → List ℕ → Type 0)
    → ℕ → List (List ℕ) → List (List ℕ) → List ℕ → Option ℕ → Type 0
HasTriedAll may fails one moves before after path None =
    HasFollowedAll may fails one moves before after path
HasTriedAll may fails one moves before after path (Some m) =
    (may path m ≡ true) × (fails path m ≡ true)

-- how a search has ended: with all walks that it keeps, as many as were wanted at most, which meet
-- all where places that are one go on alike; at a move that fails behind one; or since there are
-- more walks than were wanted
abbrev pub IsWalked : (List ℕ → ℕ → Bool) → (List ℕ → ℕ → Bool) → (List ℕ → List ℕ → Type 0) → ℕ
    → ℕ → Walked → Type 0
IsWalked may fails one moves most (All paths) =
    AreClosed may fails one moves paths.items
    × (AreAlike may fails one → AreFew may moves → MeetsAll may fails one paths.items)
    × (length paths.items ≤ most)
IsWalked may fails one moves most (Fails failed) =
    FailsBehind may fails failed.path.items failed.number
IsWalked may fails one moves most More = AreMore may fails most

-- a walk is kept, or its place was met
abbrev pub Keeps : (List ℕ → ℕ → Bool) → (List ℕ → ℕ → Bool) → (List ℕ → List ℕ → Type 0)
    → List (List ℕ) → List (List ℕ) → List ℕ → Type 0
Keeps may fails one before after path =
    Grows may fails before after × IsMet one after path × Adds before after path

-- a visit of the front, and the end of a search
abbrev pub IsVisited : (List ℕ → ℕ → Bool) → (List ℕ → ℕ → Bool) → (List ℕ → List ℕ → Type 0)
    → ℕ → List (List ℕ) → ℕ → Option Failed → Type 0
IsVisited may fails one moves paths front None = IsSearched may fails one moves paths (front + 1)
IsVisited may fails one moves paths front (Some failed) =
    FailsBehind may fails failed.path.items failed.number

abbrev pub IsEnded : (List ℕ → ℕ → Bool) → (List ℕ → ℕ → Bool) → (List ℕ → List ℕ → Type 0)
    → ℕ → ℕ → List (List ℕ) → Searched → Type 0
IsEnded may fails one moves most paths AllFollowed =
    AreClosed may fails one moves paths × (length paths ≤ most)
IsEnded may fails one moves most paths (FailsThere failed) =
    FailsBehind may fails failed.path.items failed.number
IsEnded may fails one moves most paths MoreThere = AreMore may fails most
