-- How far a search has come: the runs that it keeps, one for each world that it has met, in the order
-- in which it met them.
use Rattle.std.specs.Prelude.{ℕ, ◌≡◌, ◌<◌, ◌≤◌, ◌+◌, ◌*◌, ◌++◌, ⊤, suc, Bool, true, false, List, [], ◌∷◌, length, Option, None, Some, slice_get}
use Rattle.hunt_exact.specs.Within.{AreWithin, EndsFine, IsAllowed, Scope, run_of, world_of}
use Rattle.hunt_exact.specs.declared.visiting.Outcome.{Outcome}
use Rattle.hunt_exact.specs.declared.visiting.Outcome.TheVariants.{Stays, Goes, Ends}
use Rattle.model.specs.declared.event.Event.{Event}
use Rattle.model.specs.Machine.{Machine, ShowsWhole}
use Rattle.model.specs.World.{World}

-- a machine shows a run that hasn't stopped
pub record IsAt (scope : Scope) (path : List Event) (m : Machine) : Type 0 where
  pub set : m.set ≡ scope.set
  pub shows : ShowsWhole m scope.threads path
  pub on : m.stopped ≡ false

-- a machine shows a run within the bounds
pub record StandsWithin (scope : Scope) (m : Machine) (events : List Event) : Type 0 where
  pub set : m.set ≡ scope.set
  pub shows : ShowsWhole m scope.threads events
  pub within : AreWithin scope events

-- one of the runs that are kept, of at most so many events, leads to a world, and hasn't stopped
pub record IsMet (scope : Scope) (paths : List (List Event)) (n : ℕ) (w : World) : Type 0 where
  pub number : ℕ
  pub path : List Event
  pub kept : slice_get paths number ≡ Some path
  pub near : length path ≤ n
  pub same : world_of scope path ≡ w
  pub on : (run_of scope path).stopped ≡ false

-- behind a run an event leads to a world: nothing is amiss there, and the run hasn't stopped
pub record Leads (scope : Scope) (events : List Event) (e : Event) (w : World) : Type 0 where
  pub fine : EndsFine scope events e
  pub on : (run_of scope (events ++ e ∷ [])).stopped ≡ false
  pub world : world_of scope (events ++ e ∷ []) ≡ w

-- so does it behind each run that leads to the world of a run, and hasn't stopped
abbrev pub GoesTo : Scope → List Event → Event → World → Type 0
GoesTo scope path e w =
    (events : List Event) → world_of scope events ≡ world_of scope path
    → (run_of scope events).stopped ≡ false
    → Leads scope events e w

-- an event was followed from the world of a run that is kept: it leads to one that was met
pub record IsFollowed (scope : Scope) (paths : List (List Event)) (path : List Event) (e : Event)
    : Type 0 where
  pub world : World
  pub goes : GoesTo scope path e world
  pub met : IsMet scope paths (suc (length path)) world

-- a run that is kept goes on by an event behind another one, and no more are kept before it than
-- there are events behind that one and those before it
pub record IsGrown (scope : Scope) (paths : List (List Event)) (k : ℕ) (path : List Event)
    : Type 0 where
  pub number : ℕ
  pub before : List Event
  pub kept : slice_get paths number ≡ Some before
  pub longer : length path ≡ suc (length before)
  pub few : k ≤ suc number * length scope.moves

-- the runs that are kept are within the bounds and haven't stopped; they stand by their lengths, and
-- none is longer by more than one than that at the front; each but the first goes on behind another;
-- each event that is allowed behind one before the front was followed
pub record IsSearched (scope : Scope) (paths : List (List Event)) (front : ℕ) : Type 0 where
  pub first : slice_get paths 0 ≡ Some []
  pub on : (k : ℕ) (path : List Event) → slice_get paths k ≡ Some path
      → (run_of scope path).stopped ≡ false
  pub within : (k : ℕ) (path : List Event) → slice_get paths k ≡ Some path
      → AreWithin scope path
  pub sorted : (k l : ℕ) (path other : List Event) → k ≤ l → slice_get paths k ≡ Some path
      → slice_get paths l ≡ Some other → length path ≤ length other
  pub near : (k l : ℕ) (path other : List Event) → front ≤ k → slice_get paths k ≡ Some path
      → slice_get paths l ≡ Some other
      → length other ≤ suc (length path)
  pub grown : (k : ℕ) (path : List Event) → 0 < k → slice_get paths k ≡ Some path
      → IsGrown scope paths k path
  pub followed : (k : ℕ) (path : List Event) (e : Event) → k < front
      → slice_get paths k ≡ Some path → IsAllowed scope (world_of scope path) e
      → IsFollowed scope paths path e

-- and no more are kept, beside the first, than there are events behind those before the front
pub record IsCounted (scope : Scope) (paths : List (List Event)) (front : ℕ) : Type 0 where
  pub searched : IsSearched scope paths front
  pub few : length paths ≤ 1 + front * length scope.moves

-- and so were the first events of the list behind the run at the front
pub record IsFollowing (scope : Scope) (paths : List (List Event)) (front : ℕ) (path : List Event)
    (tried : ℕ) : Type 0 where
  pub searched : IsSearched scope paths front
  pub few : length paths ≤ 1 + front * length scope.moves + tried
  pub most : tried ≤ length scope.moves
  pub at : slice_get paths front ≡ Some path
  pub followed : (i : ℕ) (e : Event) → i < tried → slice_get scope.moves i ≡ Some e
      → IsAllowed scope (world_of scope path) e → IsFollowed scope paths path e

-- a world that an event leads to behind a run is met: it was, or this run is kept from now on
pub data IsKept (scope : Scope) (path : List Event) (e : Event) (w : World)
    : List (List Event) → List (List Event) → Type 0 where
  was_met : (paths : List (List Event)) → IsMet scope paths (suc (length path)) w
      → IsKept scope path e w paths paths
  is_new : (paths : List (List Event))
      → IsKept scope path e w paths (paths ++ (path ++ e ∷ []) ∷ [])

-- the run of some events leads to the world of a machine, and doesn't stop
abbrev pub LeadsThere : Scope → List Event → Machine → Type 0
LeadsThere scope path m =
    (others : List Event) → IsAt scope others m
    → (world_of scope path ≡ m.world) × ((run_of scope path).stopped ≡ false)

-- and so does one that is kept
abbrev pub IsThere : Scope → List (List Event) → Machine → Type 0
IsThere scope paths m =
    (others : List Event) → IsAt scope others m → (n : ℕ) × IsMet scope paths n m.world

-- what comes of an event behind a run, where a machine then stands
abbrev pub Came : Scope → List Event → Event → Machine → Outcome → Type 0
Came scope path e m Stays = IsAt scope path m × GoesTo scope path e (world_of scope path)
Came scope path e m Goes = IsAt scope (path ++ e ∷ []) m × GoesTo scope path e m.world
Came scope path e m Ends = ⊤

-- and so it is whatever run the machine was behind
abbrev pub HasCome : Event → Machine → Machine → Outcome → Type 0
HasCome e before after outcome =
    (scope : Scope) (path : List Event) → IsAt scope path before → Came scope path e after outcome

-- the world of a machine behind a run with an event more is met, where no run that is kept is longer
abbrev pub IsKeptFrom : Scope → List Event → Event → Machine → List (List Event)
    → List (List Event) → Type 0
IsKeptFrom scope path e m paths later =
    IsAt scope (path ++ e ∷ []) m
    → ((number : ℕ) (other : List Event) → slice_get paths number ≡ Some other
    → length other ≤ suc (length path))
    → IsKept scope path e m.world paths later

-- an event was followed behind the run at the front, or something is amiss there
abbrev pub Followed : Scope → List Event → ℕ → ℕ → Event → Machine → List (List Event)
    → List (List Event) → Bool → Type 0
Followed scope path front tried e m paths later false =
    IsFollowing scope later front path (suc tried) × IsAt scope path m
Followed scope path front tried e m paths later true =
    (later ≡ paths) × IsAllowed scope (world_of scope path) e

abbrev pub HasFollowed : Scope → List Event → Event → Machine → Machine → List (List Event)
    → List (List Event) → Bool → Type 0
HasFollowed scope path e before after paths later ends =
    (front tried : ℕ) → IsFollowing scope paths front path tried
    → slice_get scope.moves tried ≡ Some e → IsAt scope path before
    → Followed scope path front tried e after paths later ends

-- all events behind the run at the front were followed, or something is amiss behind one
pub record IsFound (scope : Scope) (path : List Event) (paths : List (List Event)) (front : ℕ)
    (e : Event) : Type 0 where
  pub searched : IsSearched scope paths front
  pub at : slice_get paths front ≡ Some path
  pub allowed : IsAllowed scope (world_of scope path) e

abbrev pub IsExpanded : Scope → List Event → List (List Event) → ℕ → Option Event → Type 0
IsExpanded scope path paths front None = IsCounted scope paths (suc front)
IsExpanded scope path paths front (Some e) = IsFound scope path paths front e

abbrev pub HasFollowedEach : Scope → List Event → Machine → List (List Event) → List (List Event)
    → Option Event → Type 0
HasFollowedEach scope path before paths later found =
    (front : ℕ) → IsFollowing scope paths front path 0 → IsAt scope path before
    → IsExpanded scope path later front found

abbrev pub HasExpanded : Scope → List Event → List (List Event) → List (List Event) → Option Event
    → Type 0
HasExpanded scope path paths later found =
    (front : ℕ) → IsCounted scope paths front → slice_get paths front ≡ Some path
    → IsExpanded scope path later front found
