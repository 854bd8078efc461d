-- What an exact hunt answers.
use Rattle.std.specs.Prelude.{ℕ, ◌≡◌, ◌<◌, ◌≤◌, ◌+◌, ◌*◌, ◌++◌, ◌⊎◌, zero, suc, Bool, List, [], ◌∷◌, length, Option, None, Some, slice_get}
use Rattle.hunt_exact.specs.declared.search.Exactly.{Exactly}
use Rattle.hunt_exact.specs.declared.search.Exactly.TheVariants.{Found, Never, More}
use Rattle.hunt_exact.specs.declared.search.Limits.{Limits}
use Rattle.hunt_exact.specs.declared.search.Searched.{Searched}
use Rattle.hunt_exact.specs.declared.search.Searched.TheVariants.{Amiss, All, More as MoreLeft}
use Rattle.hunt_exact.specs.declared.search.Shortest.{Shortest}
use Rattle.hunt_facts.specs.declared.requests.Request.{Request}
use Rattle.hunt_exact.specs.Moves.{tried_events}
use Rattle.hunt_exact.specs.Searched.{IsCounted}
use Rattle.hunt_exact.specs.Within.{AreWithin, EndsAmiss, FineUpTo, NeverAmiss, Scope, world_of}
use Rattle.model.specs.declared.event.Event.{Event}
use Rattle.model.specs.Set.{Set}

-- a run that is kept is within the bounds with an event more, behind which something is amiss; none
-- that is shorter ends amiss
pub record IsAmissBehind (scope : Scope) (paths : List (List Event)) (number : ℕ) (e : Event)
    : Type 0 where
  pub path : List Event
  pub kept : slice_get paths number ≡ Some path
  pub within : AreWithin scope (path ++ e ∷ [])
  pub shortest : FineUpTo scope (length path)

-- so many runs within the bounds lead to all worlds that runs within the bounds lead to
pub record LeadToAll (scope : Scope) (worlds : ℕ) : Type 0 where
  pub runs : List (List Event)
  pub many : length runs ≡ worlds
  pub within : (k : ℕ) (run : List Event) → slice_get runs k ≡ Some run → AreWithin scope run
  pub all : (events : List Event) → AreWithin scope events
      → (k : ℕ) × (run : List Event) × (slice_get runs k ≡ Some run)
      × (world_of scope run ≡ world_of scope events)

-- how many lists of up to so many events there are, where each event is one of so many
abbrev pub lists_up_to : ℕ → ℕ → ℕ
lists_up_to moves zero = 1
lists_up_to moves (suc events) = 1 + lists_up_to moves events * moves

-- runs are as long as they may be
abbrev pub IsFar : Option ℕ → ℕ → Type 0
IsFar None events = ⊥
IsFar (Some most) events = most ≤ events

-- a search gives up behind runs of so many events: these are as long as they may be, or more worlds
-- were met than may be kept; and no more than there are runs of one event more
pub record HasGivenUp (scope : Scope) (limits : Limits) (worlds events : ℕ) : Type 0 where
  pub reached : IsFar limits.events events ⊎ (limits.worlds < worlds)
  pub few : worlds ≤ lists_up_to (length scope.moves) (suc events)

-- how a search has ended
abbrev pub IsEnded : Scope → Limits → List (List Event) → Searched → Type 0
IsEnded scope limits paths (Amiss number e) = IsAmissBehind scope paths number e
IsEnded scope limits paths (All worlds) = NeverAmiss scope × LeadToAll scope worlds
IsEnded scope limits paths (MoreLeft worlds events) =
    FineUpTo scope events × HasGivenUp scope limits worlds events

-- or it goes on behind the run at the front
abbrev pub IsVisited : Scope → Limits → List (List Event) → ℕ → Option Searched → Type 0
IsVisited scope limits paths front None = IsCounted scope paths (front + 1)
IsVisited scope limits paths front (Some ended) = IsEnded scope limits paths ended

-- where something is amiss after an event behind a run, the search has ended
abbrev pub ended_by : ℕ → Option Event → Option Searched
ended_by number None = None
ended_by number (Some e) = Some (Amiss number e)

-- a run within the bounds ends amiss as is told, and none that is shorter ends amiss
pub record IsShortest (scope : Scope) (find : Shortest) : Type 0 where
  pub amiss : EndsAmiss scope find.before.items find.last find.amiss
  pub within : AreWithin scope (find.before.items ++ find.last ∷ [])
  pub shortest : FineUpTo scope (length find.before.items)

-- a shortest run that ends amiss; or none within the bounds does, of any length, and they lead to so
-- many worlds at most; or none of up to so many events, where a limit was reached
abbrev pub IsExact : Scope → Limits → Exactly → Type 0
IsExact scope limits (Found find) = IsShortest scope find
IsExact scope limits (Never worlds) = NeverAmiss scope × LeadToAll scope worlds
IsExact scope limits (More worlds events) =
    FineUpTo scope events × HasGivenUp scope limits worlds events

-- the runs of a set on so many threads, which issue so many packets at most, and try these requests,
-- and IoCancelIrp at DISPATCH_LEVEL too where that is asked for
abbrev pub scope_of : Set → ℕ → ℕ → List Request → Bool → Scope
scope_of set threads packets requests raised =
    record {
      set = set;
      threads = threads;
      packets = packets;
      moves = tried_events requests raised packets (length set.devices) threads;
    }
