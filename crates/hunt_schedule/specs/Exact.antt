-- What is told of an exact hunt: a schedule within the bounds, whose run ends amiss as its first line
-- tells, so that no run within the bounds that is shorter ends amiss; or that no run within the bounds
-- does, of any length, and how many worlds they lead to at most; or that none of up to so many events
-- does, where a limit was reached.
use Rattle.std.specs.Prelude.{ℕ, ◌≡◌, ◌+◌, Bool, List, Some, length}
use Rattle.hunt_facts.specs.declared.bounds.Bounds.{Bounds}
use Rattle.hunt_facts.specs.declared.bounds.Goal.TheVariants.{Amiss}
use Rattle.hunt_exact.specs.declared.search.Exactly.{Exactly}
use Rattle.hunt_exact.specs.declared.search.Limits.{Limits}
use Rattle.hunt_exact.specs.declared.search.Shortest.{Shortest}
use Rattle.hunt_exact.specs.Exact.{HasGivenUp, IsExact, IsShortest, LeadToAll, scope_of}
use Rattle.hunt_exact.specs.Within.{AreWithin, FineUpTo, NeverAmiss, Scope}
use Rattle.hunt_facts.specs.declared.arguments.Asking.{Asking}
use Rattle.hunt_facts.specs.Raised.{is_raised}
use Rattle.hunt_facts.specs.Requests.{requests_of}
use Rattle.hunt_schedule.specs.declared.telling.Told.{Told}
use Rattle.hunt_schedule.specs.declared.telling.Told.TheVariants.{Found as TellsFind, Unlisted, All, More as MoreLeft}
use Rattle.hunt_schedule.specs.Lines.{fine_line, never_line, unlisted_line}
use Rattle.hunt_schedule.specs.Telling.{TellsItsEnd}
use Rattle.hunt_search.specs.Hunts.{TellsRefused}
use Rattle.model.specs.Set.{Set}
use Rattle.tell_audit.specs.declared.ending.Ending.TheVariants.{Fails}

-- the runs within the bounds: so many packets are issued in all; requests are those that a hunt tries,
-- where the argument of these is read; and IoCancelIrp is called at DISPATCH_LEVEL too, where a routine
-- that may run below it touches paged cells
abbrev pub scope_within : Set → Bounds → List Asking → Scope
scope_within set bounds asking =
    scope_of set bounds.threads bounds.packets (requests_of set bounds.argument asking)
    (is_raised set)

-- the limits of a search
abbrev pub limits_of : Bounds → Limits
limits_of bounds = record { worlds = bounds.worlds; events = bounds.events }

-- the bounds of a run that ends amiss, of at most so many events
abbrev pub as_short : Bounds → ℕ → Bounds
as_short bounds events =
    record {
      threads = bounds.threads;
      packets = bounds.packets;
      worlds = bounds.worlds;
      events = Some events;
      argument = bounds.argument;
      goal = Amiss;
    }

-- the schedule that is told is within the bounds, and its run ends as is told first
pub record TellsWithin (scope : Scope) (bounds : Bounds) (text : List ℕ) : Type 0 where
  pub tells : TellsItsEnd scope.set bounds text
  pub within : AreWithin scope tells.schedule.events

-- a schedule is told, no longer than a shortest run that ends amiss
pub record IsShortestTold (scope : Scope) (bounds : Bounds) (text : List ℕ) : Type 0 where
  pub find : Shortest
  pub shortest : IsShortest scope find
  pub tells : TellsWithin scope (as_short bounds (length find.before.items + 1)) text

-- a shortest run ends amiss, and its schedule isn't told
pub record IsShortestUnlisted (scope : Scope) (line : List ℕ) : Type 0 where
  pub find : Shortest
  pub shortest : IsShortest scope find
  pub says : line ≡ unlisted_line (Fails find.amiss)

-- a line that says of a refused set what isn't looked for
pub record IsLineOf (set : Set) (line_of : Bool → List ℕ) (line : List ℕ) : Type 0 where
  pub refused : Bool
  pub verdict : TellsRefused set refused
  pub says : line ≡ line_of refused

abbrev pub TellsExactly : Scope → Bounds → Told → Type 0
TellsExactly scope bounds (TellsFind text) = IsShortestTold scope bounds text.items
TellsExactly scope bounds (Unlisted line) = IsShortestUnlisted scope line.items
TellsExactly scope bounds (All line worlds) =
    NeverAmiss scope × LeadToAll scope worlds
    × IsLineOf scope.set (never_line bounds worlds) line.items
TellsExactly scope bounds (MoreLeft line worlds events) =
    FineUpTo scope events × HasGivenUp scope (limits_of bounds) worlds events
    × IsLineOf scope.set (fine_line bounds worlds events) line.items

-- what is told of a shortest run
abbrev pub TellsShortest : Scope → Bounds → Shortest → Told → Type 0
TellsShortest scope bounds find (TellsFind text) =
    TellsWithin scope (as_short bounds (length find.before.items + 1)) text.items
TellsShortest scope bounds find (Unlisted line) =
    line.items ≡ unlisted_line (Fails find.amiss)
TellsShortest scope bounds find (All line worlds) = ⊥
TellsShortest scope bounds find (MoreLeft line worlds events) = ⊥

-- what is told of what came of a search
abbrev pub AreTold : Scope → Bounds → Exactly → Told → Type 0
AreTold scope bounds found told =
    IsExact scope (limits_of bounds) found → TellsExactly scope bounds told

-- what is told of an exact hunt in the runs of a set
pub record IsToldExactly (set : Set) (bounds : Bounds) (told : Told) : Type 0 where
  pub asking : List Asking
  pub tells : TellsExactly (scope_within set bounds asking) bounds told
