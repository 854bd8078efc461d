-- Interleavings of threads: each step is one of a named thread that isn't idle and waits for no
-- lock.
use Rattle.std.specs.Prelude.{ℕ, ◌≡◌, ◌≤◌, ◌++◌, ◌&&◌, not, Bool, true, false, List, length, map, slice_index_or}
use Rattle.model.specs.declared.event.Event.{Event}
use Rattle.model.specs.declared.event.Event.TheVariants as event
use Rattle.scenario_run.specs.Acting.{passes}
use Rattle.scenario_run.specs.Alike.{GoAlike}
use Rattle.scenario_run.specs.Playing.{Playing, one, run_of, world_of}
use Rattle.hunt_walks.specs.Walks.{AreMore, IsMet, IsWalk}
use Rattle.scenario_world.specs.Going.{goes_on as goes_on_in}

-- a thread goes on: the run hasn't stopped, and the thread has frames and waits for no lock
abbrev pub goes_on : Playing → ℕ → Bool
goes_on p t = not (run_of p).stopped && goes_on_in p.set (world_of p) t

-- a scenario behind steps of threads, one after another
abbrev pub steps_of : List ℕ → List Event
steps_of path = map event.Step path

abbrev pub behind : Playing → List ℕ → Playing
behind p path = record p { events = p.events ++ steps_of path }

-- there a named thread may make a step
abbrev pub is_named : List Bool → ℕ → Bool
is_named named t = slice_index_or named t false

abbrev pub may_step : List Bool → Playing → List ℕ → ℕ → Bool
may_step named p path t = is_named named t && goes_on (behind p path) t

-- and that fails: the run stops, or there is no room for the step
abbrev pub fails_with : Playing → List ℕ → ℕ → Bool
fails_with p path t = not (passes false (one (behind p path) (event.Step t)).outcome)

-- steps of named threads lead to what goes on alike
abbrev pub LeadAlike : Playing → List ℕ → List ℕ → Type 0
LeadAlike p path other =
    GoAlike p.set p.threads (behind p path).events (behind p other).events

-- where such are taken for one
abbrev pub LeadIf : Bool → Playing → List ℕ → List ℕ → Type 0
LeadIf false p path other = ⊥
LeadIf true p path other = LeadAlike p path other

-- an interleaving, by the threads whose steps they are; no step of it fails
abbrev pub IsInterleaving : List Bool → Playing → List ℕ → Type 0
IsInterleaving named p path = IsWalk (may_step named p) (fails_with p) path

-- there are more interleavings than so many, no two of which are the same
abbrev pub AreMany : List Bool → ℕ → Playing → Type 0
AreMany named worlds p = AreMore (may_step named p) (fails_with p) worlds

-- or they lead to so many worlds at most: to those of some, which are no more
pub record MeetFew (named : List Bool) (worlds : ℕ) (p : Playing) : Type 0 where
  pub paths : List (List ℕ)
  pub few : length paths ≤ worlds
  pub met : (path : List ℕ) → IsInterleaving named p path → IsMet (LeadAlike p) paths path

-- it has come to its end: no named thread may make a step
pub record IsEnd (named : List Bool) (p : Playing) (path : List ℕ) : Type 0 where
  pub walk : IsInterleaving named p path
  pub rests : (t : ℕ) → may_step named p path t ≡ false
