-- The runs within the bounds of an exact hunt, and what it says of them: their events are some of a
-- list, and they issue so many packets at most in all. Nothing else bounds them: they may be of any
-- length.
use Rattle.std.specs.Prelude.{ℕ, ◌≡◌, ◌<◌, ◌++◌, Bool, true, nat_lt, List, [], ◌∷◌, length, Option, None, Some, slice_get}
use Rattle.hunt_exact.specs.Amiss.{amiss_at}
use Rattle.tell_audit.specs.declared.amiss.Amiss.{Amiss}
use Rattle.model.specs.declared.event.Event.{Event}
use Rattle.model.specs.declared.event.Event.TheVariants.{Issue, Cancel, Interrupt, Dpc, StartIo, Step}
use Rattle.model.specs.Machine.{reply_to}
use Rattle.model.specs.Run.{Run, run}
use Rattle.model.specs.Set.{Set}
use Rattle.model.specs.World.{World}

-- what is searched: the runs of a set on so many threads whose events are some of a list, and which
-- issue so many packets at most
pub record Scope : Type 0 where
  pub set : Set
  pub threads : ℕ
  pub packets : ℕ
  pub moves : List Event

-- the run of a list of events
abbrev pub run_of : Scope → List Event → Run
run_of scope events = run scope.set scope.threads events

abbrev pub world_of : Scope → List Event → World
world_of scope events = (run_of scope events).world

-- an event is one of a list
abbrev pub IsOne : List Event → Event → Type 0
IsOne moves e = (i : ℕ) × (slice_get moves i ≡ Some e)

-- where so many packets may be issued in all, an event sends no new one too many
abbrev pub is_open : ℕ → World → Event → Bool
is_open packets w (Issue thread device major argument) = nat_lt w.shared.issued packets
is_open packets w (Cancel thread packet level) = true
is_open packets w (Interrupt device) = true
is_open packets w (Dpc thread device) = true
is_open packets w (StartIo thread device) = true
is_open packets w (Step thread) = true

-- an event is within the bounds in a world
pub record IsAllowed (scope : Scope) (w : World) (e : Event) : Type 0 where
  pub tried : IsOne scope.moves e
  pub may : is_open scope.packets w e ≡ true

-- a run is within the bounds: each of its events is, in the world of those before it
abbrev pub AreWithin : Scope → List Event → Type 0
AreWithin scope events =
    (before : List Event) (e : Event) (after : List Event) → events ≡ before ++ e ∷ after
    → IsAllowed scope (world_of scope before) e

-- what is amiss behind the last event of a run
abbrev pub amiss_behind : Scope → List Event → Event → Option Amiss
amiss_behind scope before e =
    amiss_at scope.set (world_of scope (before ++ e ∷ []))
    (reply_to scope.set scope.threads before e)

-- nothing, and this
abbrev pub EndsFine : Scope → List Event → Event → Type 0
EndsFine scope before e = amiss_behind scope before e ≡ None

abbrev pub EndsAmiss : Scope → List Event → Event → Amiss → Type 0
EndsAmiss scope before e amiss = amiss_behind scope before e ≡ Some amiss

-- no run within the bounds ends amiss, of any length; and none of up to so many events
abbrev pub NeverAmiss : Scope → Type 0
NeverAmiss scope =
    (before : List Event) (e : Event) → AreWithin scope (before ++ e ∷ [])
    → EndsFine scope before e

abbrev pub FineUpTo : Scope → ℕ → Type 0
FineUpTo scope n =
    (before : List Event) (e : Event) → AreWithin scope (before ++ e ∷ []) → length before < n
    → EndsFine scope before e
