-- Locks and edges by name.
use Rattle.std.specs.Prelude.{ℕ, ◌≡◌, ◌<◌, List, [], ◌∷◌, Some, nat_eq, if◌then◌else◌, slice_get, length}
use Rattle.model.specs.declared.set.Guard.{Guard}
use Rattle.model.specs.declared.set.Guard.TheVariants.{DeviceLock, CancelLock}
use Rattle.verifier_orders.specs.declared.names.Edge.{Edge}
use Rattle.verifier_orders.specs.declared.ranking.NumberedEdge.{NumberedEdge}
use Rattle.verifier_orders.specs.Edges.{place_in}

-- the lock of a number
abbrev pub guard_of : ℕ → Guard
guard_of n = if nat_eq n 8 then CancelLock else DeviceLock n

abbrev pub named : NumberedEdge → Edge
named e = record {
  held = guard_of e.held;
  taken = guard_of e.taken;
  routine = e.routine;
  at = e.at;
}

abbrev pub all_named : List NumberedEdge → List Edge
all_named [] = []
all_named (e ∷ edges) = named e ∷ all_named edges

-- so many of the nine locks, each at its place
pub record AreByPlace (places : List ℕ) (locks : List Guard) (count : ℕ) : Type 0 where
  pub long : length locks ≡ count
  pub each : (k : ℕ) (lock : Guard) → slice_get locks k ≡ Some lock → place_in places lock ≡ k
  pub known : (k : ℕ) (lock : Guard) → slice_get locks k ≡ Some lock
      → (n : ℕ) × (n < 9) × (lock ≡ guard_of n)
