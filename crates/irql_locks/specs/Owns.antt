-- What a thread owns, read from the owners of the locks.
use Rattle.std.specs.Prelude.{◌≡◌, ℕ, ◌||◌, ◌↔◌, IsTrue, Bool, false, List, Option, None, Some, nat_eq}
use Rattle.std.specs.List.{list_any}
use Rattle.model.specs.declared.event.Lock.{Lock}
use Rattle.model.specs.World.{Locks, owner_of}

-- the thread is the owner
abbrev pub is_owner : ℕ → Option ℕ → Bool
is_owner t None = false
is_owner t (Some owner) = nat_eq owner t

abbrev pub is_owned_by : ℕ → Option (Option ℕ) → Bool
is_owned_by t None = false
is_owned_by t (Some owner) = is_owner t owner

-- a thread owns a lock
abbrev pub owns : Locks → ℕ → Lock → Bool
owns locks t lock = is_owned_by t (owner_of locks lock)

-- there is a lock that a thread owns
abbrev pub OwnsSome : Locks → ℕ → Type 0
OwnsSome locks t = (lock : Lock) × (owner_of locks lock ≡ Some (Some t))

-- the same as a test: it owns one of these locks, or any lock
abbrev pub owns_one : ℕ → List (Option ℕ) → Bool
owns_one t owners = list_any (is_owner t) owners

abbrev pub owns_any : Locks → ℕ → Bool
owns_any locks t = list_any (owns_one t) locks.spin || is_owner t locks.system_cancel

-- what the tests tell of the owners: a thread owns a lock exactly if it is its owner, and any lock
-- exactly if there is one that it owns
pub record OwningTells : Type 0 where
  pub lock : (locks : Locks) (t : ℕ) (lock : Lock)
      → IsTrue (owns locks t lock) ↔ (owner_of locks lock ≡ Some (Some t))
  pub any : (locks : Locks) (t : ℕ) → IsTrue (owns_any locks t) ↔ OwnsSome locks t
