-- The edges of a driver: which lock its routines take while they hold which, and where.
use Rattle.std.specs.Prelude.{ℕ, ◌≡◌, ◌≢◌, ◌<◌, ◌≤◌, ◌⊎◌, get_or, Bool, true, List, [], ◌∷◌, ◌++◌, All, Option, None, Some, zero, suc, nat_eq, if◌then◌else◌, slice_get, length}
use Rattle.model.specs.declared.abs.Abs.{Abs}
use Rattle.model.specs.declared.instr.Instr.{Instr}
use Rattle.model.specs.declared.instr.Instr.TheVariants.{Acquire, AcquireCancel}
use Rattle.model.specs.declared.set.Driver.{Driver}
use Rattle.model.specs.declared.set.Guard.{Guard}
use Rattle.model.specs.declared.set.Guard.TheVariants.{DeviceLock, CancelLock}
use Rattle.model.specs.LocalRule.{is_held}
use Rattle.model.specs.Set.{Set}
use Rattle.laws_runs.specs.Order.{IsOrder, TakesUnder}
use Rattle.verifier_orders.specs.Cycle.{LeadFrom}
use Rattle.verifier_orders.specs.Ranking.{AreWithin}
use Rattle.verifier_orders.specs.declared.ranking.NumberedEdge.{NumberedEdge}

-- locks by number
abbrev pub number_of : Guard → ℕ
number_of (DeviceLock lock) = lock
number_of CancelLock = 8

abbrev pub holds_number : Abs → ℕ → Bool
holds_number s lock = if nat_eq lock 8 then s.cancel else is_held s lock

abbrev pub number_taken : Instr → Option ℕ
number_taken (Acquire lock) = Some lock
number_taken AcquireCancel = Some 8
number_taken i = None

-- an edge tells where a routine of the driver takes a lock under another
pub record IsNumberedEdge (set : Set) (driver : ℕ) (e : NumberedEdge) : Type 0 where
  pub held : Guard
  pub taken : Guard
  pub under : TakesUnder set driver held taken
  pub held_is : e.held ≡ number_of held
  pub taken_is : e.taken ≡ number_of taken
  pub routine : under.number ≡ e.routine
  pub position : under.position ≡ e.at

-- an edge between two locks is there
abbrev pub HasEdge : List NumberedEdge → Guard → Guard → Type 0
HasEdge edges held taken =
    (k : ℕ) × (e : NumberedEdge) × (slice_get edges k ≡ Some e) × (e.held ≡ number_of held)
    × (e.taken ≡ number_of taken)

-- no edge between two locks is there
abbrev pub IsNew : List NumberedEdge → ℕ → ℕ → Type 0
IsNew edges held taken =
    All (λ (e : NumberedEdge). e.taken ≡ taken → e.held ≡ held → ⊥) edges

-- an edge is added to some if it is one, and new
abbrev pub IsAdded : Bool → NumberedEdge → List NumberedEdge → List NumberedEdge → Type 0
IsAdded is e old new =
    ((new ≡ old) × (is ≡ true → IsNew old e.held e.taken → ⊥))
    ⊎ ((is ≡ true) × IsNew old e.held e.taken × (new ≡ old ++ e ∷ []))

-- edges that an instruction makes which takes a lock in a state are: from those of so many locks
-- that are held
abbrev pub edge : ℕ → ℕ → ℕ → ℕ → NumberedEdge
edge held taken routine at =
    record { held = held; taken = taken; routine = routine; at = at }

abbrev pub AreAdded : Abs → ℕ → ℕ → ℕ → ℕ → List NumberedEdge → List NumberedEdge → Type 0
AreAdded s taken routine at zero old new = new ≡ old
AreAdded s taken routine at (suc lock) old new =
    (before : List NumberedEdge) × AreAdded s taken routine at lock old before
    × IsAdded (holds_number s lock) (edge lock taken routine at) before new

-- no two edges are between the same locks
abbrev pub AreOnce : List NumberedEdge → Type 0
AreOnce edges =
    (j k : ℕ) (e f : NumberedEdge) → slice_get edges j ≡ Some e → slice_get edges k ≡ Some f
    → e.held ≡ f.held → e.taken ≡ f.taken → j ≡ k

-- an edge comes before another: in an earlier routine, or at an earlier position of the same one, or
-- there under a lock of a lower number
abbrev pub ComesBefore : NumberedEdge → NumberedEdge → Type 0
ComesBefore e f =
    (e.routine < f.routine)
    ⊎ ((e.routine ≡ f.routine)
    × ((e.at < f.at) ⊎ ((e.at ≡ f.at) × (e.held < f.held))))

-- each edge comes before those behind it
abbrev pub AreInOrder : List NumberedEdge → Type 0
AreInOrder edges =
    (j k : ℕ) (e f : NumberedEdge) → j < k → slice_get edges j ≡ Some e
    → slice_get edges k ≡ Some f → ComesBefore e f

-- an edge is before a position of a routine
abbrev pub IsPast : ℕ → ℕ → NumberedEdge → Type 0
IsPast routine at e = (e.routine < routine) ⊎ ((e.routine ≡ routine) × (e.at < at))

-- and no later than one
abbrev pub IsNoLater : ℕ → ℕ → NumberedEdge → Type 0
IsNoLater routine at e = (e.routine < routine) ⊎ ((e.routine ≡ routine) × (e.at ≤ at))

-- nowhere before it the one lock is taken under the other
abbrev pub IsFirstEdge : Set → ℕ → NumberedEdge → Type 0
IsFirstEdge set driver e =
    (held taken : Guard) (u : TakesUnder set driver held taken) → e.held ≡ number_of held
    → e.taken ≡ number_of taken → IsNoLater u.number u.position e

-- all edges of the routines before one, and of that one before a position
pub record AreEdgesTo (set : Set) (driver routine at : ℕ) (edges : List NumberedEdge) : Type 0 where
  pub within : AreWithin edges
  pub once : AreOnce edges
  pub each : All (IsNumberedEdge set driver) edges
  pub all : (held taken : Guard) (u : TakesUnder set driver held taken)
      → (u.number < routine) ⊎ ((u.number ≡ routine) × (u.position < at))
      → HasEdge edges held taken
  pub past : All (IsPast routine at) edges
  pub ordered : AreInOrder edges
  pub first : All (IsFirstEdge set driver) edges

-- all edges of a driver
pub record AreEdgesOf (set : Set) (driver : ℕ) (edges : List NumberedEdge) : Type 0 where
  pub within : AreWithin edges
  pub once : AreOnce edges
  pub each : All (IsNumberedEdge set driver) edges
  pub all : (held taken : Guard) → TakesUnder set driver held taken → HasEdge edges held taken
  pub ordered : AreInOrder edges
  pub first : All (IsFirstEdge set driver) edges

-- how many routines a driver has
abbrev pub count_of : Option Driver → ℕ
count_of None = 0
count_of (Some d) = length d.routines

-- edges that come back to where they begin: the routines of a driver take locks in a cycle
pub record IsNumberedCycle (set : Set) (driver : ℕ) (cycle : List NumberedEdge) : Type 0 where
  pub lock : ℕ
  pub on : LeadFrom lock cycle lock
  pub some : cycle ≢ []
  pub each : All (IsNumberedEdge set driver) cycle

-- the place of a lock among nine
abbrev pub place_in : List ℕ → Guard → ℕ
place_in places lock = get_or places (number_of lock) 0

-- no order of the locks is possible
abbrev pub HasNoOrder : Set → ℕ → Type 0
HasNoOrder set driver = (place : Guard → ℕ) → IsOrder set driver place → ⊥
