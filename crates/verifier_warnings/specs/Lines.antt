-- What is told of the order in which each driver of a set takes its locks.
use Rattle.std.specs.Prelude.{ℕ, ◌≡◌, ◌≢◌, ◌++◌, ◌⊎◌, Bool, true, false, List, [], ◌∷◌, Option, None, Some, zero, suc, codes, decimal, get_or, is_some, length, slice_get}
use Rattle.std.specs.List.{list_any}
use Rattle.laws_runs.specs.Order.{TakesUnder, lock_named}
use Rattle.model.specs.declared.instr.Instr.{Instr}
use Rattle.model.specs.declared.set.Driver.{Driver}
use Rattle.model.specs.declared.set.Guard.{Guard}
use Rattle.model.specs.declared.set.Guard.TheVariants.{DeviceLock, CancelLock}
use Rattle.model.specs.declared.set.Routine.{Routine as RoutineOf}
use Rattle.model.specs.Set.{Set}
use Rattle.verifier_orders.specs.Edges.{HasNoOrder}
use Rattle.verifier_orders.specs.Orders.{ArePaired}
use Rattle.verifier_warnings.specs.Orders.{EndsWith, TellsEnd}
use Rattle.verifier_warnings.specs.Warnings.{AreLines}

-- an instruction takes a lock, one of a routine's does, and one of a driver's
abbrev pub is_taking : Instr → Bool
is_taking i = is_some (lock_named i)

abbrev pub takes_in : RoutineOf → Bool
takes_in routine = list_any is_taking routine.code

abbrev pub takes_lock : Option Driver → Bool
takes_lock None = false
takes_lock (Some d) = list_any takes_in d.routines

-- no routine of a driver takes a lock while it holds one
abbrev pub HoldsNoTwo : Set → ℕ → Type 0
HoldsNoTwo set driver = (held taken : Guard) → TakesUnder set driver held taken → ⊥

-- the name of a lock
abbrev pub lock_name : Guard → List ℕ
lock_name (DeviceLock spin) = codes "l" ++ decimal spin
lock_name CancelLock = codes "the system cancel spin lock"

-- what stands before the name of a place in a row
abbrev pub comma : ℕ → List ℕ
comma zero = []
comma (suc place) = codes ", "

-- the names of so many locks
abbrev pub names_to : List Guard → ℕ → List ℕ
names_to locks zero = []
names_to locks (suc count) =
    names_to locks count ++ comma count ++ lock_name (get_or locks count CancelLock)

-- what is told behind the name of a driver that takes locks, of those that it takes two at once
abbrev pub order_words : List Guard → List ℕ
order_words [] = codes " holds no two locks at once.\n"
order_words (lock ∷ locks) =
    codes " takes its locks in this order: "
    ++ names_to (lock ∷ locks) (length (lock ∷ locks)) ++ codes ".\n"

-- a line tells the order of the locks that a driver takes two at once; or that there are none; or,
-- of a driver that takes no lock, or of which no order is possible, there is no line
abbrev pub TellsOrder : Set → ℕ → List ℕ → Type 0
TellsOrder set driver line =
    (locks : List Guard) × ArePaired set driver locks × (locks ≢ [])
    × EndsWith line (order_words locks)

abbrev pub TellsNoTwo : Set → ℕ → List ℕ → Type 0
TellsNoTwo set driver line =
    HoldsNoTwo set driver × (takes_lock (slice_get set.drivers driver) ≡ true)
    × EndsWith line (order_words [])

abbrev pub TellsNothing : Set → ℕ → List ℕ → Type 0
TellsNothing set driver line =
    ((takes_lock (slice_get set.drivers driver) ≡ false) ⊎ HasNoOrder set driver) × (line ≡ [])

abbrev pub IsOrderLine : Set → ℕ → List ℕ → Type 0
IsOrderLine set driver line =
    TellsOrder set driver line ⊎ (TellsNoTwo set driver line ⊎ TellsNothing set driver line)

-- words are such a line for each driver of a set, in order
abbrev pub AreOrderWords : Set → List ℕ → Type 0
AreOrderWords set words = AreLines (IsOrderLine set) (length set.drivers) words

-- words end with those, and the end behind them
abbrev pub TellsEach : Set → List ℕ → Type 0
TellsEach set words =
    (lines end : List ℕ) × AreOrderWords set lines × TellsEnd set end
    × EndsWith words (lines ++ end)
