-- Routines end: threads that go on come to rest.
use Rattle.std.specs.Prelude.{ℕ, ⊤, zero, suc, ◌≡◌, ◌≤◌, ◌<◌, ◌+◌, ◌*◌, ◌++◌, true, false, List, [], ◌∷◌, length, nat_eq, if◌then◌else◌}
use Rattle.std.specs.List.{list_any}
use Rattle.model.specs.declared.event.Event.{Event}
use Rattle.model.specs.declared.event.Event.TheVariants.{Cancel as CancelEvent, Dpc, Interrupt, Issue, StartIo, Step}
use Rattle.model.specs.declared.limits.TheConstants.{MAX_CERTIFICATE}
use Rattle.model.specs.Machine.{reply_to}
use Rattle.model.specs.Run.{run}
use Rattle.model.specs.Set.{Set}
use Rattle.model.specs.Sound.{IsSound}
use Rattle.model.specs.Typable.{IsTypable}
use Rattle.model.specs.View.{busy_at}
use Rattle.laws_runs.specs.Waits.{says_unchanged}
use Rattle.laws_runs.specs.NoRing.{GoesOn, HasNoRing}
use Rattle.laws_runs.specs.Order.{HasLockOrders}

-- threads step one after another, and each of them goes on when it is its turn
abbrev pub AllGoOn : Set → ℕ → List Event → List ℕ → Type 0
AllGoOn set threads events [] = ⊤
AllGoOn set threads events (t ∷ turns) =
    GoesOn set threads events t × AllGoOn set threads (events ++ Step t ∷ []) turns

-- threads step in turn, in rounds, in each of which every thread has its turn, or several
abbrev pub steps_of : List ℕ → List Event
steps_of [] = []
steps_of (t ∷ turns) = Step t ∷ steps_of turns

abbrev pub IsRound : ℕ → List ℕ → Type 0
IsRound threads turns = (t : ℕ) → t < threads → list_any (λ u. nat_eq t u) turns ≡ true

abbrev pub AreRounds : ℕ → List (List ℕ) → Type 0
AreRounds threads [] = ⊤
AreRounds threads (turns ∷ rounds) = IsRound threads turns × AreRounds threads rounds

abbrev pub steps_in : List (List ℕ) → List Event
steps_in [] = []
steps_in (turns ∷ rounds) = steps_of turns ++ steps_in rounds

-- how much a step of the I/O manager to the location above may bring about, in steps; and how much
-- an instruction of a routine for a device: a routine of the device below, as long as one may be
abbrev pub up : ℕ
up = MAX_CERTIFICATE + 1

abbrev pub price : ℕ → ℕ
price zero = up + 2
price (suc d) = up + 2 + MAX_CERTIFICATE * price d

-- how many steps one event may bring about that change something
abbrev pub most_changes : Set → ℕ
most_changes set = up + 3 + MAX_CERTIFICATE * price (length set.devices)

-- how many of some events begin something on a thread: a request, IoCancelIrp, a DPC routine or a
-- StartIo routine
abbrev pub begins_one : Event → ℕ
begins_one (Issue t d major argument) = 1
begins_one (CancelEvent t n level) = 1
begins_one (Interrupt d) = 0
begins_one (Dpc t d) = 1
begins_one (StartIo t d) = 1
begins_one (Step t) = 0

abbrev pub begun_by : List Event → ℕ
begun_by [] = 0
begun_by (e ∷ events) = begins_one e + begun_by events

-- how many of some events, behind others, are steps that change something
abbrev pub changes_one : Set → ℕ → List Event → Event → ℕ
changes_one set threads past (Step t) =
    if says_unchanged (reply_to set threads past (Step t)) then 0 else 1
changes_one set threads past (Issue t d major argument) = 0
changes_one set threads past (CancelEvent t n level) = 0
changes_one set threads past (Interrupt d) = 0
changes_one set threads past (Dpc t d) = 0
changes_one set threads past (StartIo t d) = 0

abbrev pub changing : Set → ℕ → List Event → List Event → ℕ
changing set threads past [] = 0
changing set threads past (e ∷ events) =
    changes_one set threads past e + changing set threads (past ++ e ∷ []) events

-- a run of an accepted set comes to rest: each event that begins something brings about only so many
-- steps that change anything, a number of the set; whatever its locks, only so many go on before
-- another event comes; and where the locks of each driver have an order, no threads wait for each other in a
-- ring, while one has frames one with frames goes on, and after so many rounds all are idle
pub record ComesToRest (set : Set) (threads : ℕ) (events : List Event) : Type 0 where
  pub few : changing set threads [] events ≤ most_changes set * begun_by events
  pub most : ℕ
  pub ends : (turns : List ℕ) → AllGoOn set threads events turns → length turns ≤ most
  pub ring : HasLockOrders set → HasNoRing set threads events
  pub rests : HasLockOrders set → (rounds : List (List ℕ)) → AreRounds threads rounds
      → most ≤ length rounds
      → (t : ℕ) → busy_at (run set threads (events ++ steps_in rounds)).world t ≡ false

abbrev pub AcceptedRunsComeToRest : Type 0
AcceptedRunsComeToRest =
    (set : Set) → IsTypable set → IsSound set
    → (threads : ℕ) (events : List Event)
    → ComesToRest set threads events
