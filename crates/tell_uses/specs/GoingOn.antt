-- Steps of a thread that change nothing but the activation on its top.
use Rattle.std.specs.Prelude.{ℕ, ◌++◌, List, replicate}
use Rattle.checked.specs.GoingOn.{GoesOn}
use Rattle.model.specs.declared.event.Event.{Event}
use Rattle.model.specs.declared.event.Event.TheVariants.{Step}
use Rattle.model.specs.Machine.{Machine, ShowsWhole}
use Rattle.model.specs.Run.{run}
use Rattle.tell_uses.specs.Ledger.{LedgerState, Tells}

-- a ledger that tells a run tells it with so many of them added too
abbrev pub GoingOnKeepsLedgers : Type 0
GoingOnKeepsLedgers =
    (t k : ℕ) (m n : Machine) (l : LedgerState) (threads : ℕ) (events : List Event)
    → GoesOn t m k n → ShowsWhole m threads events → Tells (run m.set threads events) l
    → Tells (run m.set threads (events ++ replicate k (Step t))) l
