-- A machine that runs events, with the ledger of its run where that is kept.
use Rattle.std.specs.Prelude.{ℕ, ◌≡◌, ◌++◌, ⊤, Bool, List, [], ◌∷◌, is_none, IfSome, Option}
use Rattle.tell_audit.specs.Ends.{amiss_in}
use Rattle.model.specs.declared.event.Event.{Event}
use Rattle.model.specs.declared.event.Reply.{Reply}
use Rattle.model.specs.Machine.{ShowsWhole, reply_to}
use Rattle.model.specs.Run.{Run, run}
use Rattle.model.specs.Set.{Set}
use Rattle.scenario_run.specs.declared.runner.Keeping.{Keeping}
use Rattle.scenario_run.specs.declared.runner.Keeping.TheVariants.{Nothing, Ledger}
use Rattle.scenario_run.specs.declared.runner.Runner.{Runner}
use Rattle.tell_uses.specs.Ledger.{LedgerState, Tells}

-- a ledger tells a run, where it is kept
abbrev pub TellsIf : Keeping → Run → LedgerState → Type 0
TellsIf Nothing r l = ⊤
TellsIf Ledger r l = Tells r l

-- it shows the run of these events
pub record Runs (r : Runner) (threads : ℕ) (events : List Event) : Type 0 where
  pub shows : ShowsWhole r.machine threads events
  pub tells : TellsIf r.keeping (run r.machine.set threads events) r.ledger

-- that of none over a set
pub record Begins (set : Set) (threads : ℕ) (r : Runner) : Type 0 where
  pub over : r.machine.set ≡ set
  pub runs : Runs r threads []

-- if it shows that of none, it does so still
abbrev pub StaysBegun : ℕ → Runner → Runner → Type 0
StaysBegun threads before after = Runs before threads [] → Runs after threads []

-- an event more is run
pub record RunsOn (before : Runner) (e : Event) (after : Runner) (reply : Reply) : Type 0 where
  pub set : after.machine.set ≡ before.machine.set
  pub runs : (threads : ℕ) (events : List Event) → Runs before threads events
      → Runs after threads (events ++ e ∷ [])
  pub replies : (threads : ℕ) (events : List Event) → Runs before threads events
      → reply ≡ reply_to before.machine.set threads events e

-- whether nothing is amiss in its run, if that is known
abbrev pub IsFine : Runner → Option Bool → Type 0
IsFine r fine =
    IfSome fine (λ fine. (threads : ℕ) (events : List Event) → Runs r threads events
    → fine ≡ is_none (amiss_in r.machine.set (run r.machine.set threads events)))
