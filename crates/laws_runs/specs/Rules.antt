-- The rules that every run of an accepted set keeps, all in one.
use Rattle.std.specs.Prelude.{ℕ, ⊤, ◌≡◌, ◌≤◌, List, [], ◌∷◌, None}
use Rattle.model.specs.declared.event.Event.{Event}
use Rattle.model.specs.Fault.{fault_of}
use Rattle.model.specs.PendingAgreement.{PendingAgree}
use Rattle.model.specs.Run.{run}
use Rattle.model.specs.Set.{Set}
use Rattle.model.specs.Sound.{IsSound}
use Rattle.model.specs.Trace.{Entry}
use Rattle.model.specs.Typable.{IsTypable}
use Rattle.laws_runs.specs.ArrivingStates.{States, StatesArrive}
use Rattle.laws_runs.specs.Holder.{HasOneHolder}
use Rattle.laws_runs.specs.KindsAgree.{RegistersAreOfTheirKinds}
use Rattle.laws_runs.specs.Lifetime.{KeepCertificates}
use Rattle.laws_runs.specs.NeverStops.{NeverStops}
use Rattle.laws_runs.specs.NothingSkipped.{SkipsNothing}
use Rattle.laws_runs.specs.NoWrong.{NeverGoesWrong}
use Rattle.laws_runs.specs.OneToken.{HasOneToken}
use Rattle.laws_runs.specs.TopsOnce.{times_topped}

-- no action of a trace makes a bug check, looking back over what was before it
abbrev pub Faultless : List Entry → Type 0
Faultless [] = ⊤
Faultless (e ∷ past) = (fault_of past e.actor e.action ≡ None) × Faultless past

-- the run of these events: no bug check and no operand of a wrong kind in its trace, so it hasn't
-- stopped and no step of its threads is refused; each activation is within its certificate, what
-- was returned agrees with the marks, nothing that these two go by is missing, and no packet tops
-- out twice; by the states that arrive at the positions of the routines, each live packet has one
-- holder, each busy device one token, and each register is of its kind
pub record KeepsTheRules (set : Set) (threads : ℕ) (events : List Event) : Type 0 where
  pub faultless : Faultless (run set threads events).past
  pub right : NeverGoesWrong set threads events
  pub lasting : NeverStops set threads events
  pub certificates : KeepCertificates set threads events
  pub pending : PendingAgree (run set threads events).past
  pub complete : SkipsNothing set threads events
  pub states : States
  pub arrive : StatesArrive set states
  pub holders : HasOneHolder set states threads events
  pub tokens : HasOneToken set states threads events
  pub kinds : RegistersAreOfTheirKinds set threads events
  pub topped : (n : ℕ) → times_topped (run set threads events).past n ≤ 1

abbrev pub AcceptedRunsKeepTheRules : Type 0
AcceptedRunsKeepTheRules =
    (set : Set) → IsTypable set → IsSound set
    → (threads : ℕ) (events : List Event)
    → KeepsTheRules set threads events
