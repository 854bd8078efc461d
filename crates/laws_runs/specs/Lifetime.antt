-- How many instructions an activation executes, and of which routine it is.
use Rattle.std.specs.Prelude.{ℕ, ⊤, ◌≡◌, ◌≤◌, ◌+◌, Bool, false, List, [], ◌∷◌, Option, Some, All, nat_eq, slice_get, if◌then◌else◌}
use Rattle.model.specs.declared.event.Event.{Event}
use Rattle.model.specs.declared.world.Activation.{Activation}
use Rattle.model.specs.declared.world.Frame.TheVariants.{Routine}
use Rattle.model.specs.Action.{Action, OnLock, OnPacket, OnLocation, OfRoutine, Execute, TouchPaged, Return, GoWrong}
use Rattle.model.specs.Certificate.{certificate_of}
use Rattle.model.specs.Run.{Run, frames_on, tags_on, run}
use Rattle.model.specs.Set.{Set}
use Rattle.model.specs.Sound.{IsSound}
use Rattle.model.specs.Trace.{Entry, Serving, Tag, Managing, Activated}
use Rattle.model.specs.Typable.{IsTypable}

-- what a frame did that is the activation of a number
abbrev pub is_activation : ℕ → Tag → Bool
is_activation g Managing = false
is_activation g (Activated h driver routine serving) = nat_eq h g

abbrev pub instructions_in : Action → ℕ
instructions_in (OfRoutine Execute) = 1
instructions_in (OfRoutine (TouchPaged cell)) = 0
instructions_in (OfRoutine (Return status)) = 0
instructions_in (OfRoutine GoWrong) = 0
instructions_in (OnLock lock act) = 0
instructions_in (OnPacket packet act) = 0
instructions_in (OnLocation packet act) = 0

-- how many instructions an activation has executed in a trace
abbrev pub executions : List Entry → ℕ → ℕ
executions [] g = 0
executions (e ∷ past) g =
    (if is_activation g e.actor.tag then instructions_in e.action else 0) + executions past g

-- an activation has executed at most as many instructions as the certificate of its routine
abbrev pub KeepsCertificate : Set → List Entry → Tag → Type 0
KeepsCertificate set past Managing = ⊤
KeepsCertificate set past (Activated g driver routine serving) =
    executions past g ≤ certificate_of set driver routine

-- one number is of one routine
abbrev pub AreOneRoutine : Tag → Tag → Type 0
AreOneRoutine Managing other = ⊤
AreOneRoutine (Activated g driver routine serving) Managing = ⊤
AreOneRoutine (Activated g driver routine serving) (Activated h d r s) = g ≡ h → (driver ≡ d)
    × (routine ≡ r)

-- of the actions of a past, those under a tag's number are of its routine
abbrev pub IsOneRoutine : List Entry → Tag → Type 0
IsOneRoutine past tag = All (λ (e : Entry). AreOneRoutine tag e.actor.tag) past

-- the activation whose frame stands at a place of a thread: it is of that frame's routine, and
-- keeps its certificate
pub record StandsWithin (set : Set) (r : Run) (t k : ℕ) (a : Activation) : Type 0 where
  pub number : ℕ
  pub serving : Option Serving
  pub tag : slice_get (tags_on r t) k ≡ Some (Activated number a.driver a.routine serving)
  pub one : IsOneRoutine r.past (Activated number a.driver a.routine serving)
  pub kept : executions r.past number ≤ certificate_of set a.driver a.routine

-- every activation that has acted in a run, whether its frame stands or is gone, has executed at
-- most as many instructions as the certificate of its routine, and so has every one whose frame
-- stands
pub record KeepCertificates (set : Set) (threads : ℕ) (events : List Event) : Type 0 where
  pub kept : All (λ (e : Entry). KeepsCertificate set (run set threads events).past e.actor.tag)
      (run set threads events).past
  pub one : All (λ (e : Entry). IsOneRoutine (run set threads events).past e.actor.tag)
      (run set threads events).past
  pub standing : (t k : ℕ) (a : Activation)
      → slice_get (frames_on (run set threads events).world t) k ≡ Some (Routine a)
      → StandsWithin set (run set threads events) t k a

abbrev pub ActivationsKeepTheirCertificate : Type 0
ActivationsKeepTheirCertificate =
    (set : Set) → IsTypable set → IsSound set
    → (threads : ℕ) (events : List Event)
    → KeepCertificates set threads events
