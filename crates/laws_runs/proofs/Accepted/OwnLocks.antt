-- The locks that a thread owns are those that its top frame says, in the words of the law.
use Rattle.laws_runs.proofs.Common.{ap, arith, refl, sym, ◌-◌, ◌∙◌, List, None, Option, Some, [], length, slice_get, suc, ℕ, ◌∷◌, ◌≡◌, answered_in, routine_of_device, top_of, holds, frames_on, run, Run, Set, IsSound, IsTypable, Device, Event, Lock, Success, Activation, Frame, Routine, States, IsGood, Ready, Serves, Stacked, led, member, waits_under}
use Rattle.laws_runs.specs.ArrivingStates.{StatesArrive}
use Rattle.laws_runs.specs.OwnLocks.{OwnsWhatItsFrameSays, ThreadsOwnWhatTheirFramesSay, said_by}
use Rattle.laws_runs.specs.PastTells.{PastTells}
use Rattle.laws_runs.proofs.Accepted.Lasts.{Lasts, lasts}
use Rattle.laws_runs.proofs.Locks.Says.{top_says}
use Rattle.laws_runs.proofs.Past.Runs.{telling_runs}
use Rattle.laws_runs.proofs.States.Follows.{alone_at}
use Rattle.laws_runs.proofs.States.Inside.{Waits, stands_at}

-- what the top one of some frames says
said_top : (states : States) (frames : List Frame) (l : Lock)
    → top_says states frames l ≡ said_by states (top_of frames) l
said_top states [] l = refl
said_top states (f ∷ []) l = refl
said_top states (f ∷ g ∷ frames) l =
    let next : length (f ∷ g ∷ frames) - 1 ≡ suc (length (g ∷ frames) - 1) = omega arith in
    rw next (said_top states (g ∷ frames) l)

-- a frame is of the driver of its device
served : (set : Set) (states : States) (issued : ℕ) (a : Activation) (r : Option ℕ)
    → Ready set states issued (answered_in a Success r) → Serves set a.device a.driver
served set states issued a None ready = ready.1.serves
served set states issued a (Some r) ready = ready.1.serves

driver_is : (set : Set) (d driver : ℕ) → Serves set d driver
    → routine_of_device (slice_get set.devices d) ≡ driver
driver_is set d driver h = ap (λ (o : Option Device). routine_of_device o) h.1 ∙ h.2

serves_at : (set : Set) (states : States) (issued : ℕ) (frames : List Frame) (k : ℕ)
    (a : Activation) → Stacked set states issued frames
    → slice_get frames k ≡ Some (Routine a)
    → routine_of_device (slice_get set.devices a.device) ≡ a.driver
serves_at set states issued frames k a stacked there =
    let waits : Waits set states issued (slice_get frames (suc k)) a =
    waits_under set states issued (slice_get frames (suc k)) a
    (stands_at set states issued frames k a stacked there) in
    driver_is set a.device a.driver (served set states issued a waits.register waits.ready)

module _ (set : Set) (typable : IsTypable set) (sound : IsSound set) where
  abbrev states : States
  states = (led set typable sound).0

  good : IsGood set states
  good = record { sound = sound; led = (led set typable sound).1 }

  arrive : StatesArrive set states
  arrive =
      record {
        alone = λ driver number p routine there within.
            alone_at (member set driver number routine) (states driver number)
            (good.led.known driver number routine there).follows p within;
      }

  module _ (threads : ℕ) (events : List Event) where
    abbrev here : Run
    here = run set threads events

    lasting : Lasts set states good threads here
    lasting = lasts set states good threads events

    tells : PastTells here
    tells = telling_runs set sound threads events lasting.on

    says : (t : ℕ) (l : Lock)
        → holds here.past t l ≡ said_by states (top_of (frames_on here.world t)) l
    says t l = lasting.keeps.locks t l ∙ said_top states (frames_on here.world t) l

    owns : OwnsWhatItsFrameSays set states threads events
    owns =
        record {
          owned = λ t l is. sym (says t l) ∙ tells.holder t l is;
          said = λ t l is. tells.owner t l (says t l ∙ is);
          serves = λ t k a there.
              serves_at set states here.world.shared.issued (frames_on here.world t) k a
              (lasting.keeps.stands.frames t) there;
        }

pub accepted_owners : ThreadsOwnWhatTheirFramesSay
accepted_owners set typable sound =
    (states set typable sound, arrive set typable sound, owns set typable sound)
