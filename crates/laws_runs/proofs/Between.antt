-- A thread that owns a lock and seeks another is in a routine, which takes the one under the other
-- where it stands; both are locks of its device, or one is the system cancel spin lock.
use Rattle.laws_runs.proofs.Common.{refl, sym, ◌-◌, ◌∙◌, List, None, Option, Some, length, option_and_then, slice_get, true, ℕ, ⊤, ◌≡◌, routine_of_device, spin_lock, top_of, frames_on, run, Set, instruction_at, IsSound, IsTypable, Event, Lock, Spin, SystemCancel, Instr, Acquire, AcquireCancel, Abs, Activation, CancelStep, AcquireStep, Exchange, SetFlag, Frame, CancelFrame, Routine, Walk, World, owner_of, States, and_left, and_right, eqb-true}
use Rattle.model.specs.LocalRule.{holds_guard}
use Rattle.laws_runs.specs.Holder.{StandsInside}
use Rattle.laws_runs.specs.OwnLocks.{OwnsWhatItsFrameSays, frame_says, said_by, state_says}
use Rattle.laws_runs.proofs.Accepted.Laws.{accepted_holders}
use Rattle.laws_runs.proofs.Accepted.OwnLocks.{accepted_owners}
use Rattle.laws_runs.proofs.States.OnTop.{at_routine}
use Rattle.laws_runs.specs.Order.{TakesUnder, lock_named}
use Rattle.laws_runs.specs.RingAt.{name_of}
use Rattle.laws_runs.specs.Waiting.{acquired_by, acquired_in, sought_by, sought_on}

-- a lock is one of a device, or the system cancel spin lock
abbrev pub IsAt : ℕ → Lock → Type 0
IsAt d SystemCancel = ⊤
IsAt d (Spin l) = d ≡ l.device

pub record Between (set : Set) (w : World) (t : ℕ) (held sought : Lock) : Type 0 where
  pub routine : Activation
  pub top : top_of (frames_on w t) ≡ Some (Routine routine)
  pub serves : routine_of_device (slice_get set.devices routine.device) ≡ routine.driver
  pub under : TakesUnder set routine.driver (name_of held) (name_of sought)
  pub number : under.number ≡ routine.routine
  pub position : under.position ≡ routine.position
  pub holds_at : IsAt routine.device held
  pub seeks_at : IsAt routine.device sought

said_name : (s : Abs) (d : ℕ) (l : Lock) → state_says s d l ≡ true
    → holds_guard s (name_of l) ≡ true
said_name s d SystemCancel says = says
said_name s d (Spin l) says = and_right _ _ says

said_at : (s : Abs) (d : ℕ) (l : Lock) → state_says s d l ≡ true → IsAt d l
said_at s d SystemCancel says = tt
said_at s d (Spin l) says = eqb-true d l.device (and_left _ _ says)

record Seeks (set : Set) (a : Activation) (l : Lock) : Type 0 where
  instruction : Instr
  at : instruction_at set a.driver a.routine a.position ≡ Some instruction
  takes : lock_named instruction ≡ Some (name_of l)
  here : IsAt a.device l

seeks : (set : Set) (a : Activation) (l : Lock) (o : Option Instr)
    → instruction_at set a.driver a.routine a.position ≡ o
    → acquired_by a o ≡ Some l → Seeks set a l
seeks set a l None at is = cc
seeks set a l (Some (Acquire m)) at is =
    let same : spin_lock a m ≡ l = cc in
    rw (← same) (record { instruction = Acquire m; at = at; takes = refl; here = refl })
seeks set a l (Some AcquireCancel) at is =
    let same : SystemCancel ≡ l = cc in
    rw (← same) (record { instruction = AcquireCancel; at = at; takes = refl; here = tt })
seeks set a l (Some _) at is = cc

-- IoCancelIrp has no lock when it seeks one
cancel_never : (states : States) (step : CancelStep) (n : ℕ) (held sought : Lock)
    → frame_says states (CancelFrame (record { packet = n; next = step })) held ≡ true
    → acquired_in step ≡ Some sought → ⊥
cancel_never states AcquireStep n held sought says seek = cc
cancel_never states SetFlag n held sought says seek = cc
cancel_never states Exchange n held sought says seek = cc

module _ (set : Set) (typable : IsTypable set) (sound : IsSound set) (threads : ℕ)
    (events : List Event) where
  abbrev w : World
  w = (run set threads events).world

  abbrev states : States
  states = (accepted_owners set typable sound).0

  owns : OwnsWhatItsFrameSays set states threads events
  owns = (accepted_owners set typable sound).2 threads events

  stand : (t k : ℕ) (a : Activation) → slice_get (frames_on w t) k ≡ Some (Routine a)
      → StandsInside set a
  stand = ((accepted_holders set typable sound).2 threads events).stand

  routine_between : (t : ℕ) (a : Activation) (held sought : Lock)
      → top_of (frames_on w t) ≡ Some (Routine a)
      → frame_says states (Routine a) held ≡ true
      → sought_by set (Routine a) ≡ Some sought → Between set w t held sought
  routine_between t a held sought top says seek =
      let inside : StandsInside set a = stand t (length (frames_on w t) - 1) a top in
      let s : Abs = states a.driver a.routine a.position in
      let next : Seeks set a sought =
      seeks set a sought (instruction_at set a.driver a.routine a.position) refl seek in
      record {
        routine = a;
        top = top;
        serves = owns.serves t (length (frames_on w t) - 1) a top;
        under = record {
          number = a.routine;
          routine = inside.routine;
          is_of = inside.is_of;
          position = a.position;
          state = s;
          arrives = ((accepted_owners set typable sound).1.alone a.driver a.routine a.position
              inside.routine inside.is_of inside.inside).arrives;
          holds = said_name s a.device held says;
          instruction = next.instruction;
          at = sym (at_routine set inside.routine a inside.is_of) ∙ next.at;
          takes = next.takes;
        };
        number = refl;
        position = refl;
        holds_at = said_at s a.device held says;
        seeks_at = next.here;
      }

  top_between : (t : ℕ) (o : Option Frame) (held sought : Lock) → top_of (frames_on w t) ≡ o
      → said_by states o held ≡ true
      → option_and_then (λ frame. sought_by set frame) o ≡ Some sought
      → Between set w t held sought
  top_between t None held sought top says seek = cc
  top_between t (Some (Routine a)) held sought top says seek =
      routine_between t a held sought top says seek
  top_between t (Some (Walk n)) held sought top says seek = cc
  top_between t (Some (CancelFrame c)) held sought top says seek =
      absurd (cancel_never states c.next c.packet held sought says seek)

  pub between : (t : ℕ) (held sought : Lock)
      → owner_of w.shared.locks held ≡ Some (Some t)
      → sought_on set w t ≡ Some sought → Between set w t held sought
  between t held sought owner seek =
      top_between t (top_of (frames_on w t)) held sought refl (owns.owned t held owner) seek
