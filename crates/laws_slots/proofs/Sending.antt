-- Packets that are completed or sent down: the routine goes on, and another frame stands on it, for
-- the packet that its key means.
use Rattle.std.proofs.Common.{◌≡◌, ℕ, List, [], ◌∷◌, Option, None, Some, refl, ap, map}
use Rattle.std.specs.Prelude.{slice_get}
use Rattle.model.specs.declared.set.Device.{Device}
use Rattle.model.specs.declared.status.Major.{Major}
use Rattle.model.specs.declared.status.Status.{Status}
use Rattle.model.specs.declared.world.Activation.{Activation}
use Rattle.model.specs.declared.world.Frame.{Frame}
use Rattle.model.specs.declared.world.Frame.TheVariants.{Routine, Walk}
use Rattle.model.specs.declared.world.Packet.{Packet}
use Rattle.model.specs.declared.world.Value.TheVariants.{Ref}
use Rattle.model.specs.Action.{Action}
use Rattle.model.specs.Effect.{Outcome, asks, call_effect, call_packet, complete_effect, complete_packet, dispatched, pass_effect, pass_packet, set_by}
use Rattle.model.specs.Effect as effect
use Rattle.model.specs.Set.{Set}
use Rattle.model.specs.World.{Shared, asked_of, completed, current_location, entered, next, sent_down, shared_with, with_packet}
use Rattle.laws_slots.specs.Rep.{CancelStands, EachFrame, meant_frame, meant_routine, slotted}
use Rattle.laws_slots.specs.Slots.{SlotFrame, SlotRoutine, SlotShared, SlotWalk, packet_at, with_packet_at}
use Rattle.laws_slots.specs.SlotStep.{asks_step, call_step, complete_step, leaves, pass_step}
use Rattle.laws_slots.proofs.Keys.{Found, Keyed, found_name, written, written_same}
use Rattle.laws_slots.proofs.Local.{b}
use Rattle.laws_slots.proofs.Outcomes.{GoesRight, MeansOutcome}
use Rattle.laws_slots.proofs.Touching.{Finds}

-- a routine that begins for a packet, by its key and by its number
pub entered_meant : (name : ℕ → ℕ) (driver routine device k n : ℕ) → name k ≡ n
    → meant_routine name (entered driver routine device (Ref k))
    ≡ entered driver routine device (Ref n)
entered_meant name driver routine device k n is =
    ap (λ (m : ℕ). entered driver routine device (Ref m)) is

dispatched_meant : (name : ℕ → ℕ) (set : Set) (lower : ℕ) (device : Option Device)
    (major : Option Major) (k n : ℕ) → name k ≡ n
    → meant_routine name (dispatched set lower device major k) ≡ dispatched set lower device major n
dispatched_meant name set lower None major k n is =
    entered_meant name _ _ lower k n is
dispatched_meant name set lower (Some d) major k n is =
    entered_meant name _ _ lower k n is

module _ (name : ℕ → ℕ) (s : SlotShared) (r : Shared) (keyed : Keyed name s r) where
  -- a packet is changed, and these frames stand then
  pub becomes : (k n : ℕ) (found : Found s r k n) (q : Packet) → q.number ≡ n
      → (keys : List SlotFrame) (frames : List Frame) (actions : List Action)
      → map (meant_frame name) keys ≡ frames → EachFrame (CancelStands s) keys
      → MeansOutcome name s (leaves (with_packet_at s k (slotted q)) keys)
      (effect.leaves (with_packet r n q) frames actions)
  becomes k n found q same keys frames actions is cancels =
      record {
        shared = written name s r keyed k n found q same;
        frames = is;
        reply = refl;
        taken = refl;
        told = refl;
        same = written_same name s r keyed k n found q same;
        cancels = cancels;
      }

  module _ (a : Activation) where
    abbrev c : Activation
    c = b name s r keyed.means a

    pub completes : (status : Status) (k : ℕ) (o : Option ℕ) → Finds s r k o
        → GoesRight (complete_effect r c status o)
        → MeansOutcome name s (complete_step s a status k (packet_at s k))
        (complete_effect r c status o)
    completes status k None finds right = cc
    completes status k (Some n) finds right =
        let found : Found s r k n = finds n refl in
        rw (found.at, found.of)
        (becomes k n found (completed found.packet status) found.number
        (SlotRoutine (next a) ∷ SlotWalk k ∷ []) (Routine (next c) ∷ Walk n ∷ []) _
        (ap (λ (m : ℕ). Routine (next c) ∷ Walk m ∷ []) (found_name name s r keyed k n found))
        (tt, (tt, tt)))

    module _ (set : Set) where
      asked : (lower k n : ℕ) (p : Packet) → name k ≡ n
          → map (meant_frame name) (asks_step set a lower (slotted p) k) ≡ asks set c lower p n
      asked lower k n p is =
          ap (λ (d : Activation). Routine (next c) ∷ Routine d ∷ [])
          (dispatched_meant name set lower (slice_get set.devices lower)
          (asked_of (current_location p)) k n is)

      pub passes : (k : ℕ) (o lower : Option ℕ) → Finds s r k o
          → GoesRight (pass_effect set r c o lower)
          → MeansOutcome name s (pass_step set s a k lower (packet_at s k))
          (pass_effect set r c o lower)
      passes k None lower finds right = cc
      passes k (Some n) None finds right = cc
      passes k (Some n) (Some lower) finds right =
          let found : Found s r k n = finds n refl in
          rw (found.at, found.of)
          (becomes k n found (shared_with found.packet lower) found.number
          (asks_step set a lower (slotted found.packet) k) (asks set c lower found.packet n) _
          (asked lower k n found.packet (found_name name s r keyed k n found)) (tt, (tt, tt)))

      pub calls : (f : Option ℕ) (k : ℕ) (o lower : Option ℕ) → Finds s r k o
          → GoesRight (call_effect set r c f o lower)
          → MeansOutcome name s (call_step set s a f k lower (packet_at s k))
          (call_effect set r c f o lower)
      calls f k None lower finds right = cc
      calls f k (Some n) None finds right = cc
      calls f k (Some n) (Some lower) finds right =
          let found : Found s r k n = finds n refl in
          rw (found.at, found.of)
          (becomes k n found (sent_down found.packet lower (set_by c f)) found.number
          (asks_step set a lower (slotted found.packet) k) (asks set c lower found.packet n) _
          (asked lower k n found.packet (found_name name s r keyed k n found)) (tt, (tt, tt)))
