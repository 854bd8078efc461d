-- Steps of the I/O manager, which completes the packet of a key or cancels one: they do to what
-- slots mean what they do to them. Where a packet tops out the slot becomes free: that is in the
-- module Topping.
use Rattle.std.proofs.Common.{◌≡◌, ℕ, Bool, true, false, List, [], ◌∷◌, Option, None, Some, refl, sym, ◌∙◌, ap, subst, map, inl, inr, nat_lt}
use Rattle.std.specs.Prelude.{slice_get}
use Rattle.std.proofs.lemmas.Bool.Decides.{eqb_tells}
use Rattle.model.specs.declared.set.Sort.{Sort}
use Rattle.model.specs.declared.set.Sort.TheVariants.{Dispatch, StartIo, Dpc, Propagate, Hold, Cancel}
use Rattle.model.specs.declared.event.Lock.TheVariants.{SystemCancel}
use Rattle.model.specs.declared.world.Armer.{Armer}
use Rattle.model.specs.declared.world.CancelStep.{CancelStep}
use Rattle.model.specs.declared.world.CancelStep.TheVariants.{Acquire as AcquireStep, SetFlag, Exchange}
use Rattle.model.specs.declared.world.Completion.{Completion}
use Rattle.model.specs.declared.world.Frame.{Frame}
use Rattle.model.specs.declared.world.Frame.TheVariants.{Routine, Walk}
use Rattle.model.specs.declared.world.Packet.{Packet}
use Rattle.model.specs.declared.world.Value.TheVariants.{Ref}
use Rattle.model.specs.Action.{Action, Exchanges}
use Rattle.model.specs.Effect.{Outcome, cancel_acquires, cancel_armed, cancel_calls, cancel_ends, cancel_exchanges, cancel_flags, completes_with, goes_on_cancelling, lent_to, routine_of_device, sort_of_completion, walk_from, walk_packet}
use Rattle.model.specs.Effect as effect
use Rattle.model.specs.Set.{Set, cancel_routine_named}
use Rattle.model.specs.World.{Locks, Shared, cancelled, carried_up, completion_of, current_location, entered, left_location, moved_up, packet_of, with_armer, with_locks, with_owner, with_packet}
use Rattle.laws_slots.specs.Rep.{CancelStands, EachFrame, MeansShared, meant_frame, slotted}
use Rattle.laws_slots.specs.Slots.{SlotCancel, SlotFrame, SlotRoutine, SlotShared, SlotWalk, packet_at, with_packet_at, with_slot_locks}
use Rattle.laws_slots.specs.SlotStep.{SlotOutcome, cancel_acquires_step, cancel_armed_step, cancel_calls_step, cancel_ends_step, cancel_exchanges_step, cancel_flags_step, cancel_step, if_numbered, leaves, walk_from_step, walk_step}
use Rattle.laws_slots.proofs.Keys.{Found, Keyed, found_name, found_used, live_key, written, written_same}
use Rattle.laws_slots.proofs.Outcomes.{MeansOutcome, SameSlots, same_slots}
use Rattle.laws_slots.proofs.Sending.{becomes}

-- slots don't keep to whom a packet is lent
lent_slotted : (sort : Sort) (p : Packet) → slotted (lent_to sort p) ≡ slotted p
lent_slotted Dispatch p = refl
lent_slotted StartIo p = refl
lent_slotted Dpc p = refl
lent_slotted Propagate p = refl
lent_slotted Hold p = refl
lent_slotted Cancel p = refl

lent_number : (sort : Sort) (p : Packet) → (lent_to sort p).number ≡ p.number
lent_number Dispatch p = refl
lent_number StartIo p = refl
lent_number Dpc p = refl
lent_number Propagate p = refl
lent_number Hold p = refl
lent_number Cancel p = refl

carried_slotted : (p : Packet) (marked : Bool) → p.pending_returned ≡ marked
    → slotted (carried_up p) ≡ carried_up (slotted p)
carried_slotted p true is = rw is refl
carried_slotted p false is = rw is refl

carried_number : (p : Packet) (marked : Bool) → p.pending_returned ≡ marked
    → (carried_up p).number ≡ p.number
carried_number p true is = rw is refl
carried_number p false is = rw is refl

-- the lock that IoCancelIrp takes and gives back
locks_put : (name : ℕ → ℕ) (s : SlotShared) (r : Shared) → MeansShared name s r
    → (one other : Locks) → one ≡ other
    → MeansShared name (with_slot_locks s one) (with_locks r other)
locks_put name s r means one other is =
    record {
      packets = means.packets;
      issued = means.issued;
      locks = is;
      cells = means.cells;
      queues = means.queues;
      starts = means.starts;
      dpcs = means.dpcs;
    }

module _ (name : ℕ → ℕ) (s : SlotShared) (r : Shared) (keyed : Keyed name s r) (set : Set) where
  abbrev Means : SlotOutcome → Outcome → Type 0
  Means p o = MeansOutcome name s p o

  -- a packet in its slot is changed, as slots keep it
  changed : (k n : ℕ) (found : Found s r k n) (p q : Packet) → slotted q ≡ p → q.number ≡ n
      → (keys : List SlotFrame) (frames : List Frame) (actions : List Action)
      → map (meant_frame name) keys ≡ frames → EachFrame (CancelStands s) keys
      → Means (leaves (with_packet_at s k p) keys)
      (effect.leaves (with_packet r n q) frames actions)
  changed k n found p q is same keys frames actions means cancels =
      subst (λ (x : Packet). Means (leaves (with_packet_at s k x) keys)
      (effect.leaves (with_packet r n q) frames actions)) is
      (becomes name s r keyed k n found q same keys frames actions means cancels)

  -- completion leaves a location
  walks_to : (k n : ℕ) (found : Found s r k n) (p : Packet) → p.number ≡ n → (c : Completion)
      → Means (walk_from_step set s k (slotted p) (Some c)) (walk_from set r n p (Some c))
  walks_to k n found p same c =
      let sort : Sort = sort_of_completion set c in
      changed k n found (moved_up (slotted p)) (lent_to sort (moved_up p))
      (lent_slotted sort (moved_up p)) (lent_number sort (moved_up p) ∙ same)
      (SlotWalk k ∷ SlotRoutine (completes_with set c k) ∷ [])
      (Walk n ∷ Routine (completes_with set c n) ∷ []) _
      (ap (λ (m : ℕ). Walk m ∷ Routine (completes_with set c m) ∷ [])
      (found_name name s r keyed k n found)) (tt, (tt, tt))

  walks_up : (k n : ℕ) (found : Found s r k n) (p : Packet) → p.number ≡ n
      → Means (leaves (with_packet_at s k (carried_up (slotted p))) (SlotWalk k ∷ []))
      (effect.walk_up r n p)
  walks_up k n found p same =
      changed k n found (carried_up (slotted p)) (carried_up p)
      (carried_slotted p p.pending_returned refl) (carried_number p p.pending_returned refl ∙ same)
      (SlotWalk k ∷ []) (Walk n ∷ []) _
      (ap (λ (m : ℕ). Walk m ∷ []) (found_name name s r keyed k n found)) (tt, tt)

  -- unless the packet tops out
  walks_from : (k n : ℕ) (found : Found s r k n) (p : Packet) → p.number ≡ n
      → (o : Option Completion) → (o ≡ None → nat_lt 1 p.depth ≡ true)
      → Means (walk_from_step set s k (slotted p) o) (walk_from set r n p o)
  walks_from k n found p same (Some c) deep = walks_to k n found p same c
  walks_from k n found p same None deep =
      rw (deep refl) (walks_up k n found p same)

  -- the lock that IoCancelIrp takes and gives back
  owned : (after : SlotShared) (other : Shared) → MeansShared name after other
      → SameSlots s after → (owner : Option ℕ) (keys : List SlotFrame) (frames : List Frame)
      (actions : List Action) → map (meant_frame name) keys ≡ frames
      → EachFrame (CancelStands s) keys
      → Means (leaves (with_slot_locks after (with_owner after.locks SystemCancel owner)) keys)
      (effect.leaves (with_locks other (with_owner other.locks SystemCancel owner)) frames actions)
  owned after other means same owner keys frames actions is cancels =
      record {
        shared = locks_put name after other means
            (with_owner after.locks SystemCancel owner)
            (with_owner other.locks SystemCancel owner)
            (ap (λ (x : Locks). with_owner x SystemCancel owner) means.locks);
        frames = is;
        reply = refl;
        taken = refl;
        told = refl;
        same = record {
          name = same.name;
          use_of = same.use_of;
          order = same.order;
          issued = same.issued;
        };
        cancels = cancels;
      }

  ends : (after : SlotShared) (other : Shared) → MeansShared name after other
      → SameSlots s after → (actions : List Action)
      → Means (cancel_ends_step after) (cancel_ends other actions)
  ends after other means same actions =
      owned after other means same None [] [] _ refl tt

  -- no thread that cancels a packet has the lock before it takes it
  acquires : (t k n : ℕ) (o : Option ℕ) → CancelStands s (SlotCancel k n AcquireStep)
      → (o ≡ Some t → ⊥) → Means (cancel_acquires_step s t k n o) (cancel_acquires r t n o)
  acquires t k n None stands free =
      owned s r keyed.means (same_slots name s) (Some t) (SlotCancel k n SetFlag ∷ [])
      (goes_on_cancelling n SetFlag) _ refl (stands, tt)
  acquires t k n (Some owner) stands free =
      elim (eqb_tells owner t) [
        | inl own ↦ absurd (free (ap (λ (x : ℕ). Some x) own.1))
        | inr other ↦ rw other.0 (record {
          shared = keyed.means;
          frames = refl;
          reply = refl;
          taken = refl;
          told = refl;
          same = same_slots name s;
          cancels = (stands, tt);
        })
      ]

  -- it finds the packet in its slot exactly while that is live
  pub data Sought (k n : ℕ) : Option Packet → Option Packet → Type 0 where
    gone : Sought k n None None
    there : (found : Found s r k n) → Sought k n (Some (slotted found.packet)) (Some found.packet)

  none_live : (k n : ℕ) (o : Option Packet) → packet_of r n ≡ o
      → CancelStands s (SlotCancel k n SetFlag)
      → ((p : Packet) → packet_at s k ≡ Some p → p.number ≡ n → ⊥) → Sought k n None o
  none_live k n None live stands none = gone
  none_live k n (Some q) live stands none =
      let key : (j : ℕ) × Found s r j n = live_key name s r keyed n q live in
      let same : key.0 ≡ k =
      stands.1 key.0 (slotted key.1.packet) key.1.at key.1.number in
      absurd (none (slotted key.1.packet)
      (subst (λ (j : ℕ). packet_at s j ≡ Some (slotted key.1.packet)) same key.1.at) key.1.number)

  sought_at : (k n : ℕ) (o : Option Packet) → packet_at s k ≡ o
      → CancelStands s (SlotCancel k n SetFlag) → Sought k n (if_numbered o n) (packet_of r n)
  sought_at k n None at stands =
      none_live k n (packet_of r n) refl stands
      (λ p is number. (let no : None ≡ Some p = sym at ∙ is in cc))
  sought_at k n (Some p) at stands =
      elim (eqb_tells p.number n) [
        | inl same ↦
            let found : Found s r k n =
            subst (λ (m : ℕ). Found s r k m) same.1 (found_used name s r keyed k p at) in
            let one : Some (slotted found.packet) ≡ Some p = sym found.at ∙ at in
            rw (same.0, found.of, ← one) (there found)
        | inr other ↦
            rw other.0 (none_live k n (packet_of r n) refl stands
            (λ q is number. other.1
            (let one : Some p ≡ Some q = sym at ∙ is in
            let same : p ≡ q = cc in ap (λ (x : Packet). x.number) same ∙ number)))
      ]

  flags : (k n : ℕ) (one other : Option Packet) → Sought k n one other
      → CancelStands s (SlotCancel k n SetFlag)
      → Means (cancel_flags_step s k n one) (cancel_flags r n other)
  flags k n None None gone stands = ends s r keyed.means (same_slots name s) []
  flags k n _ _ (there found) stands =
      changed k n found (cancelled (slotted found.packet)) (cancelled found.packet) refl
      found.number (SlotCancel k n Exchange ∷ []) (goes_on_cancelling n Exchange) _ refl
      (stands, tt)

  -- a cancel routine runs in its place
  calls_routine : (k n : ℕ) (found : Found s r k n) (after : SlotShared) (other : Shared)
      → MeansShared name after other → SameSlots s after → (armer : Armer) (driver : ℕ)
      (o : Option ℕ)
      → Means (cancel_calls_step after k armer driver o) (cancel_calls other n armer driver o)
  calls_routine k n found after other means same armer driver None =
      ends after other means same (Exchanges n false ∷ [])
  calls_routine k n found after other means same armer driver (Some routine) =
      record {
        shared = means;
        frames = ap (λ (m : ℕ). Routine (entered driver routine armer.device (Ref m)) ∷ [])
            (found_name name s r keyed k n found);
        reply = refl;
        taken = refl;
        told = refl;
        same = same;
        cancels = (tt, tt);
      }

  armed : (k n : ℕ) (found : Found s r k n) (after : SlotShared) (other : Shared)
      → MeansShared name after other → SameSlots s after → (o : Option Armer)
      → Means (cancel_armed_step set after k o) (cancel_armed set other n o)
  armed k n found after other means same None =
      ends after other means same (Exchanges n false ∷ [])
  armed k n found after other means same (Some armer) =
      let driver : ℕ = routine_of_device (slice_get set.devices armer.device) in
      calls_routine k n found after other means same armer driver
      (cancel_routine_named set driver armer.queue)

  exchanges : (k n : ℕ) (one other : Option Packet) → Sought k n one other
      → Means (cancel_exchanges_step set s k one) (cancel_exchanges set r n other)
  exchanges k n None None gone = ends s r keyed.means (same_slots name s) []
  exchanges k n _ _ (there found) =
      armed k n found (with_packet_at s k (with_armer (slotted found.packet) None))
      (with_packet r n (with_armer found.packet None))
      (written name s r keyed k n found (with_armer found.packet None) found.number)
      (written_same name s r keyed k n found (with_armer found.packet None) found.number)
      found.packet.armer

  pub cancels_packet : (t k n : ℕ) (step : CancelStep) → CancelStands s (SlotCancel k n step)
      → (step ≡ AcquireStep → r.locks.system_cancel ≡ Some t → ⊥)
      → Means (cancel_step set s t k n step) (effect.cancel_step set r t n step)
  cancels_packet t k n AcquireStep stands free =
      let same : s.locks.system_cancel ≡ r.locks.system_cancel =
      ap (λ (x : Locks). x.system_cancel) keyed.means.locks in
      subst (λ (o : Option ℕ).
      Means (cancel_step set s t k n AcquireStep) (cancel_acquires r t n o))
      same (acquires t k n s.locks.system_cancel stands (λ own. free refl (sym same ∙ own)))
  cancels_packet t k n SetFlag stands free =
      flags k n (if_numbered (packet_at s k) n) (packet_of r n)
      (sought_at k n (packet_at s k) refl stands) stands
  cancels_packet t k n Exchange stands free =
      exchanges k n (if_numbered (packet_at s k) n) (packet_of r n)
      (sought_at k n (packet_at s k) refl stands)

  -- a packet that doesn't top out is completed
  pub walks_found : (k n : ℕ) (found : Found s r k n)
      → (completion_of (current_location found.packet) ≡ None
      → nat_lt 1 (left_location found.packet).depth ≡ true)
      → Means (walk_step set s k (packet_at s k)) (walk_packet set r n (packet_of r n))
  walks_found k n found deep =
      rw (found.at, found.of)
      (walks_from k n found (left_location found.packet) found.number
      (completion_of (current_location found.packet)) deep)
