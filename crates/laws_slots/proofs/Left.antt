-- What a step leaves, as far as a thread's other frames and other threads go by it.
use Rattle.std.proofs.Common.{◌≡◌, ℕ, true, false, List, Option, None, Some, refl, sym, ◌∙◌, ap, map, is_some}
use Rattle.model.specs.declared.world.Packet.{Packet}
use Rattle.model.specs.Effect.{Outcome}
use Rattle.model.specs.Queues.{is_linked}
use Rattle.model.specs.World.{Shared, packet_of}
use Rattle.laws_slots.specs.Rep.{CancelStands, EachFrame, MeansShared, Ordered, meant_frame, named, number_in_slot}
use Rattle.laws_slots.specs.Slots.{SlotCancel, SlotFrame, SlotRoutine, SlotShared, SlotWalk, packet_at}
use Rattle.laws_slots.specs.SlotStep.{SlotOutcome}
use Rattle.laws_slots.proofs.Keys.{Keyed}
use Rattle.laws_slots.proofs.Outcomes.{MeansOutcome, SameSlots}

-- slots after a change: what names a packet that is live then names it still; and a slot that is
-- used then was used by a packet of the same number
pub record Fewer (s after : SlotShared) : Type 0 where
  pub was : (j : ℕ) (q : Packet) → packet_at after j ≡ Some q
      → (p : Packet) × (packet_at s j ≡ Some p) × (p.number ≡ q.number)
  pub issued : after.issued ≡ s.issued

pub record Left (name : ℕ → ℕ) (s : SlotShared) (p : SlotOutcome) (o : Outcome) : Type 0 where
  pub shared : MeansShared name p.shared o.shared
  pub frames : map (meant_frame name) p.frames ≡ o.frames
  pub reply : p.reply ≡ o.reply
  pub taken : p.taken_below ≡ o.taken_below
  pub told : p.told ≡ o.told
  pub live : (j : ℕ) → is_some (packet_of o.shared (name j)) ≡ true → named p.shared j ≡ name j
  pub order : Ordered p.shared
  pub fewer : Fewer s p.shared
  pub cancels : EachFrame (CancelStands s) p.frames

-- an I/O manager's frame that cancels a packet has its key after such a change too
pub cancel_later : (s after : SlotShared) → Fewer s after → (f : SlotFrame) → CancelStands s f
    → CancelStands after f
cancel_later s after fewer (SlotRoutine a) h = tt
cancel_later s after fewer (SlotWalk k) h = tt
cancel_later s after fewer (SlotCancel k n step) h = (
  rw fewer.issued h.0,
  λ j q at number.
      (let was : (p : Packet) × (packet_at s j ≡ Some p) × (p.number ≡ q.number) =
      fewer.was j q at in
      h.1 j was.0 was.1 (was.2 ∙ number)),
)

was_used : (issued more : ℕ) (before after : Option Packet) (q : Packet) → after ≡ Some q
    → is_some after ≡ is_some before
    → number_in_slot more after ≡ number_in_slot issued before
    → (p : Packet) × (before ≡ Some p) × (p.number ≡ q.number)
was_used issued more None after q at use_of same =
    let no : true ≡ false = sym (ap is_some at) ∙ use_of in cc
was_used issued more (Some p) after q at use_of same =
    (p, refl, sym same ∙ ap (λ (o : Option Packet). number_in_slot more o) at)

pub same_fewer : (s after : SlotShared) → SameSlots s after → Fewer s after
same_fewer s after same =
    record {
      was = λ j q at. was_used s.issued after.issued (packet_at s j) (packet_at after j) q at
          (same.use_of j) (same.name j);
      issued = same.issued;
    }

pub same_ordered : (s after : SlotShared) → SameSlots s after → Ordered s → Ordered after
same_ordered s after same order =
    record {
      used = λ k linked. same.use_of k
          ∙ order.used k (ap (λ (keys : List ℕ). is_linked keys k) (sym same.order) ∙ linked);
      listed = λ k used. ap (λ (keys : List ℕ). is_linked keys k) same.order
          ∙ order.listed k (sym (same.use_of k) ∙ used);
    }

pub left_of : (name : ℕ → ℕ) (s : SlotShared) (r : Shared) → Keyed name s r → (p : SlotOutcome)
    (o : Outcome) → MeansOutcome name s p o → Left name s p o
left_of name s r keyed p o h =
    record {
      shared = h.shared;
      frames = h.frames;
      reply = h.reply;
      taken = h.taken;
      told = h.told;
      live = λ j live. h.same.name j ∙ sym (keyed.names j);
      order = same_ordered s p.shared h.same keyed.order;
      fewer = same_fewer s p.shared h.same;
      cancels = h.cancels;
    }
