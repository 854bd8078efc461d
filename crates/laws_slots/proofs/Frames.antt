-- A step of a thread's top frame does to words what it does to slots.
use Rattle.std.proofs.Common.{ℕ, Bool, true, false, Option, None, Some, refl, sym, subst}
use Rattle.std.specs.Prelude.{nat_lt, slice_get, if◌then◌else◌}
use Rattle.model.specs.declared.instr.Instr.{Instr}
use Rattle.model.specs.declared.world.Armer.{Armer}
use Rattle.model.specs.declared.world.CancelStep.{CancelStep}
use Rattle.model.specs.declared.world.CancelStep.TheVariants.{Acquire as AcquireStep, SetFlag, Exchange}
use Rattle.model.specs.declared.world.Completion.{Completion}
use Rattle.model.specs.declared.world.Packet.{Packet}
use Rattle.model.specs.declared.world.Value.TheVariants.{Ref}
use Rattle.model.specs.Effect.{routine_of_device}
use Rattle.model.specs.Set.{Set, cancel_routine_named}
use Rattle.model.specs.World.{completion_of, current_location, left_location, with_armer}
use Rattle.laws_slots.specs.Fits.{FrameFits}
use Rattle.laws_slots.specs.Slots.{SlotCancel, SlotFrame, SlotRoutine, SlotShared, SlotWalk, packet_at, with_packet_at}
use Rattle.laws_slots.specs.SlotStep.{SlotOutcome, if_numbered}
use Rattle.laws_slots.specs.SlotStep as slots
use Rattle.laws_slots.specs.declared.activation.WordActivation.{WordActivation}
use Rattle.laws_slots.specs.Reads.{ReadsFrame, SameCancel, in_words}
use Rattle.laws_slots.specs.Words.{WordCancel, WordFrame, WordRoutine, WordWalk}
use Rattle.laws_slots.specs.WordStep.{WordOutcome, cancel_acquires_step, cancel_armed_step, cancel_calls_step, cancel_ends_step, cancel_exchanges_step, cancel_flags_step, cancel_step, frame_step, routine_step, walk_from_step, walk_out_step, walk_step, walk_up_step}
use Rattle.laws_slots.proofs.Instructions.{instructs}
use Rattle.laws_slots.proofs.WordsOutcomes.{ReadsOutcome, completing_reads, entered_reads}
use Rattle.laws_slots.proofs.Pairs.{PairedOption}

module _ (set : Set) (s : SlotShared) where
  abbrev Reads : SlotOutcome → WordOutcome → Type 0
  Reads o p = ReadsOutcome o p

  -- the I/O manager completes a packet
  walks_on : (k : ℕ) (p : Packet) (deeper : Bool)
      → Reads (if deeper then slots.walk_up_step s k p else slots.walk_out_step s k p)
      (if deeper then walk_up_step s k p else walk_out_step s k p)
  walks_on k p true =
      record { shared = refl; frames = (refl, tt); reply = refl; taken = refl; told = refl }
  walks_on k p false =
      record { shared = refl; frames = tt; reply = refl; taken = refl; told = refl }

  walks_from : (k : ℕ) (p : Packet) (o : Option Completion)
      → Reads (slots.walk_from_step set s k p o) (walk_from_step set s k p o)
  walks_from k p (Some c) =
      record {
        shared = refl;
        frames = (refl, (completing_reads set c k, tt));
        reply = refl;
        taken = refl;
        told = refl;
      }
  walks_from k p None = walks_on k p (nat_lt 1 p.depth)

  walks : (k : ℕ) (o : Option Packet) → Reads (slots.walk_step set s k o) (walk_step set s k o)
  walks k None = record { shared = refl; frames = tt; reply = refl; taken = refl; told = refl }
  walks k (Some p) = walks_from k (left_location p) (completion_of (current_location p))

  -- it cancels one
  cancels_end : (r : SlotShared) → Reads (slots.cancel_ends_step r) (cancel_ends_step r)
  cancels_end r = record { shared = refl; frames = tt; reply = refl; taken = refl; told = refl }

  same : (k n : ℕ) (step : CancelStep) → SameCancel k n step k n step
  same k n step = record { key = refl; number = refl; next = refl }

  cancels_acquire : (t k n : ℕ) (o : Option ℕ)
      → Reads (slots.cancel_acquires_step s t k n o) (cancel_acquires_step s t k n o)
  cancels_acquire t k n None =
      record {
        shared = refl;
        frames = (same k n SetFlag, tt);
        reply = refl;
        taken = refl;
        told = refl;
      }
  cancels_acquire t k n (Some owner) =
      record {
        shared = refl;
        frames = (same k n AcquireStep, tt);
        reply = refl;
        taken = refl;
        told = refl;
      }

  cancels_flag : (k n : ℕ) (o : Option Packet)
      → Reads (slots.cancel_flags_step s k n o) (cancel_flags_step s k n o)
  cancels_flag k n None = cancels_end s
  cancels_flag k n (Some p) =
      record {
        shared = refl;
        frames = (same k n Exchange, tt);
        reply = refl;
        taken = refl;
        told = refl;
      }

  cancels_call : (r : SlotShared) (k : ℕ) (armer : Armer) (driver : ℕ) (o : Option ℕ)
      → Reads (slots.cancel_calls_step r k armer driver o) (cancel_calls_step r k armer driver o)
  cancels_call r k armer driver None = cancels_end r
  cancels_call r k armer driver (Some routine) =
      record {
        shared = refl;
        frames = (entered_reads driver routine armer.device (Ref k) k refl, tt);
        reply = refl;
        taken = refl;
        told = refl;
      }

  cancels_armed : (r : SlotShared) (k : ℕ) (o : Option Armer)
      → Reads (slots.cancel_armed_step set r k o) (cancel_armed_step set r k o)
  cancels_armed r k None = cancels_end r
  cancels_armed r k (Some armer) =
      let driver : ℕ = routine_of_device (slice_get set.devices armer.device) in
      cancels_call r k armer driver (cancel_routine_named set driver armer.queue)

  cancels_exchange : (k : ℕ) (o : Option Packet)
      → Reads (slots.cancel_exchanges_step set s k o) (cancel_exchanges_step set s k o)
  cancels_exchange k None = cancels_end s
  cancels_exchange k (Some p) =
      cancels_armed (with_packet_at s k (with_armer p None)) k p.armer

  cancels : (t k n : ℕ) (step : CancelStep)
      → Reads (slots.cancel_step set s t k n step) (cancel_step set s t k n step)
  cancels t k n AcquireStep = cancels_acquire t k n s.locks.system_cancel
  cancels t k n SetFlag = cancels_flag k n (if_numbered (packet_at s k) n)
  cancels t k n Exchange = cancels_exchange k (if_numbered (packet_at s k) n)

  -- the top frame, over another frame or none
  module _ (t : ℕ) (under : Option SlotFrame) (over : Option WordFrame)
      (stand : PairedOption ReadsFrame under over) where
    pub frame_reads : (f : SlotFrame) (x : WordFrame) → ReadsFrame f x → FrameFits set s t f
        → Reads (slots.frame_step set s t under f) (frame_step set s t over x)
    frame_reads (SlotRoutine a) (WordRoutine x) h fits =
        let step : Reads (slots.frame_step set s t under (SlotRoutine a))
        (frame_step set s t over (WordRoutine (in_words a x.registers))) =
        subst (λ (o : Option Instr). Reads (slots.routine_step set s t under a o)
        (routine_step set s t over (in_words a x.registers) o)) (sym fits.at)
        (instructs s a x.registers h.registers under over stand set t fits.instruction fits.fits)
        in
        subst (λ (y : WordActivation). Reads (slots.frame_step set s t under (SlotRoutine a))
        (frame_step set s t over (WordRoutine y))) (sym h.rest) step
    frame_reads (SlotWalk k) (WordWalk j) h fits =
        subst (λ (i : ℕ). Reads (slots.frame_step set s t under (SlotWalk k))
        (frame_step set s t over (WordWalk i))) (sym h) (walks k (packet_at s k))
    frame_reads (SlotCancel k n step) (WordCancel j m other) h fits =
        rw (h.key, h.number, h.next) (cancels t k n step)
    frame_reads _ _ h fits = absurd h
