-- Each event of a run of an accepted set finds what it looks for on words that mean its world.
use Rattle.std.proofs.Common.{◌≡◌, ◌<◌, ℕ, List, Option, true, sym, ◌∙◌, ap, subst, is_some}
use Rattle.std.specs.Prelude.{slice_get}
use Rattle.model.specs.declared.event.Event.{Event}
use Rattle.model.specs.declared.event.Event.TheVariants.{Issue, Cancel as CancelEvent, Interrupt, Dpc as DpcEvent, StartIo as StartIoEvent, Step}
use Rattle.model.specs.declared.instr.Instr.{Instr}
use Rattle.model.specs.declared.instr.Instr.TheVariants.{Const, Move, Clear, Add, Subtract, JumpIfZero, JumpIfLess, Jump, Loop, End, Load, Store, LoadPaged, StorePaged, Get, Put, Mark, Acquire, Release, AcquireCancel, ReleaseCancel, Insert, Remove, Unlink, Arm, Disarm, IfCancel, Start, Take, Begin, Next, Pass, Call, Complete, IfPending, Ret, Dequeue}
use Rattle.model.specs.declared.instr.Return.{Return}
use Rattle.model.specs.declared.instr.Return.TheVariants.{WithStatus, Lower, Continue, Stop, Void}
use Rattle.model.specs.declared.limits.TheConstants.{MAX_FRAMES}
use Rattle.model.specs.declared.world.Activation.{Activation}
use Rattle.model.specs.declared.world.CancelStep.{CancelStep}
use Rattle.model.specs.declared.world.Packet.{Packet}
use Rattle.model.specs.Run.{run}
use Rattle.model.specs.Set.{Set}
use Rattle.model.specs.Sound.{IsSound}
use Rattle.model.specs.Typable.{IsTypable}
use Rattle.laws_slots.proofs.Fitting.Events.{all_fit}
use Rattle.laws_slots.specs.Fits.{CanBeListed, CancelFits, EventFits, FrameFits, HasKey, InstructionFits, ReturnFits, ThreadFits}
use Rattle.laws_slots.specs.Fits as slots
use Rattle.laws_slots.specs.Rep.{Means}
use Rattle.laws_slots.specs.SlotStep.{key_at}
use Rattle.laws_slots.specs.SlotStep as slot_steps
use Rattle.laws_slots.specs.Slots.{SlotCancel, SlotFrame, SlotRoutine, SlotShared, SlotThread, SlotWalk, SlotWorld, packet_at}
use Rattle.laws_slots.specs.declared.activation.WordActivation.{WordActivation}
use Rattle.laws_slots.specs.Reads.{Paired, ReadsFrame, ReadsThread, ReadsValue, in_words}
use Rattle.laws_slots.specs.Words.{WordCancel, WordFrame, WordRoutine, WordThread, WordWalk, WordWorld, word}
use Rattle.laws_slots.specs.WordsFit.{CanGoDown, IsKey, WordEventFits, WordEventsFit, WordFrameFits, WordInstructionFits, WordRoutineFits, WordThreadFits}
use Rattle.laws_slots.specs.WordsFit as words_fit
use Rattle.laws_slots.specs.WordStep.{top_frame}
use Rattle.laws_slots.proofs.WordsLaws.{same_world}
use Rattle.laws_slots.proofs.Operands.{key_is, key_same, status_is}
use Rattle.laws_slots.proofs.Pairs.{Partner, paired_get, paired_last, paired_length, partner}
use Rattle.laws_slots.proofs.WordsStacks.{w as as_words}

module _ (s : SlotShared) (a : Activation) (words : List ℕ)
    (h : Paired ReadsValue a.registers words) where
  abbrev b : WordActivation
  b = in_words a words

  is_key : (r : ℕ) → HasKey s a r → IsKey s (word b r)
  is_key r has =
      ap (λ (k : ℕ). is_some (packet_at s k)) (key_is a words h s r has)
      ∙ ap (λ (o : Option Packet). is_some o) has.lies

  goes_down : (r : ℕ) → HasKey s a r → slots.CanGoDown s a r → CanGoDown s (word b r)
  goes_down r has down packet lies =
      down has.key packet has.is
      (ap (λ (k : ℕ). packet_at s k) (sym (key_is a words h s r has)) ∙ lies)

  can_be_listed : (r : ℕ) → HasKey s a r → CanBeListed s (key_at a r) → CanBeListed s (word b r)
  can_be_listed r has = subst (λ (k : ℕ). CanBeListed s k) (key_same a words h s r has)

  returns_fit : (form : Return) → ReturnFits a form → words_fit.ReturnFits b form
  returns_fit (WithStatus status) fits = tt
  returns_fit (Lower r) fits = record { status = fits.status; is = status_is a words h r fits }
  returns_fit Continue fits = tt
  returns_fit Stop fits = tt
  returns_fit Void fits = tt

  module _ (set : Set) (t : ℕ) where
    instruction_fits : (i : Instr) → InstructionFits set s t a i → WordInstructionFits set s t b i
    instruction_fits (Const r n) fits = tt
    instruction_fits (Move r q) fits = tt
    instruction_fits (Clear r) fits = tt
    instruction_fits (Add r q) fits = tt
    instruction_fits (Subtract r q) fits = tt
    instruction_fits (JumpIfZero r label) fits = tt
    instruction_fits (JumpIfLess r q label) fits = tt
    instruction_fits (Jump label) fits = tt
    instruction_fits (Loop turns) fits = fits
    instruction_fits End fits = fits
    instruction_fits (Load r c) fits = fits
    instruction_fits (Store c r) fits = fits.0
    instruction_fits (LoadPaged r c) fits = fits
    instruction_fits (StorePaged c r) fits = fits.0
    instruction_fits (Get r q field) fits = is_key q fits
    instruction_fits (Put q r) fits = is_key q fits.0
    instruction_fits (Mark r) fits = is_key r fits
    instruction_fits (Acquire lock) fits = fits
    instruction_fits (Release lock) fits = fits
    instruction_fits AcquireCancel fits = fits
    instruction_fits ReleaseCancel fits = tt
    instruction_fits (Insert r q) fits =
        (is_key r fits.0, fits.1, fits.2, can_be_listed r fits.0 fits.3)
    instruction_fits (Remove r q label) fits = fits
    instruction_fits (Unlink r q) fits = (is_key r fits.0, fits.1)
    instruction_fits (Arm r q) fits = is_key r fits
    instruction_fits (Disarm r label) fits = is_key r fits
    instruction_fits (IfCancel r label) fits = is_key r fits
    instruction_fits (Start r) fits =
        (is_key r fits.0, fits.1, fits.2, can_be_listed r fits.0 fits.3)
    instruction_fits (Take r label) fits = fits
    instruction_fits (Begin r) fits = (is_key r fits.0, fits.1)
    instruction_fits Next fits = fits
    instruction_fits (Dequeue r) fits = (is_key r fits.0, fits.1)
    instruction_fits (Pass r) fits = (is_key r fits.0, fits.1)
    instruction_fits (Call r f) fits =
        (is_key r fits.0, fits.1, goes_down r fits.0 fits.2)
    instruction_fits (Complete r status) fits = is_key r fits
    instruction_fits (IfPending r label) fits = is_key r fits
    instruction_fits (Ret form) fits = returns_fit form fits

module _ (set : Set) (s : SlotShared) (t : ℕ) where
  frame_fits : (f : SlotFrame) (x : WordFrame) → ReadsFrame f x → FrameFits set s t f
      → WordFrameFits set s t x
  frame_fits (SlotRoutine a) (WordRoutine x) h fits =
      let its : WordRoutineFits set s t (in_words a x.registers) =
      record {
        instruction = fits.instruction;
        at = fits.at;
        near = fits.near;
        fits =
            instruction_fits s a x.registers h.registers set t fits.instruction fits.fits;
      } in
      subst (λ (y : WordActivation). WordRoutineFits set s t y) (sym h.rest) its
  frame_fits (SlotWalk k) (WordWalk j) h fits =
      subst (λ (i : ℕ). is_some (packet_at s i) ≡ true) (sym h) fits
  frame_fits (SlotCancel k n step) (WordCancel j m other) h fits =
      subst (λ (next : CancelStep). CancelFits s t next) (sym h.next) fits
  frame_fits _ _ h fits = absurd h

  thread_fits : (thread : SlotThread) (x : WordThread) → ReadsThread thread x
      → ThreadFits set s t thread → WordThreadFits set s t x
  thread_fits thread x both fits =
      record {
        room =
            subst (λ (n : ℕ). n < MAX_FRAMES)
            (paired_length ReadsFrame thread.frames x.frames both.frames) fits.room;
        top = λ f is.
            let under : Partner ReadsFrame (slot_steps.top_frame thread.frames) f =
            partner ReadsFrame (slot_steps.top_frame thread.frames) (top_frame x.frames) f
            (paired_last ReadsFrame thread.frames x.frames both.frames) is in
            frame_fits under.one f under.belongs (fits.top under.one under.at);
      }

module _ (set : Set) (typable : IsTypable set) (sound : IsSound set) (threads : ℕ)
    (events : List Event) (v : SlotWorld) (rep : Means set v (run set threads events).world)
    (others : List WordThread) (h : Paired ReadsThread v.threads others) where
  all_words_fit : (e : Event) → WordEventFits set (as_words v others h) e
  all_words_fit (Issue t d major argument) = tt
  all_words_fit (CancelEvent t n level) = tt
  all_words_fit (Interrupt d) = tt
  all_words_fit (DpcEvent t d) = tt
  all_words_fit (StartIoEvent t d) = tt
  all_words_fit (Step t) = λ x found.
      let its : Partner ReadsThread (slice_get v.threads t) x =
      partner ReadsThread (slice_get v.threads t) (slice_get others t) x
      (paired_get ReadsThread v.threads others t h) found in
      thread_fits set v.shared t its.one x its.belongs
      (all_fit set typable sound threads events v (Step t) rep its.one its.at)

pub words_fit_all : WordEventsFit
words_fit_all set typable sound threads events w e mean =
    subst (λ (x : WordWorld). WordEventFits set x e)
    (sym (same_world mean.slots w mean.reads))
    (all_words_fit set typable sound threads events mean.slots mean.means w.threads
    mean.reads.threads e)
