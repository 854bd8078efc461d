-- A step of a thread: the frames below the one that ran, what stands in its place, and the reply,
-- of words and of the slots that they are read as.
use Rattle.std.proofs.Common.{◌≡◌, ℕ, ◌-◌, Bool, true, false, List, [], ◌∷◌, ◌++◌, length, take, Option, None, Some, refl, sym, ◌∙◌, ap, subst}
use Rattle.model.specs.declared.event.Reply.{Reply}
use Rattle.model.specs.declared.status.Status.{Status}
use Rattle.model.specs.declared.world.Activation.{Activation}
use Rattle.model.specs.declared.world.Irql.{Irql}
use Rattle.model.specs.declared.world.Value.TheVariants.{Status as StatusValue}
use Rattle.model.specs.Effect.{operand_of}
use Rattle.model.specs.Effect as model
use Rattle.model.specs.Set.{Set, instruction_at}
use Rattle.laws_slots.specs.Fits.{FrameFits, ThreadFits}
use Rattle.laws_slots.specs.Slots.{SlotCancel, SlotFrame, SlotRoutine, SlotThread, SlotWalk, SlotWorld}
use Rattle.laws_slots.specs.SlotStep.{SlotAnswer, SlotOutcome}
use Rattle.laws_slots.specs.SlotStep as slots
use Rattle.laws_slots.specs.declared.activation.WordActivation.{WordActivation}
use Rattle.laws_slots.specs.Reads.{Paired, ReadsFrame, ReadsRoutine, ReadsThread, ReadsValue, ReadsWorld, in_words}
use Rattle.laws_slots.specs.Words.{WordCancel, WordFrame, WordRoutine, WordThread, WordWalk, WordWorld, answered, answered_in}
use Rattle.laws_slots.specs.WordStep.{WordAnswer, WordOutcome, ends_or, frames_after, frames_below, level_over, settled_step, stays, thread_step, told_frame, told_frames, top_frame, top_step}
use Rattle.laws_slots.proofs.Frames.{frame_reads}
use Rattle.laws_slots.proofs.WordsOutcomes.{ReadsOutcome, routine_reads}
use Rattle.laws_slots.proofs.Pairs.{PairedOption, paired_append, paired_before, paired_last, paired_set}

-- a routine is told what a lower driver returned
told_in_register : (a : Activation) (words : List ℕ) → Paired ReadsValue a.registers words
    → (status : Status) (r : Option ℕ)
    → ReadsRoutine (model.answered_in a status r) (answered_in (in_words a words) status r)
told_in_register a words h status None = routine_reads a words h
told_in_register a words h status (Some r) =
    record {
      rest = refl;
      registers = paired_set ReadsValue a.registers words r (StatusValue status) _ h refl;
    }

answered_reads : (set : Set) (a : Activation) (x : WordActivation) (status : Status)
    → ReadsRoutine a x → ReadsRoutine (model.answered set a status) (answered set x status)
answered_reads set a x status h =
    subst (λ (y : WordActivation).
    ReadsRoutine (model.answered set a status) (answered set y status)) (sym h.rest)
    (told_in_register a x.registers h.registers status
    (operand_of (instruction_at set a.driver a.routine (a.position - 1))))

-- the frames that stand then
abbrev Stand : List SlotFrame → List WordFrame → Type 0
Stand frames others = Paired ReadsFrame frames others

module _ (set : Set) where
  told_one : (below : List SlotFrame) (under : List WordFrame) → Stand below under
      → (status : Status) (top : Option SlotFrame) (over : Option WordFrame)
      → PairedOption ReadsFrame top over
      → Stand (slots.told_frame set below status top) (told_frame set under status over)
  told_one below under h status None None both = h
  told_one below under h status (Some (SlotWalk k)) (Some (WordWalk j)) both = h
  told_one below under h status (Some (SlotCancel k n step)) (Some (WordCancel j m other)) both =
      h
  told_one below under h status (Some (SlotRoutine a)) (Some (WordRoutine x)) both =
      paired_append ReadsFrame (take (length below - 1) below) (take (length under - 1) under)
      (SlotRoutine (model.answered set a status) ∷ []) (WordRoutine (answered set x status) ∷ [])
      (paired_before ReadsFrame below under h) (answered_reads set a x status both, tt)
  told_one below under h status _ _ both = absurd both

  told_all : (below : List SlotFrame) (under : List WordFrame) → Stand below under
      → (told : Option Status)
      → Stand (slots.told_frames set below told) (told_frames set under told)
  told_all below under h None = h
  told_all below under h (Some status) =
      told_one below under h status (slots.top_frame below) (top_frame under)
      (paired_last ReadsFrame below under h)

  below_stand : (below : List SlotFrame) (under : List WordFrame) → Stand below under
      → (taken : Bool) → Stand (slots.frames_below below taken) (frames_below under taken)
  below_stand below under h true = paired_before ReadsFrame below under h
  below_stand below under h false = h

  after_stand : (below : List SlotFrame) (under : List WordFrame) → Stand below under
      → (o : SlotOutcome) (p : WordOutcome) → ReadsOutcome o p
      → Stand (slots.frames_after set below o) (frames_after set under p)
  after_stand below under h o p reads =
      subst (λ (taken : Bool). Stand (slots.frames_after set below o)
      (told_frames set (frames_below under taken) p.told ++ p.frames)) (sym reads.taken)
      (subst (λ (told : Option Status). Stand (slots.frames_after set below o)
      (told_frames set (frames_below under o.taken_below) told ++ p.frames)) (sym reads.told)
      (paired_append ReadsFrame
      (slots.told_frames set (slots.frames_below below o.taken_below) o.told)
      (told_frames set (frames_below under o.taken_below) o.told) o.frames p.frames
      (told_all (slots.frames_below below o.taken_below) (frames_below under o.taken_below)
      (below_stand below under h o.taken_below) o.told) reads.frames))

level_same : (root : Irql) (frames : List SlotFrame) (others : List WordFrame)
    → Stand frames others → level_over root others ≡ slots.level_over root frames
level_same root [] [] h = refl
level_same root (f ∷ frames) (x ∷ others) h = refl
level_same root _ _ h = absurd h

ends_same : (reply : Reply) (frames : List SlotFrame) (others : List WordFrame)
    → Stand frames others → ends_or others reply ≡ slots.ends_or frames reply
ends_same reply [] [] h = refl
ends_same reply (f ∷ frames) (x ∷ others) h = refl
ends_same reply _ _ h = absurd h

-- the world and the reply after an event
pub record ReadsAnswer (b : SlotAnswer) (c : WordAnswer) : Type 0 where
  pub world : ReadsWorld b.world c.world
  pub reply : c.reply ≡ b.reply

module _ (v : SlotWorld) (threads : List WordThread) (h : Paired ReadsThread v.threads threads)
  where
    -- words that share what the slots share
    abbrev pub w : WordWorld
    w = record { threads = threads; shared = v.shared }

    pub stays_read : (reply : Reply) → ReadsAnswer (slots.stays v reply) (stays w reply)
    stays_read reply =
        record { world = record { threads = h; shared = refl }; reply = refl }

    module _ (set : Set) (t : ℕ) where
      settles : (thread : SlotThread) (x : WordThread) → ReadsThread thread x
          → (below : List SlotFrame) (under : List WordFrame) → Stand below under
          → (o : SlotOutcome) (p : WordOutcome) → ReadsOutcome o p
          → ReadsAnswer (slots.settled_step set v t thread below o)
          (settled_step set w t x under p)
      settles thread x both below under stand o p reads =
          let frames : List SlotFrame = slots.frames_after set below o in
          let others : List WordFrame = frames_after set under p in
          let after : Stand frames others = after_stand set below under stand o p reads in
          record {
            world =
                record {
                  threads =
                      paired_set ReadsThread v.threads threads t
                      (record { root = slots.level_over thread.root frames; frames = frames })
                      (record { root = level_over x.root others; frames = others }) h
                      (record {
                        root = ap (λ (root : Irql). level_over root others) both.root
                            ∙ level_same thread.root frames others after;
                        frames = after;
                      });
                  shared = reads.shared;
                };
            reply = ends_same p.reply frames others after ∙ ap (slots.ends_or frames) reads.reply;
          }

      tops : (thread : SlotThread) (x : WordThread) → ReadsThread thread x
          → (below : List SlotFrame) (under : List WordFrame) → Stand below under
          → (top : Option SlotFrame) (over : Option WordFrame) → PairedOption ReadsFrame top over
          → ((f : SlotFrame) → top ≡ Some f → FrameFits set v.shared t f)
          → ReadsAnswer (slots.top_step set v t thread below top) (top_step set w t x under over)
      tops thread x both below under stand None None top fits = stays_read _
      tops thread x both below under stand (Some f) (Some y) top fits =
          settles thread x both below under stand
          (slots.frame_step set v.shared t (slots.top_frame below) f) _
          (frame_reads set v.shared t (slots.top_frame below) (top_frame under)
          (paired_last ReadsFrame below under stand) f y top (fits f refl))
      tops thread x both below under stand _ _ top fits = absurd top

      -- of a thread whose top frame finds what it looks for
      pub steps_read : (o : Option SlotThread) (p : Option WordThread)
          → PairedOption ReadsThread o p
          → ((thread : SlotThread) → o ≡ Some thread → ThreadFits set v.shared t thread)
          → ReadsAnswer (slots.thread_step set v t o) (thread_step set w t p)
      steps_read None None both fits = stays_read _
      steps_read (Some thread) (Some x) both fits =
          tops thread x both (take (length thread.frames - 1) thread.frames)
          (take (length x.frames - 1) x.frames)
          (paired_before ReadsFrame thread.frames x.frames both.frames)
          (slots.top_frame thread.frames) (top_frame x.frames)
          (paired_last ReadsFrame thread.frames x.frames both.frames) (fits thread refl).top
      steps_read _ _ both fits = absurd both
