-- What an event does to words is read as what it does to slots; and a request's packet, wherever it
-- was put, as put there.
use Rattle.std.proofs.Common.{◌≡◌, ℕ, Bool, true, false, List, Option, None, Some, refl, sym, ap, subst}
use Rattle.std.specs.Prelude.{◌&&◌, not, nat_eq, nat_lt, slice_get, slice_set, if◌then◌else◌}
use Rattle.model.specs.declared.event.Event.{Event}
use Rattle.model.specs.declared.event.Event.TheVariants.{Issue, Cancel as CancelEvent, Interrupt, Dpc as DpcEvent, StartIo as StartIoEvent, Step}
use Rattle.model.specs.declared.event.Reply.{Reply}
use Rattle.model.specs.declared.event.Reply.TheVariants.{Idle, Refused}
use Rattle.model.specs.declared.set.Device.{Device}
use Rattle.model.specs.declared.status.Major.{Major}
use Rattle.model.specs.declared.world.CancelStep.TheVariants.{Acquire as AcquireStep}
use Rattle.model.specs.declared.world.Irql.{Irql}
use Rattle.model.specs.declared.world.Irql.TheVariants.{Passive, Dispatch as DispatchLevel}
use Rattle.model.specs.declared.world.Value.TheVariants.{Blank, Ref}
use Rattle.model.specs.Effect.{routine_of_device}
use Rattle.model.specs.Events.{irql_of}
use Rattle.model.specs.Queues.{StartState, head_of, without_first_to_start}
use Rattle.model.specs.Set.{Set, dpc_of, serving, startio_of}
use Rattle.model.specs.World.{entered}
use Rattle.laws_slots.specs.Done.{EventDone}
use Rattle.laws_slots.specs.Done as slots_done
use Rattle.laws_slots.specs.Fits.{ThreadFits}
use Rattle.laws_slots.specs.SlotEvents.{can_issue_slot, cancel_slot, dpc_slot, interrupt_slot, key_of, slot_event, slot_queued, startio_slot, with_slot_dpc}
use Rattle.laws_slots.specs.SlotEvents as slots
use Rattle.laws_slots.specs.Slots.{SlotCancel, SlotFrame, SlotRoutine, SlotShared, SlotThread, SlotWorld, slot_start, with_slot_start}
use Rattle.laws_slots.specs.SlotStep.{SlotAnswer}
use Rattle.laws_slots.specs.SlotStep as slot_steps
use Rattle.laws_slots.specs.Reads.{Paired, ReadsFrame, ReadsThread}
use Rattle.laws_slots.specs.WordEvents.{cancel_key, cancel_word, dpc_word, has_none, interrupt_word, rooted_word, startio_from, startio_key, startio_word, with_word_thread}
use Rattle.laws_slots.specs.Words.{WordCancel, WordFrame, WordRoutine, WordThread, WordWorld, entered as words_entered}
use Rattle.laws_slots.specs.WordsDone.{IssueDone, IssuesIf, WordEventDone}
use Rattle.laws_slots.specs.WordStep.{WordAnswer, stays}
use Rattle.laws_slots.proofs.WordsOutcomes.{entered_reads}
use Rattle.laws_slots.proofs.Pairs.{PairedOption, paired_get, paired_length, paired_set}
use Rattle.laws_slots.proofs.WordsStacks.{ReadsAnswer, stays_read, steps_read, w as as_words}

-- by a test, in one way or another
answers_by : (test : Bool) (a c : SlotAnswer) (x y : WordAnswer) → ReadsAnswer a x
    → ReadsAnswer c y → ReadsAnswer (if test then a else c) (if test then x else y)
answers_by true a c x y one other = one
answers_by false a c x y one other = other

none_same : (thread : SlotThread) (x : WordThread) → ReadsThread thread x
    → slots.has_none thread ≡ has_none x
none_same thread x both =
    ap (λ (n : ℕ). nat_eq n 0) (paired_length ReadsFrame thread.frames x.frames both.frames)

rooted : (level : Irql) (f : SlotFrame) (x : WordFrame) → ReadsFrame f x
    → ReadsThread (slots.rooted_slot level f) (rooted_word level x)
rooted level f x both = record { root = refl; frames = (both, tt) }

module _ (v : SlotWorld) (threads : List WordThread) (h : Paired ReadsThread v.threads threads)
  where
    abbrev w : WordWorld
    w = as_words v threads h

    stay : (reply : Reply) → ReadsAnswer (slot_steps.stays v reply) (stays w reply)
    stay reply = stays_read v threads h reply

    -- a thread begins something
    begun : (t : ℕ) (s : SlotShared) (level : Irql) (f : SlotFrame) (x : WordFrame)
        → ReadsFrame f x → (reply : Reply)
        → ReadsAnswer
        (record {
          world = slots.with_slot_thread v t s (slots.rooted_slot level f);
          reply = reply;
        })
        (record { world = with_word_thread w t s (rooted_word level x); reply = reply })
    begun t s level f x both reply =
        record {
          world =
              record {
                threads =
                    paired_set ReadsThread v.threads threads t (slots.rooted_slot level f)
                    (rooted_word level x) h (rooted level f x both);
                shared = refl;
              };
          reply = refl;
        }

    -- IoCancelIrp
    cancels_key : (t n : ℕ) (level : Irql) (o : Option ℕ)
        → ReadsAnswer (slots.cancel_key v t n level o) (cancel_key w t n level o)
    cancels_key t n level None = stay _
    cancels_key t n level (Some k) =
        begun t v.shared level (SlotCancel k n AcquireStep) (WordCancel k n AcquireStep)
        (record { key = refl; number = refl; next = refl }) _

    cancels : (t n : ℕ) (level : Option Irql) (o : Option SlotThread) (p : Option WordThread)
        → PairedOption ReadsThread o p
        → ReadsAnswer (cancel_slot v t n level o) (cancel_word w t n level p)
    cancels t n level None None both = stay _
    cancels t n None (Some thread) (Some x) both = stay _
    cancels t n (Some level) (Some thread) (Some x) both =
        rw (none_same thread x both)
        (answers_by (has_none x && nat_lt n v.shared.issued) _ _ _ _
        (cancels_key t n level (key_of v.shared.slots v.shared.order n)) (stay Refused))
    cancels t n level _ _ both = absurd both

    -- interrupts and DPCs
    interrupts : (d : ℕ) (o : Option ℕ)
        → ReadsAnswer (interrupt_slot v d o) (interrupt_word w d o)
    interrupts d None = stay _
    interrupts d (Some routine) =
        answers_by (slot_queued v.shared d) _ _ _ _ (stay Idle)
        (record { world = record { threads = h; shared = refl }; reply = refl })

    module _ (set : Set) where
      dpcs : (t d : ℕ) (o : Option SlotThread) (p : Option WordThread) (routine : Option ℕ)
          → PairedOption ReadsThread o p
          → ReadsAnswer (dpc_slot set v t d o routine) (dpc_word set w t d p routine)
      dpcs t d None None routine both = stay _
      dpcs t d (Some thread) (Some x) None both = stay _
      dpcs t d (Some thread) (Some x) (Some routine) both =
          rw (none_same thread x both)
          (answers_by (not (has_none x)) _ _ _ _ (stay Refused)
          (answers_by (slot_queued v.shared d) _ _ _ _
          (begun t (with_slot_dpc v.shared d false) DispatchLevel _ _
          (entered_reads (routine_of_device (slice_get set.devices d)) routine d Blank 0 tt) _)
          (stay Idle)))
      dpcs t d _ _ routine both = absurd both

      -- a StartIo routine
      startios_key : (t d routine : ℕ) (start : StartState) (o : Option ℕ)
          → ReadsAnswer (slots.startio_key set v t d routine start o)
          (startio_key set w t d routine start o)
      startios_key t d routine start None = stay _
      startios_key t d routine start (Some k) =
          begun t (with_slot_start v.shared d (without_first_to_start start)) DispatchLevel _ _
          (entered_reads (routine_of_device (slice_get set.devices d)) routine d (Ref k) k refl) _

      startios_from : (t d routine : ℕ) (o : Option StartState)
          → ReadsAnswer (slots.startio_from_slots set v t d routine o)
          (startio_from set w t d routine o)
      startios_from t d routine None = stay _
      startios_from t d routine (Some start) =
          startios_key t d routine start (head_of start.start_list)

      startios : (t d : ℕ) (o : Option SlotThread) (p : Option WordThread) (routine : Option ℕ)
          → PairedOption ReadsThread o p
          → ReadsAnswer (startio_slot set v t d o routine) (startio_word set w t d p routine)
      startios t d None None routine both = stay _
      startios t d (Some thread) (Some x) None both = stay _
      startios t d (Some thread) (Some x) (Some routine) both =
          rw (none_same thread x both)
          (answers_by (has_none x) _ _ _ _ (startios_from t d routine (slot_start v.shared d))
          (stay Refused))
      startios t d _ _ routine both = absurd both

      -- a request
      pub record Issues (t d : ℕ) (major : Major) (argument : ℕ) (o : Option SlotThread)
          (device : Option Device) (done : WordAnswer) : Type 0 where
        pub slots : SlotAnswer
        pub is : slots_done.IssueDone set v t d major argument o device slots
        pub reads : ReadsAnswer slots done

      -- nothing was done
      stayed : (done : WordAnswer) → done ≡ stays w Refused
          → ReadsAnswer (slot_steps.stays v Refused) done
      stayed done is =
          subst (λ (b : WordAnswer). ReadsAnswer (slot_steps.stays v Refused) b) (sym is)
          (stay Refused)

      module _ (t d : ℕ) (major : Major) (argument : ℕ) (device : Device) (done : WordAnswer) where
        pub record IssuesBy (may : Bool) : Type 0 where
          pub slots : SlotAnswer
          pub is : slots_done.IssuesIf set v t d device major argument slots may
          pub reads : ReadsAnswer slots done

        issues_if : (may : Bool) → IssuesIf set w t d device major argument done may
            → IssuesBy may
        issues_if false is =
            record { slots = slot_steps.stays v Refused; is = refl; reads = stayed done is }
        issues_if true its =
            let f : SlotFrame =
            SlotRoutine
            (entered device.driver (serving (slice_get set.drivers device.driver) major) d
            (Ref its.key)) in
            let x : WordFrame =
            WordRoutine
            (words_entered device.driver (serving (slice_get set.drivers device.driver) major) d
            its.key) in
            let after : List SlotThread =
            slice_set v.threads t (slots.rooted_slot Passive f) in
            record {
              slots =
                  record {
                    world = record { threads = after; shared = done.world.shared };
                    reply = done.reply;
                  };
              is =
                  record { key = its.key; takes = its.takes; threads = refl; reply = its.reply };
              reads =
                  record {
                    world =
                        record {
                          threads =
                              subst (λ (ys : List WordThread). Paired ReadsThread after ys)
                              (sym its.threads)
                              (paired_set ReadsThread v.threads threads t
                              (slots.rooted_slot Passive f) (rooted_word Passive x) h
                              (rooted Passive f x
                              (entered_reads device.driver
                              (serving (slice_get set.drivers device.driver) major) d
                              (Ref its.key) its.key refl)));
                          shared = refl;
                        };
                    reply = refl;
                  };
            }

      issues : (t d : ℕ) (major : Major) (argument : ℕ) (o : Option SlotThread)
          (p : Option WordThread) (device : Option Device) (done : WordAnswer)
          → PairedOption ReadsThread o p → IssueDone set w t d major argument p device done
          → Issues t d major argument o device done
      issues t d major argument None None device done both is =
          record { slots = slot_steps.stays v Refused; is = refl; reads = stayed done is }
      issues t d major argument (Some thread) (Some x) None done both is =
          record { slots = slot_steps.stays v Refused; is = refl; reads = stayed done is }
      issues t d major argument (Some thread) (Some x) (Some device) done both its =
          let by : IssuesBy t d major argument device done
          (has_none x && can_issue_slot v.shared) =
          issues_if t d major argument device done (has_none x && can_issue_slot v.shared) its in
          record {
            slots = by.slots;
            is =
                subst (λ (none : Bool). slots_done.IssuesIf set v t d device major argument
                by.slots (none && can_issue_slot v.shared)) (sym (none_same thread x both)) by.is;
            reads = by.reads;
          }
      issues t d major argument _ _ device done both is = absurd both

      -- an event was carried out on words: so it was on the slots that they are read as
      pub record IsDone (e : Event) (done : WordAnswer) : Type 0 where
        pub slots : SlotAnswer
        pub is : EventDone set v e slots
        pub reads : ReadsAnswer slots done

      as_slots : (e : Event) (done other : WordAnswer) → done ≡ other → (b : SlotAnswer)
          → EventDone set v e b → ReadsAnswer b other → IsDone e done
      as_slots e done other is b does reads =
          record {
            slots = b;
            is = does;
            reads = subst (λ (c : WordAnswer). ReadsAnswer b c) (sym is) reads;
          }

      thread : (t : ℕ) → PairedOption ReadsThread (slice_get v.threads t) (slice_get threads t)
      thread t = paired_get ReadsThread v.threads threads t h

      pub events_read : (e : Event) (done : WordAnswer) → WordEventDone set w e done
          → ((t : ℕ) → e ≡ Step t → (x : SlotThread) → slice_get v.threads t ≡ Some x
          → ThreadFits set v.shared t x) → IsDone e done
      events_read (Issue t d major argument) done its fits =
          let done_so : Issues t d major argument (slice_get v.threads t)
          (slice_get set.devices d) done =
          issues t d major argument (slice_get v.threads t) (slice_get threads t)
          (slice_get set.devices d) done (thread t) its in
          record { slots = done_so.slots; is = done_so.is; reads = done_so.reads }
      events_read (CancelEvent t n level) done is fits =
          as_slots (CancelEvent t n level) done _ is _ refl
          (cancels t n (irql_of level) (slice_get v.threads t) (slice_get threads t) (thread t))
      events_read (Interrupt d) done is fits =
          as_slots (Interrupt d) done _ is _ refl (interrupts d (dpc_of set d))
      events_read (DpcEvent t d) done is fits =
          as_slots (DpcEvent t d) done _ is _ refl
          (dpcs t d (slice_get v.threads t) (slice_get threads t) (dpc_of set d) (thread t))
      events_read (StartIoEvent t d) done is fits =
          as_slots (StartIoEvent t d) done _ is _ refl
          (startios t d (slice_get v.threads t) (slice_get threads t) (startio_of set d)
          (thread t))
      events_read (Step t) done is fits =
          as_slots (Step t) done _ is _ refl
          (steps_read v threads h set t (slice_get v.threads t) (slice_get threads t) (thread t)
          (fits t refl))
