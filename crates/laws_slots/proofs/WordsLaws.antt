-- The laws: what an event does to words shows what it does in the run, and what it does at first.
use Rattle.std.proofs.Common.{◌≡◌, ℕ, length, Some, refl, ◌∙◌, subst}
use Rattle.std.specs.Prelude.{slice_get}
use Rattle.model.specs.declared.event.Event.{Event}
use Rattle.model.specs.declared.event.Event.TheVariants.{Step}
use Rattle.model.specs.Set.{Set}
use Rattle.laws_slots.proofs.Doing.{done_shows}
use Rattle.laws_slots.proofs.Fitting.Events.{all_fit}
use Rattle.laws_slots.proofs.Laws.{beginning_means}
use Rattle.laws_slots.specs.Done.{MeansAfter}
use Rattle.laws_slots.specs.Fits.{EventFits, ThreadFits}
use Rattle.laws_slots.specs.SlotEvents.{idle_slots, opening_slots}
use Rattle.laws_slots.specs.Slots.{SlotThread, SlotWorld}
use Rattle.laws_slots.specs.Reads.{ReadsThread, ReadsWorld}
use Rattle.laws_slots.specs.WordEvents.{idle_words}
use Rattle.laws_slots.specs.Words.{WordWorld}
use Rattle.laws_slots.specs.WordsDone.{FreeWordsMeanTheBeginning, WordEventDone, WordEventsShowRuns}
use Rattle.laws_slots.proofs.Events.{IsDone, events_read}
use Rattle.laws_slots.proofs.Pairs.{paired_same}
use Rattle.laws_slots.proofs.WordsStacks.{w as as_words}

-- a world of words is that of its threads, which shares what the slots share
pub same_world : (v : SlotWorld) (w : WordWorld) (reads : ReadsWorld v w)
    → w ≡ as_words v w.threads reads.threads
same_world v w reads = λ i. record { threads = w.threads; shared = reads.shared i }

-- what a thread that steps finds
thread_fits : (set : Set) (v : SlotWorld) (e : Event) → EventFits set v e → (t : ℕ) → e ≡ Step t
    → (x : SlotThread) → slice_get v.threads t ≡ Some x → ThreadFits set v.shared t x
thread_fits set v e fits t is = subst (λ (y : Event). EventFits set v y) is fits

pub word_events_show : WordEventsShowRuns
word_events_show set typable sound threads events w e done mean its =
    let v : SlotWorld = mean.slots in
    let so : IsDone v w.threads mean.reads.threads set e done =
    events_read v w.threads mean.reads.threads set e done
    (subst (λ (x : WordWorld). WordEventDone set x e done) (same_world v w mean.reads) its)
    (thread_fits set v e (all_fit set typable sound threads events v e mean.means)) in
    let after : MeansAfter set threads events e so.slots =
    done_shows set typable sound threads events v e so.slots mean.means so.is in
    record {
      means =
          record {
            slots = so.slots.world;
            reads = so.reads.world;
            means = after.means;
          };
      reply = so.reads.reply ∙ after.reply;
    }

pub free_words_mean : FreeWordsMeanTheBeginning
free_words_mean set threads slots =
    record {
      slots = opening_slots (length set.devices) threads slots;
      reads =
          record {
            threads =
                paired_same ReadsThread threads idle_slots idle_words
                (record { root = refl; frames = tt });
            shared = refl;
          };
      means = beginning_means set threads slots;
    }
