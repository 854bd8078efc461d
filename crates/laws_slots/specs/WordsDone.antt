-- What has been done to a world of words where slots may be added: a request's packet is put into a
-- slot that had none, wherever that is. Every other event does exactly what the words say.
use Rattle.std.specs.Prelude.{ℕ, ◌≡◌, ◌&&◌, ◌++◌, Bool, true, false, List, [], ◌∷◌, Option, None, Some, length, slice_get, slice_set}
use Rattle.model.specs.declared.event.Event.{Event}
use Rattle.model.specs.declared.event.Event.TheVariants.{Issue, Cancel as CancelEvent, Interrupt, Dpc as DpcEvent, StartIo as StartIoEvent, Step}
use Rattle.model.specs.declared.event.Reply.TheVariants.{Refused, Started}
use Rattle.model.specs.declared.set.Device.{Device}
use Rattle.model.specs.declared.status.Major.{Major}
use Rattle.model.specs.declared.world.Irql.TheVariants.{Passive}
use Rattle.model.specs.Events.{irql_of}
use Rattle.model.specs.Machine.{reply_to}
use Rattle.model.specs.Run.{run}
use Rattle.model.specs.Set.{Set, dpc_of, serving, startio_of}
use Rattle.model.specs.Sound.{IsSound}
use Rattle.model.specs.Typable.{IsTypable}
use Rattle.model.specs.World.{new_packet}
use Rattle.laws_slots.specs.Done.{TakesSlot}
use Rattle.laws_slots.specs.SlotEvents.{can_issue_slot}
use Rattle.laws_slots.specs.Reads.{WordsMean}
use Rattle.laws_slots.specs.WordEvents.{cancel_word, dpc_word, has_none, interrupt_word, opening_words, rooted_word, startio_word}
use Rattle.laws_slots.specs.Words.{WordRoutine, WordThread, WordWorld, entered}
use Rattle.laws_slots.specs.WordStep.{WordAnswer, stays, word_step}

-- a request was issued to a device by a thread: the routine that serves it has its packet's key
pub record IsIssued (set : Set) (w : WordWorld) (t d : ℕ) (device : Device) (major : Major)
    (argument : ℕ) (done : WordAnswer) : Type 0 where
  pub key : ℕ
  pub takes : TakesSlot w.shared key (new_packet w.shared.issued d major argument device.stack)
      done.world.shared
  pub threads : done.world.threads
      ≡ slice_set w.threads t
      (rooted_word Passive
      (WordRoutine
      (entered device.driver (serving (slice_get set.drivers device.driver) major) d key)))
  pub reply : done.reply ≡ Started w.shared.issued

abbrev pub IssuesIf : Set → WordWorld → ℕ → ℕ → Device → Major → ℕ → WordAnswer → Bool → Type 0
IssuesIf set w t d device major argument done true =
    IsIssued set w t d device major argument done
IssuesIf set w t d device major argument done false = done ≡ stays w Refused

abbrev pub IssueDone : Set → WordWorld → ℕ → ℕ → Major → ℕ → Option WordThread → Option Device
    → WordAnswer → Type 0
IssueDone set w t d major argument None device done = done ≡ stays w Refused
IssueDone set w t d major argument (Some thread) None done = done ≡ stays w Refused
IssueDone set w t d major argument (Some thread) (Some device) done =
    IssuesIf set w t d device major argument done (has_none thread && can_issue_slot w.shared)

-- an event was carried out, and this is the world after it and the reply
abbrev pub WordEventDone : Set → WordWorld → Event → WordAnswer → Type 0
WordEventDone set w (Issue t d major argument) done =
    IssueDone set w t d major argument (slice_get w.threads t) (slice_get set.devices d) done
WordEventDone set w (CancelEvent t n level) done =
    done ≡ cancel_word w t n (irql_of level) (slice_get w.threads t)
WordEventDone set w (Interrupt d) done = done ≡ interrupt_word w d (dpc_of set d)
WordEventDone set w (DpcEvent t d) done =
    done ≡ dpc_word set w t d (slice_get w.threads t) (dpc_of set d)
WordEventDone set w (StartIoEvent t d) done =
    done ≡ startio_word set w t d (slice_get w.threads t) (startio_of set d)
WordEventDone set w (Step t) done = done ≡ word_step set w t

-- where words mean the world of a run of an accepted set, after an event was carried out they mean
-- the run's world with the event added, and the reply is the run's
pub record WordsMeanAfter (set : Set) (threads : ℕ) (events : List Event) (e : Event)
    (done : WordAnswer) : Type 0 where
  pub means : WordsMean set done.world (run set threads (events ++ e ∷ [])).world
  pub reply : done.reply ≡ reply_to set threads events e

abbrev pub WordEventsShowRuns : Type 0
WordEventsShowRuns =
    (set : Set) → IsTypable set → IsSound set
    → (threads : ℕ) (events : List Event) (w : WordWorld) (e : Event) (done : WordAnswer)
    → WordsMean set w (run set threads events).world → WordEventDone set w e done
    → WordsMeanAfter set threads events e done

-- free slots, with idle threads, mean the world before the first event
abbrev pub FreeWordsMeanTheBeginning : Type 0
FreeWordsMeanTheBeginning =
    (set : Set) (threads slots : ℕ)
    → WordsMean set (opening_words (length set.devices) threads slots) (run set threads []).world
