-- What has been done where slots may be added: a request's packet is put into a slot that had none,
-- wherever that is. Every other event does exactly what the slots say.
use Rattle.std.specs.Prelude.{ℕ, ◌≡◌, ◌≢◌, ◌+◌, ◌&&◌, ◌++◌, Bool, true, false, List, [], ◌∷◌, Option, None, Some, slice_get, slice_set}
use Rattle.model.specs.declared.event.Event.{Event}
use Rattle.model.specs.declared.event.Event.TheVariants.{Issue, Cancel as CancelEvent, Interrupt, Dpc as DpcEvent, StartIo as StartIoEvent, Step}
use Rattle.model.specs.declared.event.Reply.TheVariants.{Refused, Started}
use Rattle.model.specs.declared.set.Device.{Device}
use Rattle.model.specs.declared.status.Major.{Major}
use Rattle.model.specs.declared.world.Irql.TheVariants.{Passive}
use Rattle.model.specs.declared.world.Packet.{Packet}
use Rattle.model.specs.declared.world.Value.TheVariants.{Ref}
use Rattle.model.specs.Machine.{reply_to}
use Rattle.model.specs.Run.{run}
use Rattle.model.specs.Set.{Set, serving}
use Rattle.model.specs.Sound.{IsSound}
use Rattle.model.specs.Typable.{IsTypable}
use Rattle.model.specs.World.{entered, new_packet}
use Rattle.laws_slots.specs.Rep.{Means}
use Rattle.laws_slots.specs.SlotEvents.{can_issue_slot, has_none, rooted_slot, slot_event}
use Rattle.laws_slots.specs.SlotStep.{SlotAnswer, stays}
use Rattle.laws_slots.specs.Slots.{SlotRoutine, SlotShared, SlotThread, SlotWorld, packet_at}

-- a packet more, in a slot that had none; nothing else has changed
pub record TakesSlot (s : SlotShared) (key : ℕ) (p : Packet) (r : SlotShared) : Type 0 where
  pub free : packet_at s key ≡ None
  pub filled : packet_at r key ≡ Some p
  pub others : (k : ℕ) → k ≢ key → packet_at r k ≡ packet_at s k
  pub rest : r ≡ record s {
    slots = r.slots;
    order = s.order ++ key ∷ [];
    issued = s.issued + 1;
  }

-- a request was issued to a device by a thread
pub record IsIssued (set : Set) (v : SlotWorld) (t d : ℕ) (device : Device) (major : Major)
    (argument : ℕ) (done : SlotAnswer) : Type 0 where
  pub key : ℕ
  pub takes : TakesSlot v.shared key (new_packet v.shared.issued d major argument device.stack)
      done.world.shared
  pub threads : done.world.threads
      ≡ slice_set v.threads t
      (rooted_slot Passive
      (SlotRoutine
      (entered device.driver (serving (slice_get set.drivers device.driver) major) d (Ref key))))
  pub reply : done.reply ≡ Started v.shared.issued

abbrev pub IssuesIf : Set → SlotWorld → ℕ → ℕ → Device → Major → ℕ → SlotAnswer → Bool → Type 0
IssuesIf set v t d device major argument done true =
    IsIssued set v t d device major argument done
IssuesIf set v t d device major argument done false = done ≡ stays v Refused

abbrev pub IssueDone : Set → SlotWorld → ℕ → ℕ → Major → ℕ → Option SlotThread → Option Device
    → SlotAnswer → Type 0
IssueDone set v t d major argument None device done = done ≡ stays v Refused
IssueDone set v t d major argument (Some thread) None done = done ≡ stays v Refused
IssueDone set v t d major argument (Some thread) (Some device) done =
    IssuesIf set v t d device major argument done (has_none thread && can_issue_slot v.shared)

-- an event was carried out, and this is the world after it and the reply
abbrev pub EventDone : Set → SlotWorld → Event → SlotAnswer → Type 0
EventDone set v (Issue t d major argument) done =
    IssueDone set v t d major argument (slice_get v.threads t) (slice_get set.devices d) done
EventDone set v (CancelEvent t n level) done = done ≡ slot_event set v 0 (CancelEvent t n level)
EventDone set v (Interrupt d) done = done ≡ slot_event set v 0 (Interrupt d)
EventDone set v (DpcEvent t d) done = done ≡ slot_event set v 0 (DpcEvent t d)
EventDone set v (StartIoEvent t d) done = done ≡ slot_event set v 0 (StartIoEvent t d)
EventDone set v (Step t) done = done ≡ slot_event set v 0 (Step t)

-- where slots mean the world of a run of an accepted set, after an event was carried out they mean
-- the run's world with the event added, and the reply is the run's
pub record MeansAfter (set : Set) (threads : ℕ) (events : List Event) (e : Event)
    (done : SlotAnswer) : Type 0 where
  pub means : Means set done.world (run set threads (events ++ e ∷ [])).world
  pub reply : done.reply ≡ reply_to set threads events e

abbrev pub DoneShowsRuns : Type 0
DoneShowsRuns =
    (set : Set) → IsTypable set → IsSound set
    → (threads : ℕ) (events : List Event) (v : SlotWorld) (e : Event) (done : SlotAnswer)
    → Means set v (run set threads events).world → EventDone set v e done
    → MeansAfter set threads events e done
