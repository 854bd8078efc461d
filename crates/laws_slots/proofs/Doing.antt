-- What was done where slots may be added shows the run: a request's packet is in a slot that was
-- free, or in one that was added.
use Rattle.std.proofs.Common.{◌≡◌, ◌<◌, ◌+◌, ℕ, Bool, true, false, List, [], ◌∷◌, ◌++◌, length, Option, None, Some, refl, sym, ◌∙◌, ap, subst, inl, inr, arith}
use Rattle.std.specs.Prelude.{◌&&◌, replicate, slice_get}
use Rattle.std.proofs.lemmas.Bool.Decides.{eqb_tells}
use Rattle.std.proofs.lemmas.List.{get_or_past, length-append, length-replicate}
use Rattle.model.specs.declared.event.Event.{Event}
use Rattle.model.specs.declared.event.Event.TheVariants.{Issue, Cancel as CancelEvent, Interrupt, Dpc as DpcEvent, StartIo as StartIoEvent, Step}
use Rattle.model.specs.declared.event.Reply.TheVariants.{Refused}
use Rattle.model.specs.declared.set.Device.{Device}
use Rattle.model.specs.declared.status.Major.{Major}
use Rattle.model.specs.declared.world.Packet.{Packet}
use Rattle.model.specs.Run.{run}
use Rattle.model.specs.Set.{Set}
use Rattle.model.specs.Sound.{IsSound}
use Rattle.model.specs.Typable.{IsTypable}
use Rattle.model.specs.World.{World, new_packet}
use Rattle.laws_slots.specs.Done.{DoneShowsRuns, IsIssued, IssueDone, IssuesIf, MeansAfter}
use Rattle.laws_slots.specs.GoOn.{EventShows, HasPlace}
use Rattle.laws_slots.specs.Rep.{Means}
use Rattle.laws_slots.specs.SlotEvents.{can_issue_slot, has_none, issue_slot, issued_slot, slot_event}
use Rattle.laws_slots.specs.SlotStep.{SlotAnswer, stays}
use Rattle.laws_slots.specs.Slots.{SlotThread, SlotWorld, packet_at}
use Rattle.laws_slots.proofs.Issues.{others, put}
use Rattle.laws_slots.proofs.Laws.{events_show}
use Rattle.laws_slots.proofs.Padded.{means_same, padded, padded_at, padded_means, unpadded_means, with_slots}

module _ (set : Set) (typable : IsTypable set) (sound : IsSound set) (threads : ℕ)
    (events : List Event) (v : SlotWorld) (rep : Means set v (run set threads events).world) where
  -- an event that needs no slot
  as_before : (e : Event) (done : SlotAnswer) → HasPlace v.shared 0 e
      → done ≡ slot_event set v 0 e → MeansAfter set threads events e done
  as_before e done place is =
      let shows : EventShows set threads events v 0 e =
      events_show set typable sound threads events v 0 e rep place in
      subst (λ (b : SlotAnswer). MeansAfter set threads events e b) (sym is)
      (record { means = shows.means; reply = shows.replies })

  module _ (t d : ℕ) (major : Major) (argument : ℕ) where
    abbrev e : Event
    e = Issue t d major argument

    abbrev After : SlotAnswer → Type 0
    After b = MeansAfter set threads events e b

    abbrev after : World
    after = (run set threads (events ++ e ∷ [])).world

    -- with free slots up to a key, and its own free
    module _ (key : ℕ) (free : packet_at v.shared key ≡ None) where
      abbrev u : SlotWorld
      u = padded v (key + 1)

      u_means : Means set u (run set threads events).world
      u_means = padded_means set v (key + 1) (run set threads events).world rep

      u_free : packet_at u.shared key ≡ None
      u_free = padded_at v.shared.slots (key + 1) key ∙ free

      u_room : key < length u.shared.slots
      u_room =
          let long : length u.shared.slots ≡ length v.shared.slots + length
          (replicate {A = Option Packet} (key + 1) None) =
          length-append v.shared.slots (replicate (key + 1) None) in
          let more : length (replicate {A = Option Packet} (key + 1) None) ≡ key + 1 =
          length-replicate (key + 1) None in
          omega arith

      shows_padded : After (slot_event set u key e)
      shows_padded =
          let shows : EventShows set threads events u key e =
          events_show set typable sound threads events u key e u_means
          (λ may. (u_free, u_room)) in
          record { means = shows.means; reply = shows.replies }

      shows_on : (o : Option SlotThread) (device : Option Device) → slice_get v.threads t ≡ o
          → slice_get set.devices d ≡ device
          → After (issue_slot set u key t d major argument o device)
      shows_on o device there serves =
          subst (λ (x : Option Device). After (issue_slot set u key t d major argument o x)) serves
          (subst (λ (x : Option SlotThread). After
          (issue_slot set u key t d major argument x (slice_get set.devices d))) there shows_padded)

    -- a packet was put into a slot
    module _ (device : Device) (done : SlotAnswer)
        (its : IsIssued set v t d device major argument done) where
      abbrev key : ℕ
      key = its.key

      abbrev free : packet_at v.shared key ≡ None
      free = its.takes.free

      abbrev p : Packet
      p = new_packet v.shared.issued d major argument device.stack

      abbrev issued : SlotAnswer
      issued = issued_slot set (u key free) key t d device major argument

      slots_same : (k : ℕ) → packet_at done.world.shared k ≡ packet_at issued.world.shared k
      slots_same k =
          elim (eqb_tells k key) [
            | inl is ↦
                ap (λ (j : ℕ). packet_at done.world.shared j) is.1
                ∙ its.takes.filled
                ∙ sym (put (u key free).shared (u_means key free).order key (u_free key free)
                (u_room key free) p)
                ∙ sym (ap (λ (j : ℕ). packet_at issued.world.shared j) is.1)
            | inr apart ↦
                its.takes.others k apart.1
                ∙ sym (padded_at v.shared.slots (key + 1) k)
                ∙ sym (others (u key free).shared (u_means key free).order key (u_free key free)
                (u_room key free) p k apart.1)
          ]

      world_is : done.world ≡ with_slots issued.world done.world.shared.slots
      world_is = λ i. record { threads = its.threads i; shared = its.takes.rest i }

      issued_shows : After issued → After done
      issued_shows shows =
          record {
            means = subst (λ (x : SlotWorld). Means set x after) (sym world_is)
                (means_same set issued.world done.world.shared.slots slots_same after shows.means);
            reply = its.reply ∙ shows.reply;
          }

    -- nothing was done
    abbrev next : ℕ
    next = length v.shared.slots

    next_free : packet_at v.shared next ≡ None
    next_free = get_or_past v.shared.slots next None (omega arith)

    stays_shows : (done : SlotAnswer) → done ≡ stays v Refused
        → After (stays (u next next_free) Refused) → After done
    stays_shows done is shows =
        subst After (sym is)
        (record {
          means = unpadded_means set v (next + 1) after shows.means;
          reply = shows.reply;
        })

    if_shows : (thread : SlotThread) (device : Device) (done : SlotAnswer) (may : Bool)
        → (has_none thread && can_issue_slot v.shared) ≡ may
        → slice_get v.threads t ≡ Some thread → slice_get set.devices d ≡ Some device
        → IssuesIf set v t d device major argument done may → After done
    if_shows thread device done true is there serves its =
        issued_shows device done its
        (rw is at (shows_on its.key its.takes.free (Some thread) (Some device) there serves))
    if_shows thread device done false is there serves its =
        stays_shows done its
        (rw is at (shows_on next next_free (Some thread) (Some device) there serves))

    issue_shows : (o : Option SlotThread) (device : Option Device) (done : SlotAnswer)
        → slice_get v.threads t ≡ o → slice_get set.devices d ≡ device
        → IssueDone set v t d major argument o device done → After done
    issue_shows None device done there serves is =
        stays_shows done is (shows_on next next_free None device there serves)
    issue_shows (Some thread) None done there serves is =
        stays_shows done is (shows_on next next_free (Some thread) None there serves)
    issue_shows (Some thread) (Some device) done there serves its =
        if_shows thread device done (has_none thread && can_issue_slot v.shared) refl there serves
        its

pub done_shows : DoneShowsRuns
done_shows set typable sound threads events v (Issue t d major argument) done rep its =
    issue_shows set typable sound threads events v rep t d major argument (slice_get v.threads t)
    (slice_get set.devices d) done refl refl its
done_shows set typable sound threads events v (CancelEvent t n level) done rep is =
    as_before set typable sound threads events v rep (CancelEvent t n level) done tt is
done_shows set typable sound threads events v (Interrupt d) done rep is =
    as_before set typable sound threads events v rep (Interrupt d) done tt is
done_shows set typable sound threads events v (DpcEvent t d) done rep is =
    as_before set typable sound threads events v rep (DpcEvent t d) done tt is
done_shows set typable sound threads events v (StartIoEvent t d) done rep is =
    as_before set typable sound threads events v rep (StartIoEvent t d) done tt is
done_shows set typable sound threads events v (Step t) done rep is =
    as_before set typable sound threads events v rep (Step t) done tt is
