-- A step of a thread on slots that mean the world of a run of an accepted set: they mean the run's
-- world after it.
use Rattle.std.proofs.Common.{◌≡◌, ◌<◌, length, ℕ, suc, ◌+◌, Bool, true, false, None, List, [], ◌∷◌, ◌++◌, Option, Some, refl, sym, ◌∙◌, ap, subst, map, is_some, arith}
use Rattle.std.specs.Prelude.{option_map, slice_get}
use Rattle.model.specs.declared.event.Event.{Event}
use Rattle.model.specs.declared.event.Event.TheVariants.{Issue, Cancel as CancelEvent, Interrupt, Dpc as DpcEvent, StartIo as StartIoEvent, Step}
use Rattle.model.specs.declared.world.Frame.{Frame}
use Rattle.model.specs.declared.world.Frame.TheVariants.{Routine}
use Rattle.model.specs.declared.world.Thread.{Thread}
use Rattle.model.specs.Events.{Change, cancel_on, dpc_on, effect, irql_of, issue_on, startio_on}
use Rattle.model.specs.LocalRule.{kind_of}
use Rattle.model.specs.Run.{Run, begun, frames_on, run}
use Rattle.model.specs.Set.{Set, dpc_of, startio_of}
use Rattle.model.specs.Shown.{MayBeTaken, ShowsThreads, whole_thread}
use Rattle.model.specs.Sound.{IsSound}
use Rattle.model.specs.Typable.{IsTypable}
use Rattle.model.specs.World.{Shared, World, packet_of, register}
use Rattle.laws_runs.proofs.Accepted.Keeps.{Keeps}
use Rattle.laws_runs.proofs.Accepted.Lasts.{Lasts, lasts, right_answer}
use Rattle.laws_runs.proofs.Accepted.Laws.{accepted_rules}
use Rattle.laws_runs.proofs.Alike.Events.{effects_alike}
use Rattle.laws_runs.proofs.Alike.Stacks.{AlikeThreads}
use Rattle.laws_runs.proofs.Alike.Whole.{world_shown}
use Rattle.laws_runs.proofs.Alike.Worlds.{AlikeChange, AlikeWorld}
use Rattle.laws_runs.proofs.History.Waits.{run_more}
use Rattle.laws_runs.proofs.Runs.Events.{stops_run}
use Rattle.laws_runs.proofs.Runs.Threads.{frames_there}
use Rattle.laws_runs.proofs.States.Frames.{IsGood}
use Rattle.laws_runs.proofs.States.Known.{led}
use Rattle.laws_runs.proofs.States.Stacks.{Stacked}
use Rattle.laws_runs.specs.ArrivingStates.{States}
use Rattle.laws_runs.specs.KindsAgree.{IsOfKind}
use Rattle.laws_runs.specs.Rules.{KeepsTheRules}
use Rattle.laws_slots.specs.GoOn.{EventShows, FreeSlotsMeanTheBeginning, HasPlace, SlotEventsShowRuns}
use Rattle.laws_slots.specs.SlotEvents.{can_issue_slot, slot_event}
use Rattle.laws_slots.proofs.Begins.{cancels_begin, dpcs, interrupts, refuses, startios}
use Rattle.laws_slots.proofs.Issuing.{issues, name_was, new_name}
use Rattle.laws_slots.proofs.Keys.{Keyed}
use Rattle.laws_slots.proofs.Opening.{opening_means}
use Rattle.laws_slots.proofs.Words.{map_get}
use Rattle.laws_runs.proofs.Alike.Laws.{Does, does}
use Rattle.model.specs.declared.status.Major.{Major}
use Rattle.laws_slots.specs.Rep.{Means, MeansShared, meant_thread, named}
use Rattle.laws_slots.specs.Slots.{SlotWorld, packet_at}
use Rattle.laws_slots.specs.SlotStep.{SlotAnswer}
use Rattle.laws_slots.proofs.Alike.{threads_alike, threads_whole}
use Rattle.laws_slots.proofs.Entries.{queued_live, shared_renamed, started_live}
use Rattle.laws_slots.proofs.Renaming.{AllKinds, threads_renamed}
use Rattle.laws_slots.proofs.Stacks.{MeansChange}
use Rattle.laws_slots.proofs.Threads.{step_means}

module _ (set : Set) (typable : IsTypable set) (sound : IsSound set) where
  abbrev states : States
  states = (led set typable sound).0

  good : IsGood set states
  good = record { sound = sound; led = (led set typable sound).1 }

  -- a world of a run: its threads stand, and its registers are of their kinds
  module _ (threads : ℕ) (events : List Event) where
    abbrev here : Run
    here = run set threads events

    abbrev w : World
    w = here.world

    lasting : Lasts set states good threads here
    lasting = lasts set states good threads events

    stacked : (t : ℕ) (y : Thread) → slice_get w.threads t ≡ Some y
        → Stacked set states w.shared.issued y.frames.items
    stacked t y found = rw (frames_there w t y found) at (lasting.keeps.stands.frames t)

    rules : KeepsTheRules set threads events
    rules = accepted_rules set typable sound threads events

    kinds : (t : ℕ) (y : Thread) → slice_get w.threads t ≡ Some y
        → AllKinds set w.shared y.frames.items
    kinds t y found k f there a r is may =
        let frames : frames_on w t ≡ y.frames.items = frames_there w t y found in
        let at : slice_get (frames_on w t) k ≡ Some (Routine a) =
        rw frames (there ∙ ap (λ (g : Frame). Some g) is) in
        let above : slice_get (frames_on w t) (k + 1) ≡ slice_get y.frames.items (suc k) =
        let next : k + 1 ≡ suc k = omega arith in
        rw (frames, next) refl in
        subst (λ (o : Option Frame). (m : MayBeTaken set o a r)
        → IsOfKind w.shared (kind_of m.state r) (register a r)) above
        (λ m. rules.kinds.each t k a r at m) may

  -- slots that mean the world after an event by what keys named before it
  module _ (threads : ℕ) (events : List Event) (name : ℕ → ℕ) (b : SlotAnswer) (c : Change)
      (means : MeansChange name b c) (alike : AlikeWorld set states c.world (w threads events))
    where
      abbrev after : World
      after = w threads events

      abbrev other : ℕ → ℕ
      other = named b.world.shared

      live : (j : ℕ) → is_some (packet_of after.shared (name j)) ≡ true → other j ≡ name j
      live j is =
          means.live j (subst (λ (s : Shared). is_some (packet_of s (name j)) ≡ true)
          (sym alike.shared) is)

      shared : MeansShared other b.world.shared after.shared
      shared =
          shared_renamed after.shared name other live b.world.shared
          (subst (λ (s : Shared). MeansShared name b.world.shared s) alike.shared means.shared)
          (queued_live set (rules threads events).states threads events
          (rules threads events).holders)
          (started_live set (rules threads events).states threads events
          (rules threads events).holders)

      abbrev meant : List Thread
      meant = map (meant_thread name) b.world.threads

      threads_like : AlikeThreads set states after.shared meant after.threads
      threads_like =
          subst (λ (xs : List Thread). AlikeThreads set states after.shared xs after.threads)
          (sym means.threads) alike.threads

      shown : ShowsThreads set after.shared (map whole_thread meant) after.threads
      shown =
          (world_shown set states good (record { threads = meant; shared = after.shared }) after
          (record { shared = refl; threads = threads_like })).threads

      means_after : Means set b.world after
      means_after =
          record {
            shared = shared;
            threads = threads_renamed set after.shared name other live b.world.threads after.threads
                (kinds threads events) shown;
            order = means.order;
            whole = threads_whole set states good name after.shared after.shared.issued
                b.world.threads after.threads (stacked threads events) threads_like;
            cancels = means.cancels;
          }

  -- an event, by what keys name so that each live packet is named as it was
  module _ (threads : ℕ) (events : List Event) (v : SlotWorld)
      (rep : Means set v (w threads events)) where
    abbrev before : World
    before = w threads events

    abbrev keeps : Keeps set states threads before (here threads events).past
    keeps = (lasting threads events).keeps

    pub keyed_before : Keyed (named v.shared) v.shared before.shared
    keyed_before =
        record {
          means = rep.shared;
          order = rep.order;
          rises = keeps.stands.tells.rises;
          names = λ k. refl;
        }

    module _ (name : ℕ → ℕ)
        (live : (j : ℕ) → is_some (packet_of before.shared (named v.shared j)) ≡ true
        → name j ≡ named v.shared j) where
      pub shared_before : MeansShared name v.shared before.shared
      shared_before =
          shared_renamed before.shared (named v.shared) name live v.shared rep.shared
          (queued_live set (rules threads events).states threads events
          (rules threads events).holders)
          (started_live set (rules threads events).states threads events
          (rules threads events).holders)

      pub alike_before : AlikeThreads set states before.shared
          (map (meant_thread name) v.threads) before.threads
      alike_before =
          threads_alike set states good name before.shared before.shared.issued v.threads
          before.threads rep.whole (stacked threads events)
          (threads_renamed set before.shared (named v.shared) name live v.threads before.threads
          (kinds threads events) rep.threads)

      abbrev pub meant_before : World
      meant_before = record { threads = map (meant_thread name) v.threads; shared = before.shared }

      module _ (e : Event) where
        done : Does set states good (here threads events) e
        done = does set states good threads (here threads events) e (lasting threads events)

        change : AlikeChange set states (effect set meant_before e) (effect set before e)
        change =
            effects_alike set states threads before (here threads events).past good keeps
            (map (meant_thread name) v.threads) alike_before e

        pub right : stops_run (effect set meant_before e).reply ≡ false
        right =
            ap stops_run (change.reply ∙ sym done.reply)
            ∙ right_answer set states good threads (here threads events) (lasting threads events) e

        after_is : w threads (events ++ e ∷ []) ≡ (effect set before e).world
        after_is =
            ap (λ (r : Run). r.world) (run_more set (begun set threads) events e) ∙ done.world

        pub shows_by : (key : ℕ)
            → MeansChange name (slot_event set v key e) (effect set meant_before e)
            → EventShows set threads events v key e
        shows_by key means =
            record {
              means = means_after threads (events ++ e ∷ []) name (slot_event set v key e)
                  (effect set meant_before e) means
                  (subst (λ (u : World). AlikeWorld set states (effect set meant_before e).world u)
                  (sym after_is) change.worlds);
              replies = means.reply ∙ change.reply ∙ sym done.reply;
            }

    -- as they are named
    abbrev still : (j : ℕ) → is_some (packet_of before.shared (named v.shared j)) ≡ true
        → named v.shared j ≡ named v.shared j
    still j live = refl

    abbrev meant_now : World
    meant_now = meant_before (named v.shared) still

    thread_is : (t : ℕ) → option_map (meant_thread (named v.shared)) (slice_get v.threads t)
        ≡ slice_get meant_now.threads t
    thread_is t = sym (map_get (meant_thread (named v.shared)) v.threads t)

    by_thread : (t : ℕ) (b : SlotAnswer) (f : Option Thread → Change)
        → MeansChange (named v.shared) b
        (f (option_map (meant_thread (named v.shared)) (slice_get v.threads t)))
        → MeansChange (named v.shared) b (f (slice_get meant_now.threads t))
    by_thread t b f =
        subst (λ (o : Option Thread). MeansChange (named v.shared) b (f o)) (thread_is t)

    shows_still : (key : ℕ) (e : Event)
        → MeansChange (named v.shared) (slot_event set v key e) (effect set meant_now e)
        → EventShows set threads events v key e
    shows_still key e = shows_by (named v.shared) still e key

    issue_shows : (key t d : ℕ) (major : Major) (argument : ℕ)
        → HasPlace v.shared key (Issue t d major argument) → (may : Bool)
        → can_issue_slot v.shared ≡ may
        → EventShows set threads events v key (Issue t d major argument)
    issue_shows key t d major argument place false is =
        shows_still key (Issue t d major argument)
        (by_thread t _ (λ o. issue_on set meant_now t d major argument o (slice_get set.devices d))
        (refuses set v before.shared keyed_before rep.cancels key t d major argument
        (slice_get v.threads t) (slice_get set.devices d) is))
    issue_shows key t d major argument place true is =
        let free : (packet_at v.shared key ≡ None) × (key < length v.shared.slots) = place is in
        let name : ℕ → ℕ = new_name v.shared key in
        let live : (j : ℕ) → is_some (packet_of before.shared (named v.shared j)) ≡ true
        → name j ≡ named v.shared j =
        name_was v.shared before.shared keeps.stands.tells.rises rep.shared.issued key free.0 in
        shows_by name live (Issue t d major argument) key
        (subst (λ (o : Option Thread). MeansChange name
        (slot_event set v key (Issue t d major argument))
        (issue_on set (meant_before name live) t d major argument o (slice_get set.devices d)))
        (sym (map_get (meant_thread name) v.threads t))
        (issues set v before.shared key (shared_before name live) rep.order rep.cancels
        keeps.stands.tells.rises free.0 free.1 t d major argument (slice_get v.threads t)
        (slice_get set.devices d)))

    event_shows : (key : ℕ) (e : Event) → HasPlace v.shared key e
        → EventShows set threads events v key e
    event_shows key (Issue t d major argument) place =
        issue_shows key t d major argument place (can_issue_slot v.shared) refl
    event_shows key (CancelEvent t n level) place =
        shows_still key (CancelEvent t n level)
        (by_thread t _ (cancel_on meant_now t n (irql_of level))
        (cancels_begin set v before.shared keyed_before rep.cancels t n (irql_of level)
        (slice_get v.threads t)))
    event_shows key (Interrupt d) place =
        shows_still key (Interrupt d)
        (interrupts set v before.shared keyed_before rep.cancels d (dpc_of set d))
    event_shows key (DpcEvent t d) place =
        shows_still key (DpcEvent t d)
        (by_thread t _ (λ o. dpc_on set meant_now t d o (dpc_of set d))
        (dpcs set v before.shared keyed_before rep.cancels t d (slice_get v.threads t)
        (dpc_of set d)))
    event_shows key (StartIoEvent t d) place =
        shows_still key (StartIoEvent t d)
        (by_thread t _ (λ o. startio_on set meant_now t d o (startio_of set d))
        (startios set v before.shared keyed_before rep.cancels t d (slice_get v.threads t)
        (startio_of set d)))
    event_shows key (Step t) place =
        shows_still key (Step t)
        (step_means set states threads before (here threads events).past good keeps v rep.shared
        rep.order rep.cancels (alike_before (named v.shared) still) t
        (right (named v.shared) still (Step t)))

pub events_show : SlotEventsShowRuns
events_show set typable sound threads events v key e rep place =
    event_shows set typable sound threads events v rep key e place

pub beginning_means : FreeSlotsMeanTheBeginning
beginning_means set threads slots = opening_means set (length set.devices) threads slots
