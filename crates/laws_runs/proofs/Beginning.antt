-- All steps of a run that change something are paid for by the events that begin something.
use Rattle.laws_runs.proofs.Common.{ap, append-nil, append_assoc, arith, refl, subst, sym, ◌*◌, ◌∙◌, Bool, List, None, Option, Some, [], false, if◌then◌else◌, length, slice_get, slice_get_within, true, ℕ, ◌++◌, ◌+◌, ◌<◌, ◌∷◌, ◌≡◌, ◌≤◌, Change, effect, Answered, Run, begun, run, refused, step, thread_of, Set, certificate_of, new_packet, IsSound, IsTypable, Event, CancelEvent, Interrupt, Issue, StartIoEvent, Step, Frame, Packet, Thread, World, States, IsGood, RootFrame, root_cancels, root_enters, root_there, led, Irql}
use Rattle.std.proofs.Math.Nat.{mul-le-mul_left}
use Rattle.model.specs.declared.event.Event.TheVariants.{Dpc}
use Rattle.model.specs.declared.limits.TheConstants.{MAX_CERTIFICATE}
use Rattle.laws_runs.proofs.Accepted.Lasts.{GoesOn as EventGoesOn, Lasts, goes_on_at, lasts}
use Rattle.laws_runs.proofs.History.Waits.{run_more}
use Rattle.laws_runs.proofs.Holders.Runs.{idle_sum}
use Rattle.laws_runs.proofs.Holders.Sums.{first_frame}
use Rattle.laws_runs.proofs.Runs.Events.{Both, both_begin, both_nothing, Concerns, a_thread, no_thread, Happens, SameIdle, Sets, queues, sets_nothing, answers_none, cancelled_both, concerns, deferred_both, request_both, set_in, started_both}
use Rattle.laws_runs.proofs.Runs.Roots.{Beside, IdleThread, Root, issues, root_begun, with_root}
use Rattle.laws_runs.proofs.States.Frames.{due}
use Rattle.laws_runs.specs.Rest.{AcceptedRunsComeToRest, begins_one, begun_by, changes_one, changing, most_changes, up}
use Rattle.laws_runs.proofs.Climbing.{accepted_no_ring}
use Rattle.laws_runs.proofs.Resting.{comes_to_rest, few_go_on, step_pays}
use Rattle.laws_runs.proofs.Weights.{depths, fresh_weight, measure, price_le, small, weight}

depths_more : (packets : List Packet) (p : Packet)
    → depths (packets ++ p ∷ []) ≡ depths packets + p.depth
depths_more [] p = omega arith
depths_more (q ∷ packets) p = omega (arith, depths_more packets p)

same_idle : (o : Option Thread) → SameIdle o o
same_idle None = tt
same_idle (Some x) = refl

module _ (set : Set) (typable : IsTypable set) (sound : IsSound set) where
  abbrev states : States
  states = (led set typable sound).0

  good : IsGood set states
  good = record { sound = sound; led = (led set typable sound).1 }

  -- a frame that begins weighs no more than its event allows, but for a packet's depth
  root_weight : {issued : ℕ} {level : Irql} {f : Frame} → RootFrame set states issued level f
      → weight set f + up ≤ most_changes set
  root_weight (root_enters a sort first root enters) =
      let fresh : due set a ≤ MAX_CERTIFICATE =
      (let h : due set a ≤ certificate_of set a.driver a.routine = enters.due in
      omega (arith, small set typable a.driver a.routine)) in
      let within : a.device ≤ length set.devices =
      (let h : a.device < length set.devices =
      slice_get_within set.devices a.device enters.ready.1.serves.0 enters.ready.1.serves.1 in
      omega arith) in
      omega (
        arith,
        fresh_weight set a fresh,
        mul-le-mul_left MAX_CERTIFICATE (price_le a.device (length set.devices) within),
      )
  root_weight (root_cancels n low) = omega arith

  beside_depths : (w : World) (root : Root) → Beside set w.shared root
      → depths root.shared.packets ≤ depths w.shared.packets + 1
  beside_depths w root (issues h) =
      omega (
        arith,
        depths_more w.shared.packets
            (new_packet w.shared.issued h.d h.major h.argument h.device.stack),
      )
  beside_depths w root _ = omega arith

  begins_le : (w : World) (t : ℕ) (i : IdleThread w t) (root : Root) → Beside set w.shared root
      → weight set root.frame + up ≤ most_changes set
      → measure set (root_begun w t i.thread root).world ≤ measure set w + most_changes set
  begins_le w t i root beside small =
      omega (
        arith,
        first_frame (weight set) w.threads t i.thread (with_root i.thread root) root.frame i.found
            i.idle refl,
        mul-le-mul_left up (beside_depths w root beside),
        small,
      )

  module _ (threads : ℕ) (past : List Event) where
    abbrev here : Run
    here = run set threads past

    lasting : Lasts set states good threads here
    lasting = lasts set states good threads past

    abbrev after : Event → World
    after e = (run set threads (past ++ e ∷ [])).world

    after_is : (e : Event) (a : Answered) → step set here e ≡ a → after e ≡ a.run.world
    after_is e a is =
        ap (λ (r : Run). r.world) (run_more set (begun set threads) past e)
        ∙ ap (λ (a : Answered). a.run.world) is

    both_le : (t : ℕ) (c d : Change) → Both set here.world here.world.threads t c d
        → measure set d.world ≤ measure set here.world + most_changes set
    both_le t c d (both_nothing reply right) = omega arith
    both_le t c d (both_begin x i root beside) =
        begins_le here.world t i root beside
        (root_weight (root_there set states here.world here.past good lasting.keeps.stands root
        beside))

    event_le : (t : ℕ) (e : Event) → thread_of e ≡ Some t
        → Happens set here.world t (effect set here.world e)
        → measure set (effect set here.world e).world
        ≤ measure set here.world + most_changes set
        → measure set (after e) ≤ measure set here.world + most_changes set
    event_le t e is happens le =
        let goes : EventGoesOn set states good threads here t (effect set here.world e)
        (step set here e) =
        goes_on_at set states good threads here lasting t e is happens in
        rw (after_is e _ goes.is) le

    about : (t : ℕ) (e : Event) → thread_of e ≡ Some t → Concerns set here.world e
        → Happens set here.world t (effect set here.world e)
    about t e is (a_thread u also happens) =
        let same : u ≡ t = (let s : Some u ≡ Some t = sym also ∙ is in cc) in
        subst (λ (v : ℕ). Happens set here.world v (effect set here.world e)) same happens
    about t e is (no_thread none sets) =
        let no : Some t ≡ None = sym is ∙ none in cc

    set_le : (c : Change) (stopped : Bool) → Sets set here.world c
        → measure set (if stopped then refused here else set_in here c).run.world
        ≤ measure set here.world
    set_le c true of = omega arith
    set_le c false (sets_nothing reply right) = omega arith
    set_le c false (queues d) = omega arith

    interrupt_by : (d : ℕ) → Concerns set here.world (Interrupt d)
        → measure set (after (Interrupt d)) ≤ measure set here.world
    interrupt_by d (a_thread t is happens) = let no : None ≡ Some t = is in cc
    interrupt_by d (no_thread none sets) =
        rw (after_is (Interrupt d) _ (answers_none set here (Interrupt d) none))
        (set_le (effect set here.world (Interrupt d)) here.stopped sets)

    -- an event pays for what it begins, and a step for itself
    event_pays : (e : Event)
        → changes_one set threads past e + measure set (after e)
        ≤ measure set here.world + most_changes set * begins_one e
    event_pays (Issue t d major argument) =
        omega (
          arith,
          event_le t (Issue t d major argument) refl
              (about t (Issue t d major argument) refl
              (concerns set here.world (Issue t d major argument)))
              (both_le t _ _ (request_both set here.world here.world.threads t
              (same_idle (slice_get here.world.threads t)) d major argument)),
        )
    event_pays (CancelEvent t n level) =
        omega (
          arith,
          event_le t (CancelEvent t n level) refl
              (about t (CancelEvent t n level) refl (concerns set here.world (CancelEvent t n level)))
              (both_le t _ _ (cancelled_both set here.world here.world.threads t
              (same_idle (slice_get here.world.threads t)) n level)),
        )
    event_pays (Interrupt d) =
        omega (arith, interrupt_by d (concerns set here.world (Interrupt d)))
    event_pays (Dpc t d) =
        omega (
          arith,
          event_le t (Dpc t d) refl
              (about t (Dpc t d) refl (concerns set here.world (Dpc t d)))
              (both_le t _ _ (deferred_both set here.world here.world.threads t
              (same_idle (slice_get here.world.threads t)) d)),
        )
    event_pays (StartIoEvent t d) =
        omega (
          arith,
          event_le t (StartIoEvent t d) refl
              (about t (StartIoEvent t d) refl (concerns set here.world (StartIoEvent t d)))
              (both_le t _ _ (started_both set here.world here.world.threads t
              (same_idle (slice_get here.world.threads t)) d)),
        )
    event_pays (Step t) = omega (arith, step_pays set typable sound threads past t)

  pays : (threads : ℕ) (past events : List Event)
      → changing set threads past events + measure set (run set threads (past ++ events)).world
      ≤ measure set (run set threads past).world + most_changes set * begun_by events
  pays threads past [] = rw append-nil (omega arith)
  pays threads past (e ∷ events) =
      rw (sym (append_assoc past (e ∷ []) events))
      (omega (arith, event_pays threads past e, pays threads (past ++ e ∷ []) events))

  pub few_change : (threads : ℕ) (events : List Event)
      → changing set threads [] events ≤ most_changes set * begun_by events
  few_change threads events =
      omega (arith, pays threads [] events, idle_sum (weight set) threads)

pub accepted_rest : AcceptedRunsComeToRest
accepted_rest set typable sound threads events =
    record {
      few = few_change set typable sound threads events;
      most = measure set (run set threads events).world;
      ends = few_go_on set typable sound threads events;
      ring = λ orders. accepted_no_ring set typable sound orders threads events;
      rests = λ orders. comes_to_rest set typable sound orders threads events;
    }
