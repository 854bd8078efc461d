-- Every run of an accepted set stands as it should: what is shared fits the set, the past tells of
-- it, and each thread has frames that stand on one another, dispatch routines at PASSIVE_LEVEL.
use Rattle.laws_runs.proofs.Prelude.{ap, arith, inl, inr, refl, subst, ◌∙◌, ltb-true, length-append, list_any, Bool, List, None, Option, Some, [], false, length, slice_get, ℕ, ◌++◌, ◌+◌, ◌<◌, ◌∷◌, ◌≡◌, ◌≤◌, Outcome, top_of, Change, finished_or, standing, with_stack, with_thread, first_fault, without_first_to_start, begun, frames_of, frames_on, root_of, Set, Actor, Entry, recorded, Shared, World, new_packet, Reply, Stepped, MAX_LIVE_PACKETS, Frame, Walk, Irql, Packet, Thread}
use Rattle.std.proofs.Common.{append_assoc}
use Rattle.laws_runs.proofs.Lists.{Each, each_push, each_append, each_before, each_after}
use Rattle.laws_runs.proofs.Past.Packets.{Tells, tells_nothing}
use Rattle.laws_runs.proofs.Past.Runs.{root_tells}
use Rattle.laws_runs.proofs.Past.Steps.{told_packets}
use Rattle.laws_runs.proofs.Past.Walks.{UnderIssued, WalkIssued, under_issued}
use Rattle.laws_runs.proofs.Runs.Events.{nothing_stops, stops_run, StepsFrame, Happens, nothing, steps, begins}
use Rattle.laws_runs.proofs.Runs.Kept.{with_queued}
use Rattle.laws_runs.proofs.Runs.Roots.{Root, Beside, issues, takes_dpc, takes_first, takes_nothing, issued_more, with_root}
use Rattle.laws_runs.proofs.Runs.Threads.{of_steps, each_thread, each_frames, idle_frames}
use Rattle.laws_runs.proofs.States.Begun.{RootFrame, root_frame, root_low, root_stands}
use Rattle.laws_runs.proofs.States.Fine.{is_wrong, IsRight, is_right_step, StepLeaves, leaves_fine}
use Rattle.laws_runs.proofs.States.Fits.{queues_later, PacketLeads, Fits, new_leads, unused_fits, WordLeads, with_queues_fits}
use Rattle.laws_runs.proofs.States.Frames.{IsGood}
use Rattle.laws_runs.proofs.States.OnTop.{OnTop}
use Rattle.laws_runs.proofs.States.Roots.{Low, last_low, step_low, low_over}
use Rattle.laws_runs.specs.ArrivingStates.{States}
use Rattle.laws_runs.proofs.States.StartsFit.{begun_fits, start_issued, start_put_fits, starts_later}
use Rattle.laws_runs.proofs.States.Stacks.{Stacked, top_stands, replaced, stacked_later, walks_stand, walk_taken}
use Rattle.laws_runs.proofs.States.Told.{told_last, told_is}
use Rattle.laws_runs.proofs.Steps.Below.{StopsBelow, stood}
use Rattle.laws_runs.proofs.Tests.{and_left}

-- what a run keeps
pub record Standing (set : Set) (states : States) (w : World) (past : List Entry) : Type 0 where
  pub fits : Fits set w.shared
  pub tells : Tells w.shared past
  pub roots : (t : ℕ) → Each (Low set (root_of (slice_get w.threads t))) (frames_on w t)
  pub frames : (t : ℕ) → Stacked set states w.shared.issued (frames_on w t)

-- before the first event
pub standing_begun : (set : Set) (states : States) (threads : ℕ)
    → Standing set states (begun set threads).world []
standing_begun set states threads =
    record {
      fits = unused_fits set;
      tells = tells_nothing;
      roots = λ t. rw (idle_frames threads t) tt;
      frames = λ t. rw (idle_frames threads t) tt;
    }

finished_stops : (frames : List Frame) (reply : Reply) → stops_run reply ≡ false
    → stops_run (finished_or frames reply) ≡ false
finished_stops [] Stepped h = refl
finished_stops _ _ h = h

module _ (set : Set) (states : States) (w : World) (past : List Entry) (good : IsGood set states)
    (stands : Standing set states w past) where
  -- the top frame of a thread that steps
  pub stands_there : (t : ℕ) (h : StepsFrame set w t)
      → Stacked set states w.shared.issued (h.below ++ h.frame ∷ [])
  stands_there t h = of_steps w t (Stacked set states w.shared.issued) h (stands.frames t)

  walks_below : (t : ℕ) (h : StepsFrame set w t) → UnderIssued w.shared.issued (top_of h.below)
  walks_below t h =
      under_issued w.shared.issued h.below
      (each_before (WalkIssued w.shared.issued) h.below (h.frame ∷ [])
      (walks_stand set states w.shared.issued (h.below ++ h.frame ∷ []) (stands_there t h)))

  pub on_top : (t : ℕ) (h : StepsFrame set w t) → OnTop set states w.shared h.frame
  on_top t h =
      record {
        good = good;
        fits = stands.fits;
        stands = top_stands set states w.shared.issued h.below h.frame (stands_there t h);
      }

  root_right : (root : Root) → Beside set w.shared root
      → (list_any is_wrong root.actions ≡ false) × (stops_run root.reply ≡ false)
  root_right root (issues h) = (refl, refl)
  root_right root _ = (refl, refl)

  -- no event goes wrong, and none has a reply with which a run stops
  pub right_event : (t : ℕ) (c : Change) → Happens set w t c
      → (list_any is_wrong c.actions ≡ false) × (stops_run c.reply ≡ false)
  right_event t c (nothing reply right) = (refl, nothing_stops reply right)
  right_event t c (steps h) =
      let is : IsRight h.outcome =
      is_right_step set states w.shared t (top_of h.below) h.frame h.outcome (on_top t h) h.comes in
      (is.silent, finished_stops (standing set h.below h.outcome) h.outcome.reply is.right)
  right_event t c (begins i root beside) = root_right root beside

  -- each thread where one has other frames
  frames_after : (t : ℕ) (s : Shared) (thread after : Thread) → slice_get w.threads t ≡ Some thread
      → w.shared.issued ≤ s.issued → Stacked set states s.issued after.frames.items
      → (k : ℕ) → Stacked set states s.issued (frames_on (with_thread w t s after) k)
  frames_after t s thread after found le h =
      each_frames w t s after (λ k frames. Stacked set states s.issued frames) thread found h
      (λ k apart. stacked_later set states w.shared.issued s.issued le (frames_on w k)
      (stands.frames k))

  -- the levels of a thread that steps
  pub lows_there : (t : ℕ) (h : StepsFrame set w t)
      → Each (Low set h.thread.root) (h.below ++ h.frame ∷ [])
  lows_there t h =
      subst (λ (frames : List Frame). Each (Low set h.thread.root) frames) h.frames
      (subst (λ (o : Option Thread). Each (Low set (root_of o)) (frames_of o)) h.found
      (stands.roots t))

  pub low_there : (t : ℕ) (h : StepsFrame set w t) → Low set h.thread.root h.frame
  low_there t h = (each_after (Low set h.thread.root) h.below (h.frame ∷ []) (lows_there t h)).0

  -- what is left where a completion is stopped
  stopped_before : (t : ℕ) (h : StepsFrame set w t)
      (stops : StopsBelow set w.shared h.below h.frame h.outcome)
      → h.below ++ h.frame ∷ [] ≡ stops.others ++ Walk stops.n ∷ h.frame ∷ []
  stopped_before t h stops =
      ap (λ (frames : List Frame). frames ++ h.frame ∷ []) stops.below_is
      ∙ append_assoc stops.others (Walk stops.n ∷ []) (h.frame ∷ [])

  lows_after : (t : ℕ) (h : StepsFrame set w t)
      → Each (Low set h.thread.root) (standing set h.below h.outcome)
  lows_after t h =
      let root : Irql = h.thread.root in
      elim (stood set w.shared t h.below h.frame h.outcome h.comes) [
        | inl is ↦
            rw is (rw (told_is set h.below h.outcome.told)
            (each_append (Low set root) (told_last set h.outcome.told h.below) h.outcome.frames
            (last_low set root h.outcome.told h.below
            (each_before (Low set root) h.below (h.frame ∷ []) (lows_there t h)))
            (step_low set root states w.shared t (top_of h.below) h.frame h.outcome (on_top t h)
            (low_there t h) h.comes)))
        | inr stops ↦
            rw stops.stands
            (each_before (Low set root) stops.others (Walk stops.n ∷ h.frame ∷ [])
            (subst (λ (frames : List Frame). Each (Low set root) frames) (stopped_before t h stops)
            (lows_there t h)))
      ]

  roots_after : (t : ℕ) (s : Shared) (thread after : Thread) → slice_get w.threads t ≡ Some thread
      → Each (Low set after.root) after.frames.items → (k : ℕ)
      → Each (Low set (root_of (slice_get (with_thread w t s after).threads k)))
      (frames_on (with_thread w t s after) k)
  roots_after t s thread after found h =
      each_thread w t s after (λ k o. Each (Low set (root_of o)) (frames_of o)) thread found h
      (λ k apart. stands.roots k)

  -- where a DPC is queued or isn't
  pub standing_queued : (d : ℕ) (queued : Bool) → Standing set states (with_queued w d queued) past
  standing_queued d queued =
      record {
        fits = record {
          cells = stands.fits.cells;
          spin = stands.fits.spin;
          rows = stands.fits.rows;
          completions = stands.fits.completions;
          words = stands.fits.words;
          queued = stands.fits.queued;
          starts = stands.fits.starts;
          few = stands.fits.few;
        };
        tells = stands.tells;
        roots = stands.roots;
        frames = stands.frames;
      }

  -- a root begins
  root_fits : (root : Root) → Beside set w.shared root → Fits set root.shared
  root_fits root (issues h) =
      let n : ℕ = w.shared.issued in
      let p : Packet = new_packet n h.d h.major h.argument h.device.stack in
      record {
        cells = stands.fits.cells;
        spin = stands.fits.spin;
        rows = stands.fits.rows;
        completions = each_push (PacketLeads set) w.shared.packets p stands.fits.completions
            (new_leads set n h.d h.major h.argument h.device.stack);
        words = each_push (WordLeads set) w.shared.packets p stands.fits.words tt;
        queued = queues_later set w.shared.queues n (n + 1) (omega arith) stands.fits.queued;
        starts = starts_later set w.shared.starts n (n + 1) (omega arith) stands.fits.starts;
        few = (let room : length w.shared.packets < MAX_LIVE_PACKETS =
            ltb-true (length w.shared.packets) MAX_LIVE_PACKETS (and_left _ _ h.room) in
            let one : length (p ∷ []) ≡ 1 = refl in
            omega (arith, length-append w.shared.packets (p ∷ [])));
      }
  root_fits root (takes_first h) =
      with_queues_fits set w.shared stands.fits w.shared.queues root.shared.starts
      stands.fits.queued
      (start_put_fits set w.shared h.d (without_first_to_start h.start)
      (begun_fits w.shared.issued h.start
      (start_issued set w.shared h.d h.start h.has stands.fits.starts)) stands.fits.starts)
  root_fits root (takes_dpc d routine there) = (standing_queued d false).fits
  root_fits root (takes_nothing n level p there) = stands.fits

  pub root_there : (root : Root) → Beside set w.shared root
      → RootFrame set states root.shared.issued root.level root.frame
  root_there root beside =
      root_frame set states good w.shared stands.fits past stands.tells root beside

  pub standing_kept : (actor : Actor) (c : Change) → Happens set w actor.thread c
      → first_fault past actor c.actions ≡ None
      → Standing set states c.world (recorded past actor c.actions)
  standing_kept actor c (nothing reply right) quiet = stands
  standing_kept actor c (steps h) quiet =
      let o : Outcome = h.outcome in
      let t : ℕ = actor.thread in
      let leaves : StepLeaves set states w.shared h.frame o =
      leaves_fine set states w.shared past actor stands.tells (top_of h.below) h.frame o
      (on_top t h) quiet h.comes
      in
      let issued : o.shared.issued ≡ w.shared.issued = leaves.issued in
      record {
        fits = leaves.fits;
        tells = told_packets set w.shared past actor stands.tells (top_of h.below) h.frame o
            (walks_below t h) h.comes;
        roots = roots_after t o.shared h.thread (with_stack h.thread (standing set h.below o))
            h.found
            (low_over set h.thread.root (standing set h.below o) (lows_after t h));
        frames = frames_after t o.shared h.thread (with_stack h.thread (standing set h.below o))
            h.found
            (omega arith)
            (rw issued (elim (stood set w.shared t h.below h.frame o h.comes) [
              | inl is ↦
                  rw is (replaced set states w.shared.issued h.below h.frame o.told o.frames
                  (stands_there t h) leaves.stands)
              | inr stops ↦
                  rw stops.stands (walk_taken set states w.shared.issued stops.others stops.n
                  h.frame
                  (subst (λ (frames : List Frame). Stacked set states w.shared.issued frames)
                  (stopped_before t h stops) (stands_there t h)))
            ]));
      }
  standing_kept actor c (begins i root beside) quiet =
      let t : ℕ = actor.thread in
      record {
        fits = root_fits root beside;
        tells = root_tells set good.sound w.shared past actor root stands.tells beside;
        roots = roots_after t root.shared i.thread (with_root i.thread root) i.found
            (root_low set states (root_there root beside));
        frames = frames_after t root.shared i.thread (with_root i.thread root) i.found
            (issued_more set w.shared root beside)
            (root_stands set states (root_there root beside));
      }
