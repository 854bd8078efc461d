-- In every run of a sound set, until it stops, the past tells what the world has.
use Rattle.laws_runs.proofs.Prelude.{arith, inl, inr, refl, sym, ◌∙◌, cases_lt, eq-eqb, nat_eq, Bool, List, None, Option, Some, [], false, length, nat_lt, slice_get, true, ℕ, ◌++◌, ◌||◌, ◌∷◌, ◌≡◌, ◌≤◌, Issues, top_of, Change, settled, standing, with_stack, with_thread, armed, completing, depth, first_fault, holds, stack_size, Run, begun, frames_on, run, Set, IsSound, Actor, Entry, recorded, Shared, World, packet_of, Lock, MAX_FRAMES, Frame, Packet, Thread}
use Rattle.laws_runs.specs.PastTells.{PastTells, TellsOfPacket, PastTellsOfTheWorld}
use Rattle.laws_runs.proofs.Devices.{device_fits}
use Rattle.laws_runs.proofs.Lists.{Each, each_after, each_before}
use Rattle.laws_runs.proofs.Past.LivePackets.{find_place}
use Rattle.laws_runs.proofs.Past.Levels.{holds_some, lock_held}
use Rattle.laws_runs.proofs.Past.Owners.{Owned, owned_free, held_owned, owned_held}
use Rattle.laws_runs.proofs.Past.Packets.{Tells, found, lt_true, tells_issue, tells_nothing}
use Rattle.laws_runs.proofs.Past.Stacks.{Measured}
use Rattle.laws_runs.proofs.Past.Steps.{told_locks, told_packets}
use Rattle.laws_runs.proofs.Past.Walks.{WalkIssued, WalksIssued, step_issued, standing_issued, under_issued, walks_later}
use Rattle.laws_runs.proofs.Runs.Events.{Happens, StepsFrame, nothing, steps, begins}
use Rattle.laws_runs.proofs.Runs.Kept.{GoesOnBy, with_queued, kept_until}
use Rattle.laws_runs.proofs.Runs.Roots.{Root, Beside, issues, issued_more, with_root}
use Rattle.laws_runs.proofs.Runs.Threads.{of_steps, each_frames, idle_frames}
use Rattle.laws_runs.proofs.Tests.{or_right}

-- what the threads share tells what the past tells, the I/O manager completes packets that were
-- issued, and no thread has more than 32 frames
pub record Telling (w : World) (past : List Entry) : Type 0 where
  pub packets : Tells w.shared past
  pub locks : Owned w.shared.locks past
  pub walks : WalksIssued w
  pub few : (t : ℕ) → length (frames_on w t) ≤ MAX_FRAMES

not_over : (n : ℕ) → nat_lt MAX_FRAMES n ≡ false → n ≤ MAX_FRAMES
not_over n h =
    elim (cases_lt MAX_FRAMES n) [
      | inl more ↦ let no : true ≡ false = sym (lt_true MAX_FRAMES n more) ∙ h in cc
      | inr few ↦ few
    ]

-- a thread has other frames, where as many packets were issued as before, or more
walks_put : (w : World) (t : ℕ) (s : Shared) (thread after : Thread)
    → slice_get w.threads t ≡ Some thread → w.shared.issued ≤ s.issued → WalksIssued w
    → Each (WalkIssued s.issued) after.frames.items
    → WalksIssued (with_thread w t s after)
walks_put w t s thread after found more walks new =
    each_frames w t s after (λ k frames. Each (WalkIssued s.issued) frames) thread found new
    (λ k apart. walks_later w.shared.issued s.issued more (frames_on w k) (walks k))

-- a step of a thread's top frame
module _ (set : Set) (w : World) (past : List Entry) (actor : Actor) (tells : Telling w past)
    (h : StepsFrame set w actor.thread) where
  frames_issued : Each (WalkIssued w.shared.issued) (h.below ++ h.frame ∷ [])
  frames_issued =
      of_steps w actor.thread (Each (WalkIssued w.shared.issued)) h (tells.walks actor.thread)

  below_issued : Each (WalkIssued w.shared.issued) h.below
  below_issued = each_before (WalkIssued w.shared.issued) h.below (h.frame ∷ []) frames_issued

  walks_stepped : WalksIssued
      (with_thread w actor.thread h.outcome.shared
      (with_stack h.thread (standing set h.below h.outcome)))
  walks_stepped =
      let top : WalkIssued w.shared.issued h.frame =
      (each_after (WalkIssued w.shared.issued) h.below (h.frame ∷ []) frames_issued).0 in
      let step : (h.outcome.shared.issued ≡ w.shared.issued)
      × Each (WalkIssued w.shared.issued) h.outcome.frames =
      step_issued set w.shared actor.thread (top_of h.below) h.frame h.outcome h.comes top in
      walks_put w actor.thread h.outcome.shared h.thread
      (with_stack h.thread (standing set h.below h.outcome)) h.found (rw step.0 (omega arith))
      tells.walks
      (rw step.0 (standing_issued set w.shared.issued h.below h.outcome below_issued step.1))

  telling_step : first_fault past actor h.outcome.actions ≡ None
      → (h.outcome.full || nat_lt MAX_FRAMES (length (standing set h.below h.outcome))) ≡ false
      → Telling (settled set w actor.thread h.thread h.below h.outcome).world
      (recorded past actor h.outcome.actions)
  telling_step quiet within =
      let below : Option Frame = top_of h.below in
      record {
        packets = told_packets set w.shared past actor tells.packets below h.frame h.outcome
            (under_issued w.shared.issued h.below below_issued) h.comes;
        locks = told_locks set w.shared past actor below h.frame h.outcome tells.locks h.comes
            quiet;
        walks = walks_stepped;
        few = each_frames w actor.thread h.outcome.shared
            (with_stack h.thread (standing set h.below h.outcome))
            (λ k frames. length frames ≤ MAX_FRAMES) h.thread h.found
            (not_over (length (standing set h.below h.outcome)) (or_right h.outcome.full _ within))
            (λ k apart. tells.few k);
      }

-- a root begins
pub root_tells : (set : Set) → IsSound set
    → (s : Shared) (past : List Entry) (actor : Actor) (root : Root) → Tells s past
    → Beside set s root → Tells root.shared (recorded past actor root.actions)
root_tells set sound s past actor root tells (issues h) =
    let same : nat_eq s.issued s.issued ≡ true = eq-eqb s.issued s.issued refl in
    tells_issue s past tells (recorded past actor (Issues s.issued h.device.stack ∷ [])) h.d
    h.major h.argument h.device.stack
    (device_fits set h.d h.device sound h.there).low (λ m other. (refl, rw other refl)) refl
    (rw same refl) (rw same refl)
root_tells set sound s past actor root tells _ = tells

root_locks : (set : Set) (s : Shared) (past : List Entry) (actor : Actor) (root : Root)
    → Owned s.locks past → Beside set s root
    → Owned root.shared.locks (recorded past actor root.actions)
root_locks set s past actor root owned (issues h) = owned
root_locks set s past actor root owned _ = owned

root_issued : (set : Set) (s : Shared) (root : Root) → Beside set s root
    → WalkIssued root.shared.issued root.frame
root_issued set s root (issues h) = tt
root_issued set s root _ = tt

pub telling_happens : (set : Set) → IsSound set
    → (w : World) (past : List Entry) (actor : Actor) (c : Change)
    → Telling w past → Happens set w actor.thread c → first_fault past actor c.actions ≡ None
    → c.over ≡ false
    → Telling c.world (recorded past actor c.actions)
telling_happens set sound w past actor c tells (nothing reply right) quiet within = tells
telling_happens set sound w past actor c tells (steps h) quiet within =
    telling_step set w past actor tells h quiet within
telling_happens set sound w past actor c tells (begins i root beside) quiet within =
    record {
      packets = root_tells set sound w.shared past actor root tells.packets beside;
      locks = root_locks set w.shared past actor root tells.locks beside;
      walks = walks_put w actor.thread root.shared i.thread (with_root i.thread root) i.found
          (issued_more set w.shared root beside) tells.walks
          (root_issued set w.shared root beside, tt);
      few = each_frames w actor.thread root.shared (with_root i.thread root)
          (λ k frames. length frames ≤ MAX_FRAMES) i.thread i.found (omega arith)
          (λ k apart. tells.few k);
    }

pub telling_queued : (w : World) (past : List Entry) (d : ℕ) (queued : Bool) → Telling w past
    → Telling (with_queued w d queued) past
telling_queued w past d queued tells =
    record {
      packets = tells.packets;
      locks = tells.locks;
      walks = tells.walks;
      few = tells.few;
    }

-- before the first event
pub telling_begun : (set : Set) (threads : ℕ) → Telling (begun set threads).world []
telling_begun set threads =
    record {
      packets = tells_nothing;
      locks = owned_free (length set.devices);
      walks = λ t. rw (idle_frames threads t) tt;
      few = λ t. rw (idle_frames threads t) (omega arith);
    }

telling_event : (set : Set) → IsSound set
    → (w : World) (past : List Entry) (actor : Actor) (c : Change)
    → Telling w past → GoesOnBy set w past actor c
    → Telling c.world (recorded past actor c.actions)
telling_event set sound w past actor c tells on =
    telling_happens set sound w past actor c tells on.happens on.quiet on.within

-- what is measured of a live packet
of_packet : (r : Run) (n : ℕ) (p : Packet) → Telling r.world r.past
    → packet_of r.world.shared n ≡ Some p
    → TellsOfPacket r.past n p
of_packet r n p tells there =
    let its : Measured p (completing r.past n) (armed r.past n) (stack_size r.past n)
    (depth r.past n) =
    tells.packets.live n p (found r.world.shared n (Some p) there) in
    record { completion = its.taken; armed = its.armed; size = its.count; place = its.place }

past_tells : (r : Run) → Telling r.world r.past → PastTells r
past_tells r tells =
    record {
      gone = λ n. rw (find_place r.world.shared.packets n) (tells.packets.gone n);
      live = λ n p there. of_packet r n p tells there;
      owner = λ t l held. held_owned r.world.shared.locks r.past t l tells.locks held;
      holder = λ t l its. owned_held r.world.shared.locks r.past t l tells.locks its;
      raised = λ t high.
          let held : (l : Lock) × (holds r.past t l ≡ true) = lock_held r.past t high in
          (held.0, held_owned r.world.shared.locks r.past t held.0 tells.locks held.1);
      raises = λ t l its. holds_some r.past t l
          (owned_held r.world.shared.locks r.past t l tells.locks its);
      few = tells.few;
    }

pub telling_runs : PastTellsOfTheWorld
telling_runs set sound threads events on =
    past_tells (run set threads events)
    (kept_until Telling set (telling_event set sound)
    (λ w past d tells. telling_queued w past d true tells) threads events
    (telling_begun set threads) on)
