-- In every run of an accepted set claims are kept.
use Rattle.laws_runs.proofs.Common.{arith, inl, inr, refl, subst, sym, eqb_tells, Bool, List, None, Some, [], if◌then◌else◌, length, nat_eq, replicate, slice_set, suc, true, ℕ, ◌++◌, ◌+◌, ◌∷◌, ◌≡◌, ◌≤◌, top_of, Change, standing, with_stack, with_thread, first_fault, is_at, without_first_to_start, begun, Set, Actor, Entry, World, idle_thread, new_packet, with_start, Kind, Armed, Listed, Taken, QueueName, DeviceQueue, Sort, Cancel, Frame, Irql, Packet, Thread, States, thread_sum, times_listed, times_to_start, Each, RootFrame, root_cancels, root_enters, StepLeaves, leaves_fine, IsGood, OnTop, Standing, on_top, root_there, is_touch, quiet_among}
use Rattle.model.specs.Queues.{idle as idle_start}
use Rattle.laws_runs.proofs.Claims.Names.{OfQueues}
use Rattle.laws_runs.proofs.Claims.Quiet.{BeginsPlain, apart_none, begins_none, frame_none}
use Rattle.laws_runs.proofs.Claims.Steps.{same_balance}
use Rattle.laws_runs.proofs.Claims.Sums.{Claimed, FrameApart, frame_names, times_of, was_taken, word_at, is_cancelable, list_of}
use Rattle.laws_runs.proofs.Claims.Waiting.{to_start_put, waits_first}
use Rattle.laws_runs.proofs.Holders.Queued.{none_queued}
use Rattle.laws_runs.proofs.Holders.Sums.{Held, first_frame}
use Rattle.laws_runs.proofs.Locks.Runs.{LocksAgree}
use Rattle.laws_runs.proofs.Past.LivePackets.{find, find_above, find_push}
use Rattle.laws_runs.proofs.Past.Owners.{Owned}
use Rattle.laws_runs.proofs.Runs.Events.{StepsFrame, Happens, begins, nothing, steps}
use Rattle.laws_runs.proofs.Runs.Roots.{Root, Beside, issues, takes_first, IdleThread, root_begun, with_root}
use Rattle.laws_runs.proofs.States.Begun.{IsRoot}
use Rattle.laws_runs.proofs.Claims.Shapes.{shape_claims}
use Rattle.laws_runs.proofs.Holders.Runs.{idle_sum, top_holding}
use Rattle.laws_runs.proofs.Runs.Threads.{each_frames, idle_frames}
use Rattle.laws_runs.proofs.Claims.Queues.{entries_same, put_waiting}
use Rattle.laws_runs.proofs.Claims.WordSteps.{list_le}
use Prim.Native.Nat.{zero}

root_plain : (level : Irql) (sort : Sort) → IsRoot level sort → BeginsPlain sort
root_plain level Cancel root = root
root_plain level _ root = tt

module _ (set : Set) (states : States) (w : World) (past : List Entry) (good : IsGood set states)
    (stands : Standing set states w past) (c : Claimed set states w) where
  -- a root names no packet
  root_none : {issued : ℕ} {level : Irql} {f : Frame} → RootFrame set states issued level f
      → (g : Kind → Bool) → OfQueues g → (on : ℕ → Bool) (n : ℕ) → frame_names states g on n f ≡ 0
  root_none {issued = issued} {level = level} (root_enters a sort first root enters) g of on n =
      frame_none states a
      (begins_none set states issued a sort first (root_plain level sort root) enters) g of on n
  root_none (root_cancels m low) g of on n = refl

  root_apart : {issued : ℕ} {level : Irql} {f : Frame} → RootFrame set states issued level f
      → FrameApart states f
  root_apart {issued = issued} {level = level} (root_enters a sort first root enters) =
      apart_none states a
      (begins_none set states issued a sort first (root_plain level sort root) enters)
  root_apart (root_cancels m low) = tt

  -- it begins on an idle thread
  root_claims : (t : ℕ) (i : IdleThread w t) (root : Root) → Beside set w.shared root
      → ((n d : ℕ) (q : QueueName)
      → word_at (find root.shared.packets n) d q ≡ word_at (find w.shared.packets n) d q)
      → root.shared.queues ≡ w.shared.queues
      → ((d n : ℕ) → is_cancelable set d DeviceQueue ≡ true
      → times_of (list_of root.shared d DeviceQueue) n ≤ times_of (list_of w.shared d DeviceQueue) n)
      → ((n : ℕ) → times_listed root.shared n ≤ times_listed w.shared n)
      → Claimed set states (root_begun w t i.thread root).world
  root_claims t i root beside words queues waiting lists =
      let f : Frame = root.frame in
      let after : Thread = with_root i.thread root in
      let begun : RootFrame set states root.shared.issued root.level f =
      root_there set states w past good stands root beside in
      let same : (g : Kind → Bool) → OfQueues g → (on : ℕ → Bool) (n : ℕ)
      → thread_sum (frame_names states g on n) (slice_set w.threads t after)
      ≡ thread_sum (frame_names states g on n) w.threads =
      λ g of on n.
      let first : thread_sum (frame_names states g on n) (slice_set w.threads t after)
      ≡ frame_names states g on n f + thread_sum (frame_names states g on n) w.threads =
      first_frame (frame_names states g on n) w.threads t i.thread after f i.found i.idle refl in
      omega (arith, root_none begun g of on n) in
      record {
        balanced = same_balance set states w (with_thread w t root.shared after) c.balanced same
            (λ d q n. words n d q) queues waiting
            (λ n.
            omega (arith, c.balanced.once n, lists n));
        apart = each_frames w t root.shared after (λ k frames. Each (FrameApart states) frames)
            i.thread i.found (root_apart begun, tt) (λ k other. c.apart k);
      }

  -- a new packet has an empty word
  new_word : (p : Packet) → p.number ≡ w.shared.issued → p.armer ≡ None → (n d : ℕ) (q : QueueName)
      → word_at (find (w.shared.packets ++ p ∷ []) n) d q ≡ word_at (find w.shared.packets n) d q
  new_word p number empty n d q =
      let m : ℕ = w.shared.issued in
      let pushed : find (w.shared.packets ++ p ∷ []) n
      ≡ (if nat_eq m n then Some p else find w.shared.packets n) =
      find_push 0 w.shared.packets m p stands.tells.rises number n in
      rw pushed (elim (eqb_tells m n) [
        | inl here ↦ rw (
          here.0,
          ← here.1,
          find_above 0 w.shared.packets m m stands.tells.rises (omega arith),
          empty,
        )
            refl
        | inr other ↦ rw other.0 refl
      ])

  module _ (agree : LocksAgree states w past) (owned : Owned w.shared.locks past)
      (kept : Held set states w) (actor : Actor) where
    claimed_step : (h : StepsFrame set w actor.thread)
        → first_fault past actor h.outcome.actions ≡ None
        → Claimed set states (with_thread w actor.thread h.outcome.shared
        (with_stack h.thread (standing set h.below h.outcome)))
    claimed_step h quiet =
        let t : ℕ = actor.thread in
        let top : OnTop set states w.shared h.frame = on_top set states w past good stands t h in
        let leaves : StepLeaves set states w.shared h.frame h.outcome =
        leaves_fine set states w.shared past actor stands.tells (top_of h.below) h.frame h.outcome
        top
        quiet h.comes in
        shape_claims set states w past good stands agree owned kept c actor h leaves
        (top_of h.below)
        h.frame h.outcome refl refl top (top_holding set states w past stands kept t h)
        (quiet_among is_touch past actor h.outcome.actions quiet) h.comes

    root_claimed : (i : IdleThread w actor.thread) (root : Root) → Beside set w.shared root
        → Claimed set states (root_begun w actor.thread i.thread root).world
    root_claimed i root (issues h) =
        root_claims actor.thread i root (issues h)
        (new_word (new_packet w.shared.issued h.d h.major h.argument h.device.stack) refl refl)
        refl (λ d n is. omega arith) (λ n. omega arith)
    root_claimed i root (takes_first h) =
        root_claims actor.thread i root (takes_first h) (λ n d q. refl) refl
        (λ d n is.
        omega (
          arith,
          entries_same w.shared
              (with_start w.shared h.d (without_first_to_start h.start)) h.d DeviceQueue 0
              h.start.device_queue h.start.device_queue
              (put_waiting w.shared h.d h.start (without_first_to_start h.start) h.has)
              (λ m. refl) d DeviceQueue n,
        ))
        (λ n.
        omega (
          arith,
          to_start_put w.shared.starts h.d h.start (without_first_to_start h.start) n h.has,
          waits_first h.start n,
        ))
    root_claimed i root beside =
        root_claims actor.thread i root beside (λ n d q. refl) refl (λ d n is. omega arith)
        (λ n. omega arith)

    pub claimed_kept : (change : Change) → Happens set w actor.thread change
        → first_fault past actor change.actions ≡ None → Claimed set states change.world
    claimed_kept change (nothing reply right) quiet = c
    claimed_kept change (steps h) quiet = claimed_step h quiet
    claimed_kept change (begins i root beside) quiet = root_claimed i root beside

-- before the first event
none_to_start : (devices n : ℕ) → times_to_start (replicate devices idle_start) n ≡ 0
none_to_start zero n = refl
none_to_start (suc devices) n = omega (arith, none_to_start devices n)

idle_names : (states : States) (g : Kind → Bool) (on : ℕ → Bool) (n threads : ℕ)
    → thread_sum (frame_names states g on n) (replicate threads idle_thread) ≡ 0
idle_names states g on n threads = idle_sum (frame_names states g on n) threads

pub claimed_begun : (set : Set) (states : States) (threads : ℕ)
    → Claimed set states (begun set threads).world
claimed_begun set states threads =
    let devices : ℕ = length set.devices in
    let none : (d : ℕ) (q : QueueName) (n : ℕ)
    → times_of (list_of (begun set threads).world.shared d q) n ≡ 0 =
    λ d q n.
    omega (
      arith,
      list_le (begun set threads).world.shared d q n,
      none_queued devices n,
      none_to_start devices n,
    ) in
    let idle : (g : Kind → Bool) (on : ℕ → Bool) (n : ℕ)
    → thread_sum (frame_names states g on n) (replicate threads idle_thread) ≡ 0 =
    λ g on n. idle_names states g on n threads in
    record {
      balanced = record {
        backed = λ d q n.
            omega (
              arith,
              idle (is_at Armed q) (λ e. nat_eq e d) n,
              idle (is_at Taken q) (λ e. nat_eq e d) n,
            );
        entered = λ d q n may.
            omega (arith, none d q n);
        standing = λ d q n is.
            omega (
              arith,
              idle (is_at Listed q) (λ e. nat_eq e d) n,
              idle (is_at Armed q) (λ e. nat_eq e d) n,
            );
        once = λ n.
            omega (
              arith,
              idle was_taken (λ e. true) n,
              none_queued devices n,
              none_to_start devices n,
            );
      };
      apart = λ t. subst (λ (frames : List Frame). Each (FrameApart states) frames)
          (sym (idle_frames threads t)) tt;
    }
